use Rattle.std.proofs.Common.{◌-◌}
use Rattle.bd_node.proofs.Spots.{IsCounting}
use Rattle.bd_node.proofs.index.count_below.Given as goal

abbrev pub invariant-loop-low : goal.invariant-loop-low
invariant-loop-low l = IsCounting l.ranges l.from l.low l.high

abbrev pub decreases-loop-low : goal.decreases-loop-low
decreases-loop-low l = l.high - l.low
