use Rattle.std.proofs.Common.{◌-◌}
use Rattle.bd_node.proofs.ByStem.{IsStemHalving}
use Rattle.bd_node.proofs.stems.up_to.Given as goal

abbrev pub invariant-loop-low : goal.invariant-loop-low
invariant-loop-low l = IsStemHalving l.items l.stems l.key l.low l.high

abbrev pub decreases-loop-low : goal.decreases-loop-low
decreases-loop-low l = l.high - l.low
