use Rattle.std.proofs.Common.{◌-◌}
use Rattle.bd_node.proofs.Places.{IsHalving}
use Rattle.bd_node.proofs.edge.place.Given as goal

abbrev pub invariant-loop-high : goal.invariant-loop-high
invariant-loop-high g l = IsHalving l.edges l.key l.low l.high l.fn.steps l.steps

abbrev pub decreases-loop-high : goal.decreases-loop-high
decreases-loop-high g l = l.high - l.low
