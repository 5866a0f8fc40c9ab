use Rattle.std.proofs.Common.{◌-◌}
use Rattle.bd_node.proofs.Spots.{IsSpotHalving}
use Rattle.bd_node.proofs.index.halved.Given as goal

abbrev pub invariant-loop-low : goal.invariant-loop-low
invariant-loop-low g l = IsSpotHalving l.items l.points (l.key, l.place) l.low l.high l.fn.steps l.steps

abbrev pub decreases-loop-low : goal.decreases-loop-low
decreases-loop-low g l = l.high - l.low
