use Rattle.std.proofs.Common.{◌-◌}
use Rattle.bd_leaf.proofs.Finds.{IsHalving}
use Rattle.bd_leaf.proofs.place.Given as goal

abbrev pub invariant-loop-low : goal.invariant-loop-low
invariant-loop-low g l = IsHalving l.entries l.key l.low l.high l.fn.steps l.steps

abbrev pub decreases-loop-low : goal.decreases-loop-low
decreases-loop-low g l = l.high - l.low
