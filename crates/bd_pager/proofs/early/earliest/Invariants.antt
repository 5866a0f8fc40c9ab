use Rattle.std.proofs.Common.{length}
use Rattle.bd_pager.specs.Counting.{AreListed}
use Rattle.bd_pager.specs.Places.{spots_in}
use Rattle.bd_pager.proofs.early.earliest.Given as goal

abbrev pub invariant-loop-id : goal.invariant-loop-id
invariant-loop-id l = AreListed (spots_in l.spots) l.listed

abbrev pub decreases-loop-id : goal.decreases-loop-id
decreases-loop-id l = length l.listed.keys
