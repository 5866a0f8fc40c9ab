use Rattle.bd_node.proofs.InPlace.{IsKeeping}
use Rattle.bd_node.proofs.staying.keep.Given as goal

abbrev pub invariant-loop-place : goal.invariant-loop-place
invariant-loop-place l = IsKeeping l.mask l.fn.items.items l.items.items l.place l.kept
