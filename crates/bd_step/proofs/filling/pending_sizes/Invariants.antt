use Rattle.bd_step.proofs.PendingAll.{AreSoFar}
use Rattle.bd_step.proofs.filling.pending_sizes.Given as goal

abbrev pub invariant-loop-place : goal.invariant-loop-place
invariant-loop-place l = AreSoFar l.edges l.buffer l.place l.sizes.items
