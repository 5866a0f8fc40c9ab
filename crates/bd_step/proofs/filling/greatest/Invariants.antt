use Rattle.bd_step.proofs.PendingAll.{IsGreatestSoFar}
use Rattle.bd_step.proofs.filling.greatest.Given as goal

abbrev pub invariant-loop-place : goal.invariant-loop-place
invariant-loop-place l = IsGreatestSoFar l.sizes l.place l.full.place l.full.bytes
