use Rattle.bd_inner.proofs.FreedMessages.{IsStartTo}
use Rattle.bd_inner.proofs.clipping.start_of.Given as goal

abbrev pub invariant-loop-place : goal.invariant-loop-place
invariant-loop-place l = IsStartTo l.parts l.place l.start
