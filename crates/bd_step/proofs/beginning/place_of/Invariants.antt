use Rattle.bd_step.proofs.Begins.{NoneAsks}
use Rattle.bd_step.proofs.beginning.place_of.Given as goal

abbrev pub invariant-loop-place : goal.invariant-loop-place
invariant-loop-place l = NoneAsks l.node l.child l.place
