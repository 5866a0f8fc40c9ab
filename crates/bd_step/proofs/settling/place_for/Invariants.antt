use Rattle.bd_step.proofs.Alongs.{NoneLies}
use Rattle.bd_step.proofs.settling.place_for.Given as goal

abbrev pub invariant-loop-place : goal.invariant-loop-place
invariant-loop-place l = NoneLies l.node l.prefix l.place
