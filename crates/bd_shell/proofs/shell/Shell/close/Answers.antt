-- The handles stay as they are.
use Rattle.bd_shell.proofs.Executes.{on_ok_as, on_err_as}
use Rattle.bd_shell.proofs.shell.Shell.close.Goals as goal

pub returns-clause-ok : goal.returns-clause-ok
returns-clause-ok g c =
    on_ok_as c.acknowledge.result _ _ (λ ok first since s at. let k = ok first since s at.volume in
    record { calls = k.calls; later = k.later; reached = record { volume = k.reached; handles = at.handles } }) c.acknowledge.ensures.ok

pub returns-clause-err : goal.returns-clause-err
returns-clause-err g c =
    on_err_as c.acknowledge.result _ _ (λ err first since s at. let k = err first since s at.volume in
    record { calls = k.calls; later = k.later; reached = record { volume = k.reached; handles = at.handles } }) c.acknowledge.ensures.err
