-- The pieces are executed, the last replies passed on, and all is made durable.
use Rattle.std.proofs.Common.{refl, ap, subst, ◌∙◌}
use Rattle.std.proofs.lemmas.Result.{err_from_is_err_and}
use Rattle.bd_sessions.specs.Spoken.{Single}
use Rattle.bd_shell.specs.Fault.{Faults, faults, IsCaused}
use Rattle.bd_shell.specs.Session.{breaks}
use Rattle.bd_shell.specs.Shell.{device_in}
use Rattle.bd_shell.proofs.Acks.{acks_one}
use Rattle.bd_shell.proofs.Executes.{on_ok_as, on_err_as}
use Rattle.bd_shell.proofs.Moving.{is_caused_beside}
use Rattle.bd_shell.proofs.Scripts.{session_faulted, session_keeps_last, session_close, session_stopped}
use Rattle.bd_shell.proofs.session.run_script.Goals as goal

pub returns-in_err-flow-clause-session : goal.returns-in_err-flow-clause-session
returns-in_err-flow-clause-session g c =
    let p = err_from_is_err_and c.from_residual.result c.from_residual.ensures.1 in
    rw (p.1, p.2) (λ first since. session_faulted Single c.in_err-flow.field-0.0 _ _ _ _ _ _ _ _ (c.in_err-flow.ensures.session first since))

pub returns-in_err-flush-clause-session : goal.returns-in_err-flush-clause-session
returns-in_err-flush-clause-session g c =
    let p = err_from_is_err_and c.from_residual-in_err-flush.result c.from_residual-in_err-flush.ensures.1 in
    rw (p.1, p.2, c.in_err-flush.ensures.kind)
    (λ first since. session_keeps_last Single _ _ c.in_ok-flow.flow _ _ _ _ _ _ _ (c.in_ok-flow.ensures.session first since) c.in_err-flush.ensures.bytes refl)

pub returns-in-Continue-clause-session : goal.returns-in-Continue-clause-session
returns-in-Continue-clause-session g c first since =
    session_close Single c.close.result _ _ _ c.in_ok-flow.flow _ _ _ _ _ _ _ (c.in_ok-flow.ensures.session first since) c.in_ok-flush.ensures.bytes (ap breaks c.in-Continue.is)
    (on_ok_as c.close.result _ _ (λ f. f first since) c.close.ensures.ok) (on_err_as c.close.result _ _ (λ f. f first since) c.close.ensures.err)
    (on_ok_as c.close.result _ _ (acks_one _ _ _) c.close.ensures.acked) c.close.ensures.unacked c.close.ensures.kind

pub returns-in-Continue-clause-cause : goal.returns-in-Continue-clause-cause
returns-in-Continue-clause-cause g c =
    let d = g.D.Device.fault_count (device_in c.run_pieces.new.shell) in
    let e = g.D.Device.fault_count (device_in c.close.new.self) in
    let src = g.S.Source.fault_count c.run_pieces.new.src in
    let sink = g.K.Sink.fault_count c.flush.new.sink in
    let last = g.D.Device.last_failed (device_in c.close.new.self) in
    subst (λ f. IsCaused f (faults e src sink) last c.close.result)
    (ap (λ (f : Faults). faults d src f.sink) c.in_ok-flush.ensures.cause.kept ∙ c.in_ok-flow.ensures.cause.kept)
    (is_caused_beside c.close.result d sink e sink src last (c.close.ensures.cause sink))

pub returns-in-Break-clause-session : goal.returns-in-Break-clause-session
returns-in-Break-clause-session g c first since =
    session_stopped Single _ _ c.in_ok-flow.flow _ _ _ _ _ _ _ (c.in_ok-flow.ensures.session first since) c.in_ok-flush.ensures.bytes refl (ap breaks c.in-Break.is)
