-- The line is executed and its reply written, or a fault comes before it or within it.
use Rattle.std.proofs.Common.{refl, ◌∙◌}
use Rattle.std.proofs.lemmas.Result.{err_from_is_err_and}
use Rattle.bd_script.specs.Lines.{line_of}
use Rattle.bd_sessions.specs.declared.replies.TurnReply.TheVariants.{Line}
use Rattle.bd_shell.proofs.Alone.{acked_alone, fails_alone, may_alone, replies_alone, stop_alone}
use Rattle.bd_shell.proofs.Lines.{may_small, may_stop, wrote_caused, sink_caused, fault_as}
use Rattle.bd_shell.proofs.Turns.{line_fails}
use Rattle.bd_shell.proofs.shell.run_line.Goals as goal

pub returns-in_err-said-clause-err : goal.returns-in_err-said-clause-err
returns-in_err-said-clause-err g c =
    let p = err_from_is_err_and c.from_residual.result c.from_residual.ensures.1 in
    rw (p.1, p.2) (λ first since. line_fails c.in_err-said.field-0.0 _ _ _ _ _ c.in_err-said.ensures.fault refl c.in_err-said.ensures.unacked
    (λ s at. fails_alone c.in_err-said.field-0.0 s (line_of c.args.line.now) _ _ at.handles (λ t k none. record { volume = k; handles = none }) (c.in_err-said.ensures.err first since s at.volume)))

pub returns-in_err-said-clause-cause : goal.returns-in_err-said-clause-cause
returns-in_err-said-clause-cause g c =
    let p = err_from_is_err_and c.from_residual.result c.from_residual.ensures.1 in
    rw (p.1, p.2) (fault_as _ _ _ c.in_err-said.field-0.0 (c.in_err-said.ensures.cause (g.K.Sink.fault_count c.args.sink.now)))

pub returns-in_err-said-clause-writes : goal.returns-in_err-said-clause-writes
returns-in_err-said-clause-writes g c =
    let p = err_from_is_err_and c.from_residual.result c.from_residual.ensures.1 in
    rw (p.1, p.2) c.in_err-said.ensures.writes

pub write_reply-requires : goal.write_reply-requires
write_reply-requires g c = may_small _ c.in_ok-said.said c.in_ok-said.ensures.answer

pub returns-in-Ok-clause-ok : goal.returns-in-Ok-clause-ok
returns-in-Ok-clause-ok g c first since = record {
  said = Line c.in_ok-said.said;
  answer = may_alone (line_of c.args.line.now) c.in_ok-said.said c.in_ok-said.ensures.answer;
  one_line = c.in-Ok.ensures.one_line;
  written = c.in-Ok.ensures.ok;
  acked = acked_alone (line_of c.args.line.now) _ _ c.in_ok-said.ensures.acked;
  replies = λ s at. replies_alone s (line_of c.args.line.now) c.in_ok-said.said _ _ at.handles (λ t k none. record { volume = k; handles = none }) (c.in_ok-said.ensures.ok first since s at.volume);
}

pub returns-in-Ok-clause-flow : goal.returns-in-Ok-clause-flow
returns-in-Ok-clause-flow g c = c.flow_after.ensures ∙ may_stop _ c.in_ok-said.said c.in_ok-said.ensures.answer ∙ stop_alone (line_of c.args.line.now)

pub returns-in-Ok-clause-cause : goal.returns-in-Ok-clause-cause
returns-in-Ok-clause-cause g c =
    wrote_caused g.D.Device _ _ _ _ _ _ (c.in_ok-said.ensures.cause (g.K.Sink.fault_count c.args.sink.now)) c.in-Ok.ensures.cause.kept

pub returns-clause-err : goal.returns-clause-err
returns-clause-err g c first since = record {
  said = Line c.in_ok-said.said;
  answer = may_alone (line_of c.args.line.now) c.in_ok-said.said c.in_ok-said.ensures.answer;
  one_line = c.in-Err.ensures.one_line;
  part = c.in-Err.ensures.part;
  acked = acked_alone (line_of c.args.line.now) _ _ c.in_ok-said.ensures.acked;
  replies = λ s at. replies_alone s (line_of c.args.line.now) c.in_ok-said.said _ _ at.handles (λ t k none. record { volume = k; handles = none }) (c.in_ok-said.ensures.ok first since s at.volume);
}

pub returns-clause-cause : goal.returns-clause-cause
returns-clause-cause g c =
    sink_caused g.D.Device _ _ _ _ _ (c.in_ok-said.ensures.cause (g.K.Sink.fault_count c.args.sink.now)) c.in-Err.ensures.cause.later c.in-Err.ensures.cause.failed
