-- The question is executed, and its reply taken; or a fault comes before it.
use Rattle.std.proofs.Common.{refl, subst, inr}
use Rattle.std.proofs.lemmas.Result.{err_from_is_err_and}
use Rattle.bd_script.specs.declared.replies.LineReply.{LineReply}
use Rattle.bd_sessions.specs.declared.replies.TurnReply.TheVariants.{Line as Said}
use Rattle.bd_stream.specs.Answering.{seen}
use Rattle.bd_shell.specs.Fault.{IsCaused}
use Rattle.bd_shell.specs.Shell.{RepliesTo, ShellAt, counts_of, device_in}
use Rattle.bd_shell.specs.Transcript.{IsAnswered, commanded}
use Rattle.bd_shell.proofs.Lines.{fault_as}
use Rattle.bd_shell.proofs.Moving.{went_on}
use Rattle.bd_transfer.proofs.Asked.{answer_one}
use Rattle.bd_transfer.proofs.exporting.ask_one.Goals as goal

pub returns-in_err-reply-clause-cause : goal.returns-in_err-reply-clause-cause
returns-in_err-reply-clause-cause g c =
    let p = err_from_is_err_and c.from_residual.result c.from_residual.ensures.1 in
    rw (p.1, p.2) (fault_as _ _ _ c.in_err-reply.field-0.0 (c.in_err-reply.ensures.cause (g.K.Sink.fault_count c.args.sink.now)))

pub returns-in-Command-clause-one : goal.returns-in-Command-clause-one
returns-in-Command-clause-one g c first since =
    answer_one c.write_answer.result (seen c.args.exporter.now) _ c.in-Command.reply _ _ _ _
    (record {
      command = c.args.command;
      asks = c.requires.asked;
      answered = subst (λ (r : LineReply). IsAnswered (record { line = commanded c.args.command; said = Said r })) c.in-Command.is c.in_ok-reply.ensures.answer;
      runs = λ t at. subst (λ (r : LineReply). RepliesTo t (commanded c.args.command) (Said r) (ShellAt g.D.Device first since c.do_command.new.self)) c.in-Command.is (c.in_ok-reply.ensures.ok first since t at);
    })
    c.write_answer.ensures.ok c.write_answer.ensures.err

pub returns-in-Command-clause-cause : goal.returns-in-Command-clause-cause
returns-in-Command-clause-cause g c =
    let d = device_in c.do_command.new.self in
    subst (λ f. IsCaused f (counts_of g.D.Device d (g.K.Sink.fault_count c.write_answer.new.sink)) (g.D.Device.last_failed d) c.write_answer.result)
    (c.in_ok-reply.ensures.cause (g.K.Sink.fault_count c.args.sink.now)).kept (c.write_answer.ensures.cause (g.D.Device.fault_count d) (g.D.Device.last_failed d))

pub returns-in-Full-clause-one : goal.returns-in-Full-clause-one
returns-in-Full-clause-one g c first since =
    inr (
      refl,
      record {
        command = c.args.command;
        asks = c.requires.asked;
        free = c.in-Full.free;
        need = c.in-Full.need;
        answered = subst (λ (r : LineReply). IsAnswered (record { line = commanded c.args.command; said = Said r })) c.in-Full.is c.in_ok-reply.ensures.answer;
        runs = λ t at. subst (λ (r : LineReply). RepliesTo t (commanded c.args.command) (Said r) (ShellAt g.D.Device first since c.do_command.new.self)) c.in-Full.is (c.in_ok-reply.ensures.ok first since t at);
      },
      (refl, refl),
    )

pub returns-in-Full-clause-cause : goal.returns-in-Full-clause-cause
returns-in-Full-clause-cause g c = went_on _ _ _ _ (c.in_ok-reply.ensures.cause (g.K.Sink.fault_count c.args.sink.now)).kept
