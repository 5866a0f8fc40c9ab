-- The command is the line of a script, and no handle is open.
use Rattle.std.proofs.lemmas.Result.{err_from_is_err_and}
use Rattle.std.specs.declared.result.Result.TheVariants.{Ok}
use Rattle.bd_script.specs.declared.line.Line.TheVariants.{Run}
use Rattle.bd_shell.proofs.Acks.{acks_same}
use Rattle.bd_shell.proofs.Alone.{fails_alone, replies_alone}
use Rattle.bd_shell.proofs.Lines.{fault_as}
use Rattle.bd_shell.proofs.shell.Shell.do_command.Goals as goal

pub returns-clause-ok : goal.returns-clause-ok
returns-clause-ok g c first since s at =
    replies_alone s (Ok (Run c.args.command)) c.in_ok-said.said _ _ at.handles (λ t k none. record { volume = k; handles = none }) (c.in_ok-said.ensures.ok first since s at.volume)

pub returns-clause-answer : goal.returns-clause-answer
returns-clause-answer g c = (c.in_ok-said.ensures.answer, c.is_one_line.ensures)

pub returns-clause-unacked : goal.returns-clause-unacked
returns-clause-unacked g c = acks_same _ _ c.in_ok-said.ensures.acked

pub returns-in_err-said-clause-err : goal.returns-in_err-said-clause-err
returns-in_err-said-clause-err g c =
    let p = err_from_is_err_and c.from_residual.result c.from_residual.ensures.1 in
    rw (p.1, p.2) (λ first since s at.
    fails_alone c.in_err-said.field-0.0 s (Ok (Run c.args.command)) _ _ at.handles (λ t k none. record { volume = k; handles = none }) (c.in_err-said.ensures.err first since s at.volume))

pub returns-in_err-said-clause-cause : goal.returns-in_err-said-clause-cause
returns-in_err-said-clause-cause g c =
    let p = err_from_is_err_and c.from_residual.result c.from_residual.ensures.1 in
    rw (p.1, p.2) (λ sink. fault_as _ _ _ c.in_err-said.field-0.0 (c.in_err-said.ensures.cause sink))
