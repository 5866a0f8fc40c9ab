-- A line that was read means what its bytes mean.
use Rattle.std.proofs.Common.{ap, refl}
use Rattle.std.specs.declared.result.Result.TheVariants.{Err}
use Rattle.bd_shell.proofs.Left.{leaves_all}
use Rattle.bd_shell.proofs.Lines.{unread_replies, acks_still}
use Rattle.bd_shell.proofs.shell.execute_line.Goals as goal

pub returns-in-Ok-clause-ok : goal.returns-in-Ok-clause-ok
returns-in-Ok-clause-ok g c = rw c.in-Ok.ensures.meaning c.execute.ensures.ok

pub returns-in-Ok-clause-err : goal.returns-in-Ok-clause-err
returns-in-Ok-clause-err g c = rw c.in-Ok.ensures.meaning c.execute.ensures.err

pub returns-in-Ok-clause-answer : goal.returns-in-Ok-clause-answer
returns-in-Ok-clause-answer g c = rw c.in-Ok.ensures.meaning c.execute.ensures.answer

pub returns-in-Err-BadLine-clause-ok : goal.returns-in-Err-BadLine-clause-ok
returns-in-Err-BadLine-clause-ok g c first since s at =
    unread_replies g.D.Device c.args.kept.now.volume s _ _ _ at.at at (c.in-Err-BadLine.ensures.bad_line.0 (ap Err c.in-Err-BadLine.field-0-is))

pub returns-in-Err-BadPath-clause-ok : goal.returns-in-Err-BadPath-clause-ok
returns-in-Err-BadPath-clause-ok g c first since s at =
    unread_replies g.D.Device c.args.kept.now.volume s _ _ _ at.at at (c.in-Err-BadPath.ensures.bad_path.0 (ap Err c.in-Err-BadPath.field-0-is))

pub returns-in-Err-NoMemory-clause-err : goal.returns-in-Err-NoMemory-clause-err
returns-in-Err-NoMemory-clause-err g c first since s at = leaves_all _ s _ at

pub returns-in-Ok-clause-acked : goal.returns-in-Ok-clause-acked
returns-in-Ok-clause-acked g c = rw c.in-Ok.ensures.meaning c.execute.ensures.acked

pub returns-in-Err-BadLine-clause-acked : goal.returns-in-Err-BadLine-clause-acked
returns-in-Err-BadLine-clause-acked g c = acks_still _ (Err _) _ (c.in-Err-BadLine.ensures.bad_line.0 (ap Err c.in-Err-BadLine.field-0-is)) refl

pub returns-in-Err-BadPath-clause-acked : goal.returns-in-Err-BadPath-clause-acked
returns-in-Err-BadPath-clause-acked g c = acks_still _ (Err _) _ (c.in-Err-BadPath.ensures.bad_path.0 (ap Err c.in-Err-BadPath.field-0-is)) refl
