-- What was found is answered, and the device is the one that was lent.
use Rattle.std.proofs.Common.{◌≡◌, ◌+◌, rules, arith}
use Rattle.std.specs.Prelude.{IfOk}
use Rattle.bd_device.specs.Device.{Stays}
use Rattle.bd_shell.specs.Fault.{IsCaused}
use Rattle.bd_shell.specs.Shell.{counts_of}
use Rattle.bd_check.specs.Verdicts.{SaysYes}
use Rattle.bd_calls.specs.Check.{KeepsImage}
use Rattle.bd_calls.specs.Work.{disk}
use Rattle.bd_calls.proofs.Checks.{answer_right, answer_why, answer_writes, caused_check, keeps_settled}
use Rattle.bd_calls.proofs.Runs.{as_last, same_tail}
use Rattle.bd_calls.proofs.checking.check_device.Goals as goal

pub returns-clause-right : goal.returns-clause-right
returns-clause-right g c =
    let checked = c.check-checked in
    answer_right g.D.Device (g.D.Device.contents c.args.dev.now) checked.result.found c.answer_of-answer.result c.answer_of-answer.ensures checked.ensures.verdict

pub returns-clause-why : goal.returns-clause-why
returns-clause-why g c =
    let checked = c.check-checked in
    answer_why _ _ checked.result.device checked.result.found c.answer_of-answer.result c.answer_of-answer.ensures checked.ensures.cause

pub returns-clause-keeps : goal.returns-clause-keeps
returns-clause-keeps g c =
    let D = g.D.Device in
    let checked = c.check-checked in
    as_last (λ e. KeepsImage (D.call_count c.args.dev.now + 1)
    (disk (D.contents c.args.dev.now) (D.call_count c.args.dev.now) (D.left_since c.args.dev.now) (D.write_fault_count c.args.dev.now) (D.last_failed c.args.dev.now))
    (disk (D.contents e) (D.call_count e) (D.left_since e) (D.write_fault_count e) (D.last_failed e)))
    _ checked.result.device.now (search rules)
    (keeps_settled _ _ checked.result.device c.blocks-2.ensures.shape checked.ensures.left checked.ensures.settles)

pub returns-clause-writes : goal.returns-clause-writes
returns-clause-writes g c =
    let D = g.D.Device in
    let checked = c.check-checked in
    as_last (λ e. IfOk c.answer_of-answer.result (λ verdict. SaysYes verdict → D.write_fault_count e ≡ D.write_fault_count c.args.dev.now)) _ checked.result.device.now (search rules)
    (answer_writes D _ checked.result.found c.answer_of-answer.result c.answer_of-answer.ensures checked.ensures.writes)

pub returns-clause-stays : goal.returns-clause-stays
returns-clause-stays g c =
    let checked = c.check-checked in
    let stays = checked.ensures.left.stays in
    as_last (λ e. Stays g.D.Device c.args.dev.now e) _ checked.result.device.now (search rules)
    (record { count = stays.count; same_name = stays.same_name; same_loans = same_tail _ _ _ _ stays.same_loans })

pub returns-clause-cause : goal.returns-clause-cause
returns-clause-cause g c sink =
    let D = g.D.Device in
    let checked = c.check-checked in
    as_last (λ e. IsCaused (counts_of D c.args.dev.now sink) (counts_of D e sink) (D.last_failed e) c.answer_of-answer.result) _ checked.result.device.now (search rules)
    (caused_check _ _ checked.result.device sink (omega (arith, c.faults.ensures, c.faults.type_inv)) checked.result.found c.answer_of-answer.result c.answer_of-answer.ensures checked.ensures.cause)
