-- An image that isn't attached isn't looked at, and one that is goes by its name.
use Rattle.std.proofs.Common.{Option, sym, subst, ◌∙◌}
use Rattle.std.specs.Prelude.{IfErr, IfOk}
use Rattle.bd_device.specs.Blocks.{Image}
use Rattle.bd_shell.proofs.Surviving.{on_ok_of, on_err_of}
use Rattle.bd_check.specs.Verdicts.{IsRightOf}
use Rattle.bd_calls.specs.Check.{KeepsFromAnswering}
use Rattle.bd_calls.proofs.Checks.{caused_attached, keeps_detached, keeps_attached}
use Rattle.bd_calls.proofs.Runs.{counted_once}
use Rattle.bd_calls.proofs.checking.check_image.Goals as goal

pub returns-then-is_err-clause-keeps : goal.returns-then-is_err-clause-keeps
returns-then-is_err-clause-keeps g c =
    let bad = sym c.is_err.ensures.value ∙ c.if-is_err.true in
    keeps_detached _ _ (on_err_of c.attach.result _ bad c.attach.ensures.behind) c.attach.ensures.write_faults c.attach.ensures.calls.counted (on_err_of c.attach.result _ bad c.attach.ensures.behind_time)

pub returns-clause-right : goal.returns-clause-right
returns-clause-right g c =
    let good = sym c.is_err.ensures.value ∙ c.if-is_err.false in
    subst (λ (o : Option Image). IfOk c.check_device.result (IsRightOf o)) (on_ok_of c.attach.result _ good c.attach.ensures.shown) c.check_device.ensures.right

pub returns-clause-why : goal.returns-clause-why
returns-clause-why g c =
    let good = sym c.is_err.ensures.value ∙ c.if-is_err.false in
    subst (λ (o : Option Image). IfErr c.check_device.result (KeepsFromAnswering o)) (on_ok_of c.attach.result _ good c.attach.ensures.shown) c.check_device.ensures.why

pub returns-clause-keeps : goal.returns-clause-keeps
returns-clause-keeps g c =
    let good = sym c.is_err.ensures.value ∙ c.if-is_err.false in
    let named = c.check_device.ensures.stays.same_name c.args.image.now (on_ok_of c.attach.result _ good c.attach.ensures.named) in
    keeps_attached _ _ _ _ _ _ _ _ _ (on_ok_of c.attach.result _ good c.attach.ensures.shown) (counted_once _ _ c.attach.result c.attach.ensures.calls good)
    c.attach.ensures.write_faults (on_ok_of c.attach.result _ good c.attach.ensures.time) (g.met.D.Attach.shows_named _ c.args.image.now named)
    (λ t i. g.met.D.Attach.left_named _ c.args.image.now t i named) c.check_device.ensures.keeps

pub returns-clause-cause : goal.returns-clause-cause
returns-clause-cause g c sink =
    let good = sym c.is_err.ensures.value ∙ c.if-is_err.false in
    caused_attached g.D.Device _ _ _ sink c.check_device.result (on_ok_of c.attach.result _ good c.attach.ensures.cause.kept) (c.check_device.ensures.cause sink)
