-- What was recovered is looked at, or it isn't.
use Rattle.std.proofs.Common.{Option, refl, subst, ◌∙◌}
use Rattle.std.specs.Prelude.{IfOk}
use Rattle.bd_device.specs.Blocks.{Image}
use Rattle.bd_device.proofs.Calls.{reads_then}
use Rattle.bd_check.specs.Verdicts.{IsRightOf}
use Rattle.bd_check.proofs.Recoveries.{cause_after, cause_image, found_named, is_recovered}
use Rattle.bd_check.proofs.Settled.{on_any, settles_read, settled_on}
use Rattle.bd_check.proofs.checking.check_device.Goals as goal

pub check_recovered-requires : goal.check_recovered-requires
check_recovered-requires g c =
    let h = c.in-Ok.ensures in
    is_recovered g.D.Device (g.D.Device.contents c.args.dev) c.in-Ok.recovered h.reads.kept h.opened h.open h.room h.known h.stored h.batches h.idle h.commands

pub returns-in-Ok-clause-verdict : goal.returns-in-Ok-clause-verdict
returns-in-Ok-clause-verdict g c =
    subst (λ (o : Option Image). IfOk c.check_recovered.result.1 (IsRightOf o)) c.in-Ok.ensures.reads.kept c.check_recovered.ensures.verdict

pub returns-in-Ok-clause-left : goal.returns-in-Ok-clause-left
returns-in-Ok-clause-left g c = settles_read g.D.Device c.args.dev c.check_recovered.result.0 (reads_then c.in-Ok.ensures.reads c.check_recovered.ensures.reads)

pub returns-in-Ok-clause-settles : goal.returns-in-Ok-clause-settles
returns-in-Ok-clause-settles g c = λ some calm. settled_on g.D.Device c.args.dev c.in-Ok.recovered.pager.dev c.check_recovered.result.0 c.in-Ok.ensures.settled c.check_recovered.ensures.reads

pub returns-in-Ok-clause-writes : goal.returns-in-Ok-clause-writes
returns-in-Ok-clause-writes g c = on_any c.check_recovered.result.1 _ (c.check_recovered.ensures.reads.write_faults ∙ c.in-Ok.ensures.reads.write_faults)

pub returns-in-Ok-clause-cause : goal.returns-in-Ok-clause-cause
returns-in-Ok-clause-cause g c =
    cause_after g.D.Device c.check_recovered.result.1 c.args.dev c.in-Ok.recovered.pager.dev c.check_recovered.result.0 c.in-Ok.ensures.reads.kept c.in-Ok.ensures.faults c.check_recovered.ensures.cause

pub returns-in-Err-clause-cause : goal.returns-in-Err-clause-cause
returns-in-Err-clause-cause g c =
    let D = g.D.Device in
    let refused = c.in-Err.refused in
    cause_image D c.args.dev refused.device refused.device _ refused.fault c.from.result c.from.ensures refl (λ block bad. found_named D (D.contents c.args.dev) block bad) c.in-Err.ensures.cause
