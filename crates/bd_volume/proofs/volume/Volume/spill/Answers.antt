-- What it stands for stays, also where a write fails.
use Rattle.std.proofs.Common.{refl}
use Rattle.bd_volume.specs.declared.volume.Volume.{Volume}
use Rattle.bd_volume.proofs.Early.{keeps_early}
use Rattle.bd_volume.proofs.Synced.{sync_well, sync_fails}
use Rattle.bd_volume.proofs.Writes.{writes_early}
use Rattle.bd_volume.proofs.volume.Volume.spill.Goals as goal

pub returns-in-Ok-clause-keeps : goal.returns-in-Ok-clause-keeps
returns-in-Ok-clause-keeps g c =
    let h = c.in-Ok.ensures in
    let a : Volume g.row.D.Denot = c.args.self.now in
    keeps_early g.D.Device a (record a { engine = c.spill.new.self }) c.requires h.early h.sound h.same refl

pub returns-in-Err-clause-keeps : goal.returns-in-Err-clause-keeps
returns-in-Err-clause-keeps g c =
    let h = c.in-Err.ensures in
    let a : Volume g.row.D.Denot = c.args.self.now in
    keeps_early g.D.Device a (record a { engine = c.spill.new.self }) c.requires h.early h.sound h.same refl

pub returns-in-Ok-clause-ends : goal.returns-in-Ok-clause-ends
returns-in-Ok-clause-ends g c =
    let h = c.in-Ok.ensures in
    let a : Volume g.row.D.Denot = c.args.self.now in
    sync_well g.D.Device a (record a { engine = c.spill.new.self }) _ h.cause.kept h.goes h.write_faults h.early.stays (writes_early g.D.Device a.engine c.spill.new.self h.early)

pub returns-in-Err-clause-ends : goal.returns-in-Err-clause-ends
returns-in-Err-clause-ends g c =
    let h = c.in-Err.ensures in
    let a : Volume g.row.D.Denot = c.args.self.now in
    sync_fails g.D.Device a (record a { engine = c.spill.new.self }) h.cause.later h.cause.failed h.stop h.early.stays (writes_early g.D.Device a.engine c.spill.new.self h.early)

pub returns-in-Ok-clause-same : goal.returns-in-Ok-clause-same
returns-in-Ok-clause-same g c = c.in-Ok.ensures.same

pub returns-in-Err-clause-same : goal.returns-in-Err-clause-same
returns-in-Err-clause-same g c = c.in-Err.ensures.same
