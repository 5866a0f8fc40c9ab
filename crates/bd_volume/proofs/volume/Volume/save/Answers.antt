-- A checkpoint that was made, or none at a fault.
use Rattle.std.proofs.Common.{refl}
use Rattle.std.proofs.lemmas.Result.{err_from_is_err_and}
use Rattle.bd_volume.specs.declared.volume.Volume.{Volume}
use Rattle.bd_volume.proofs.Called.{save_fails, save_untouched}
use Rattle.bd_volume.proofs.Keeping.{keeps_saved, keeps_unsaved}
use Rattle.bd_volume.proofs.volume.Volume.save.Goals as goal

pub returns-in_err-save-clause-keeps : goal.returns-in_err-save-clause-keeps
returns-in_err-save-clause-keeps g c =
    let h = c.in_err-save.ensures in
    let a : Volume g.row.D.Denot = c.args.self.now in
    keeps_unsaved g.D.Device a (record a { engine = c.save.new.self }) c.in_err-save.field-0.0 c.requires.going h.sound h.same refl h.time h.stop h.same_live h.same_log

pub returns-in_err-save-clause-ends : goal.returns-in_err-save-clause-ends
returns-in_err-save-clause-ends g c =
    let p = err_from_is_err_and c.from_residual.result c.from_residual.ensures.1 in
    let h = c.in_err-save.ensures in
    let a : Volume g.row.D.Denot = c.args.self.now in
    rw (p.1, p.2) (save_fails g.D.Device a (record a { engine = c.save.new.self }) c.in_err-save.field-0.0 h.later h.stop h.cause h.stays h.writes)

pub returns-in_err-save-clause-untouched : goal.returns-in_err-save-clause-untouched
returns-in_err-save-clause-untouched g c =
    let p = err_from_is_err_and c.from_residual.result c.from_residual.ensures.1 in
    let h = c.in_err-save.ensures in
    let a : Volume g.row.D.Denot = c.args.self.now in
    rw (p.1, p.2) (save_untouched g.D.Device a (record a { engine = c.save.new.self }) c.in_err-save.field-0.0 h.cause)

pub returns-clause-keeps : goal.returns-clause-keeps
returns-clause-keeps g c =
    let h = c.in_ok-save.ensures in
    let a : Volume g.row.D.Denot = c.args.self.now in
    keeps_saved g.D.Device a (record a { engine = c.save.new.self }) h.sound h.same refl h.time h.kept h.anew

pub returns-in_err-save-clause-same : goal.returns-in_err-save-clause-same
returns-in_err-save-clause-same g c = c.in_err-save.ensures.same

pub returns-clause-same : goal.returns-clause-same
returns-clause-same g c = c.in_ok-save.ensures.same
