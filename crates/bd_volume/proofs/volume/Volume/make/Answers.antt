-- What the engine changes the view is changed by, and a fault has its cause.
use Rattle.std.proofs.Common.{◌<◌, ◌^◌, refl, ap, arith}
use Rattle.std.proofs.lemmas.Result.{err_from_is_err_and}
use Rattle.bd_node.specs.Tables.{IsSound}
use Rattle.bd_pager.specs.Pagers.{nodes_of, table_of, is_known, is_bad}
use Rattle.bd_engine.specs.Engines.{EngineState}
use Rattle.bd_engine.specs.Reclaiming.{IsWornToChange}
use Rattle.bd_volume.specs.declared.volume.Volume.{Volume}
use Rattle.bd_volume.specs.Volume.{view_of}
use Rattle.bd_volume.proofs.Called.{read_fails}
use Rattle.bd_volume.proofs.Keeping.{keeps_nodes}
use Rattle.bd_volume.proofs.Reclaims.{change_fails, change_shows, made_once, next_low}
use Rattle.bd_volume.proofs.Writes.{writes_read}
use Rattle.bd_volume.proofs.volume.Volume.make.Goals as goal

pub returns-in_err-made-clause-fails : goal.returns-in_err-made-clause-fails
returns-in_err-made-clause-fails g c =
    let p = err_from_is_err_and c.from_residual.result c.from_residual.ensures.1 in
    let h = c.in_err-made.ensures in
    let was = c.args.self.now.engine.pager in
    let new : Volume g.row.D.Denot = record { engine = c.make_change-made.new.self; count = c.args.self.now.count } in
    rw (p.1, p.2) (λ s next. change_fails (is_known g.D.Device was × IsSound (nodes_of g.D.Device was) (table_of was)) _ _ _ (is_bad g.D.Device c.make_change-made.new.self.pager) c.args.pushes c.args.change (view_of g.D.Device c.args.self.now) (view_of g.D.Device new) c.in_err-made.field-0.0
    (c.sound_nodes_are_undamaged.ensures (h.sound s)) (λ sound. (s.known, sound)) next h.err.view h.cause.failed)

pub returns-in_err-made-clause-ends : goal.returns-in_err-made-clause-ends
returns-in_err-made-clause-ends g c =
    let p = err_from_is_err_and c.from_residual.result c.from_residual.ensures.1 in
    let h = c.in_err-made.ensures in
    rw (p.1, p.2) (read_fails g.D.Device c.args.self.now (record { engine = c.make_change-made.new.self; count = c.args.self.now.count }) (IsWornToChange g.D.Device c.args.self.now.engine.pager c.args.change) c.in_err-made.field-0.0
    c.requires.going (ap (λ (e : EngineState g.row.D.Denot). e.stop) h.err.rest) h.err.read.device h.cause (writes_read g.D.Device c.args.self.now.engine c.make_change-made.new.self h.err))

pub returns-clause-made : goal.returns-clause-made
returns-clause-made g c = λ s next room.
    let h = c.in_ok-made.ensures in
    let old = view_of g.D.Device c.args.self.now in
    let new : Volume g.row.D.Denot = record { engine = c.make_change-made.new.self; count = c.args.self.now.count } in
    let low : c.args.pushes < 2 ^ 64 = omega (arith, c.ranges.pushes.fits) in
    made_once c.args.pushes c.pushes_after-after.result c.args.change old old (view_of g.D.Device new) refl next
    (record { next = next; room = room; made = h.made s; reclaimed = h.reclaimed s; walk_is = h.walk; rest = h.only.view s.known })
    (h.less s) (c.pushes_after-after.ensures (next_low c.args.pushes c.args.change old next low))

pub returns-in_err-made-clause-keeps : goal.returns-in_err-made-clause-keeps
returns-in_err-made-clause-keeps g c =
    let h = c.in_err-made.ensures in
    let a : Volume g.row.D.Denot = c.args.self.now in
    let b : Volume g.row.D.Denot = record { engine = c.make_change-made.new.self; count = a.count } in
    keeps_nodes g.D.Device a b (g.met.D.Device.since_earlier b.engine.pager.dev) h.only h.sound h.same refl

pub returns-clause-keeps : goal.returns-clause-keeps
returns-clause-keeps g c =
    let h = c.in_ok-made.ensures in
    let a : Volume g.row.D.Denot = c.args.self.now in
    let b : Volume g.row.D.Denot = record { engine = c.make_change-made.new.self; count = a.count } in
    keeps_nodes g.D.Device a b (g.met.D.Device.since_earlier b.engine.pager.dev) h.only h.sound h.same refl

pub returns-in_err-made-clause-shows : goal.returns-in_err-made-clause-shows
returns-in_err-made-clause-shows g c =
    let p = err_from_is_err_and c.from_residual.result c.from_residual.ensures.1 in
    let h = c.in_err-made.ensures in
    rw (p.1, p.2) (change_shows g.D.Device _ _ _ (is_bad g.D.Device c.make_change-made.new.self.pager) c.args.self.now.engine c.make_change-made.new.self c.args.change c.in_err-made.field-0.0 c.requires.may h.err.read h.cause.failed)
