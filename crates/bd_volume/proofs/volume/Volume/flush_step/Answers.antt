-- Room is made, and a flush step is one of the command's.
use Rattle.std.proofs.Common.{◌≡◌, true, false, refl, sym, subst, ap}
use Rattle.std.specs.Prelude.{Ok}
use Rattle.std.proofs.lemmas.Result.{err_from_is_err_and}
use Rattle.std.specs.Option.{option_copied}
use Rattle.bd_view.specs.Trees.{IsSettledFor}
use Rattle.bd_view.specs.Views.{View}
use Rattle.bd_engine.specs.Engines.{EngineState, IsWornIn}
use Rattle.bd_volume.specs.declared.volume.Volume.{Volume}
use Rattle.bd_volume.specs.Volume.{view_of}
use Rattle.bd_volume.proofs.Called.{went_on, goes_then, ends_then, ends_err, ends_well, read_goes, read_fails}
use Rattle.bd_volume.proofs.Faulted.{flush_fails, flush_shows}
use Rattle.bd_volume.proofs.Keeping.{keeps_nodes, keeps_then}
use Rattle.bd_volume.proofs.Room.{room_nodes}
use Rattle.bd_volume.proofs.Stepped.{one_flush}
use Rattle.bd_volume.proofs.Writes.{writes_read, writes_nodes}
use Rattle.bd_volume.proofs.volume.Volume.flush_step.Goals as goal

pub returns-in_err-flushed-clause-fails : goal.returns-in_err-flushed-clause-fails
returns-in_err-flushed-clause-fails g c = λ s.
    let p = err_from_is_err_and c.from_residual-in_err-flushed.result c.from_residual-in_err-flushed.ensures.1 in
    let h = c.in_err-flushed.ensures in
    let a : Volume g.row.D.Denot = c.make_room.new.self in
    let b : Volume g.row.D.Denot = record a { engine = c.flush-flushed.new.self } in
    let sound = c.in_ok-make_room.ensures.sound s in
    rw (p.1, p.2) (flush_fails g.D.Device _ _ _ a b c.args.command.now c.in_err-flushed.field-0.0 sound.known (h.rest (λ e. cc)).view (c.sound_nodes_are_undamaged.ensures (h.sound sound)) h.cause.failed)

pub returns-in_err-flushed-clause-shows : goal.returns-in_err-flushed-clause-shows
returns-in_err-flushed-clause-shows g c =
    let p = err_from_is_err_and c.from_residual-in_err-flushed.result c.from_residual-in_err-flushed.ensures.1 in
    let h = c.in_err-flushed.ensures in
    let a : Volume g.row.D.Denot = c.make_room.new.self in
    let b : Volume g.row.D.Denot = record a { engine = c.flush-flushed.new.self } in
    rw (p.1, p.2) (flush_shows g.D.Device _ _ _ a b c.args.command.now c.in_err-flushed.field-0.0 (h.rest (λ e. cc)).read h.cause.failed)

pub returns-in_err-flushed-clause-ends : goal.returns-in_err-flushed-clause-ends
returns-in_err-flushed-clause-ends g c =
    let p = err_from_is_err_and c.from_residual-in_err-flushed.result c.from_residual-in_err-flushed.ensures.1 in
    let h = c.in_err-flushed.ensures in
    let a : Volume g.row.D.Denot = c.make_room.new.self in
    let b : Volume g.row.D.Denot = record a { engine = c.flush-flushed.new.self } in
    let left = h.rest (λ e. cc) in
    let first = went_on g.D.Device c.args.self.now a _ c.in_ok-make_room.ensures.ends c.in_ok-make_room.ensures.count_stays in
    rw (p.1, p.2) (ends_then g.D.Device c.args.self.now a b _ first
    (read_fails g.D.Device a b (IsWornIn g.D.Device a.engine.pager c.args.command.now) c.in_err-flushed.field-0.0 first.going.stop_is (ap (λ (e : EngineState g.row.D.Denot). e.stop) left.rest) left.read.device h.cause (writes_read g.D.Device a.engine b.engine left)))

pub returns-clause-flushed : goal.returns-clause-flushed
returns-clause-flushed g c = λ s is.
    let h = c.in_ok-flushed.ensures in
    let a : Volume g.row.D.Denot = c.make_room.new.self in
    let b : Volume g.row.D.Denot = record a { engine = c.flush-flushed.new.self } in
    let sound = c.in_ok-make_room.ensures.sound s in
    let on : c.in_ok-flushed.field-0 ≡ true = cc in
    one_flush c.args.command.now (view_of g.D.Device c.args.self.now) (view_of g.D.Device a) (view_of g.D.Device b) (c.in_ok-make_room.ensures.steps s)
    (record { room = c.in_ok-make_room.ensures.room; flushes = h.flushes sound (ap Ok on); rest = h.only.view sound.known })

pub returns-clause-settled : goal.returns-clause-settled
returns-clause-settled g c = λ s is.
    let h = c.in_ok-flushed.ensures in
    let off : c.in_ok-flushed.field-0 ≡ false = cc in
    subst (λ (v : View). IsSettledFor (option_copied c.args.source) v.tree) (sym (h.rest (λ e. cc)).view) (h.settled (c.in_ok-make_room.ensures.sound s) (ap Ok off))

pub returns-in_err-flushed-clause-keeps : goal.returns-in_err-flushed-clause-keeps
returns-in_err-flushed-clause-keeps g c =
    let h = c.in_err-flushed.ensures in
    let a : Volume g.row.D.Denot = c.make_room.new.self in
    let b : Volume g.row.D.Denot = record a { engine = c.flush-flushed.new.self } in
    keeps_then g.D.Device c.args.self.now a b (g.met.D.Device.since_earlier a.engine.pager.dev) c.in_ok-make_room.ensures.keeps
    (keeps_nodes g.D.Device a b (g.met.D.Device.since_earlier b.engine.pager.dev) h.only h.sound h.same refl)

pub returns-clause-keeps : goal.returns-clause-keeps
returns-clause-keeps g c =
    let h = c.in_ok-flushed.ensures in
    let a : Volume g.row.D.Denot = c.make_room.new.self in
    let b : Volume g.row.D.Denot = record a { engine = c.flush-flushed.new.self } in
    keeps_then g.D.Device c.args.self.now a b (g.met.D.Device.since_earlier a.engine.pager.dev) c.in_ok-make_room.ensures.keeps
    (keeps_nodes g.D.Device a b (g.met.D.Device.since_earlier b.engine.pager.dev) h.only h.sound h.same refl)

pub returns-in_err-flushed-clause-log : goal.returns-in_err-flushed-clause-log
returns-in_err-flushed-clause-log g c = λ room.
    room_nodes g.D.Device c.args.command.now c.make_room.new.self.engine c.flush-flushed.new.self c.in_err-flushed.ensures.only (c.in_ok-make_room.ensures.log room)

pub returns-clause-log : goal.returns-clause-log
returns-clause-log g c = λ room.
    room_nodes g.D.Device c.args.command.now c.make_room.new.self.engine c.flush-flushed.new.self c.in_ok-flushed.ensures.only (c.in_ok-make_room.ensures.log room)

pub returns-in_err-make_room-clause-ends : goal.returns-in_err-make_room-clause-ends
returns-in_err-make_room-clause-ends g c =
    let p = err_from_is_err_and c.from_residual.result c.from_residual.ensures.1 in
    rw (p.1, p.2) (ends_err g.D.Device c.args.self.now c.make_room.new.self c.in_err-make_room.field-0.0 c.in_err-make_room.ensures.ends)

pub returns-clause-ends : goal.returns-clause-ends
returns-clause-ends g c =
    let h = c.in_ok-flushed.ensures in
    let a : Volume g.row.D.Denot = c.make_room.new.self in
    let b : Volume g.row.D.Denot = record a { engine = c.flush-flushed.new.self } in
    let first = went_on g.D.Device c.args.self.now a _ c.in_ok-make_room.ensures.ends c.in_ok-make_room.ensures.count_stays in
    let next = read_goes g.D.Device a b first.going.stop_is (ap (λ (e : EngineState g.row.D.Denot). e.stop) h.only.rest) h.only.keeps.device h.cause.kept refl (writes_nodes g.D.Device a.engine b.engine h.only) in
    ends_well g.D.Device c.args.self.now b _ (goes_then g.D.Device c.args.self.now a b first next)
