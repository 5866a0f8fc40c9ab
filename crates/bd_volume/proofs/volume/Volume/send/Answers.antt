-- A fault of the messages, after the command's steps.
use Rattle.std.proofs.Common.{◌≡◌, ◌+◌, refl, sym, subst, ap}
use Rattle.std.proofs.lemmas.Result.{err_from_is_err_and}
use Rattle.bd_message.specs.KeyMaps.{NeverWorn, IsApplied}
use Rattle.bd_pager.specs.Pagers.{Paged}
use Rattle.bd_engine.specs.Engines.{EngineState, keys_of}
use Rattle.bd_volume.specs.declared.volume.Volume.{Volume}
use Rattle.bd_volume.specs.Volume.{view_of}
use Rattle.bd_volume.proofs.Called.{went_on, goes_then, ends_then, ends_logged, read_goes, read_fails}
use Rattle.bd_volume.proofs.Faulted.{read_halts}
use Rattle.bd_volume.proofs.Keeping.{keeps_then, keeps_read, logs_on}
use Rattle.bd_volume.proofs.Room.{room_nodes}
use Rattle.bd_volume.proofs.Sent.{applied_over}
use Rattle.bd_volume.proofs.Stepped.{stepped_stand}
use Rattle.bd_volume.proofs.Read.{logged_sound}
use Rattle.bd_volume.proofs.Writes.{writes_read, writes_nodes}
use Rattle.bd_volume.proofs.volume.Volume.send.Goals as goal

pub returns-in_err-appended-clause-fails : goal.returns-in_err-appended-clause-fails
returns-in_err-appended-clause-fails g c = λ s.
    let p = err_from_is_err_and c.from_residual-in_err-appended.result c.from_residual-in_err-appended.ensures.1 in
    let h = c.in_err-appended.ensures in
    let a : Volume g.row.D.Denot = c.make_ready.new.self in
    let b : Volume g.row.D.Denot = record a { engine = c.append-appended.new.self } in
    rw (p.1, p.2) (read_halts g.D.Device _ _ _ b c.args.self.now.count c.args.command.now (view_of g.D.Device c.args.self.now) (view_of g.D.Device b) c.in_err-appended.field-0.0
    (c.sound_nodes_are_undamaged.ensures (h.sound (c.in_ok-make_ready.ensures.sound s))) h.cause.failed)

pub returns-in_err-appended-clause-ends : goal.returns-in_err-appended-clause-ends
returns-in_err-appended-clause-ends g c =
    let p = err_from_is_err_and c.from_residual-in_err-appended.result c.from_residual-in_err-appended.ensures.1 in
    let h = c.in_err-appended.ensures in
    let a : Volume g.row.D.Denot = c.make_ready.new.self in
    let b : Volume g.row.D.Denot = record a { engine = c.append-appended.new.self } in
    let first = went_on g.D.Device c.args.self.now a _ c.in_ok-make_ready.ensures.ends c.in_ok-make_ready.ensures.count_stays in
    rw (p.1, p.2) (ends_then g.D.Device c.args.self.now a b _ first
    (read_fails g.D.Device a b NeverWorn c.in_err-appended.field-0.0 first.going.stop_is (ap (λ (e : EngineState g.row.D.Denot). e.stop) h.err.rest) h.err.read.device h.cause (writes_read g.D.Device a.engine b.engine h.err)))

pub returns-clause-applied : goal.returns-clause-applied
returns-clause-applied g c = λ s.
    let a : Volume g.row.D.Denot = c.make_ready.new.self in
    let ready = c.in_ok-make_ready.ensures in
    let same : c.log.new.self.pager ≡ c.append-appended.new.self.pager = ap (λ (e : EngineState g.row.D.Denot). e.pager) c.log.ensures.log in
    subst (λ (p : Paged g.row.D.Denot). IsApplied (keys_of g.D.Device c.args.self.now.engine.pager) c.args.list.now (keys_of g.D.Device p)) (sym same)
    (applied_over (keys_of g.D.Device c.args.self.now.engine.pager) (keys_of g.D.Device a.engine.pager) (keys_of g.D.Device c.append-appended.new.self.pager) c.args.list.now
    (stepped_stand c.args.command.now (view_of g.D.Device c.args.self.now) (view_of g.D.Device a) (ready.stepped s)) (c.in_ok-appended.ensures.applied (ready.sound s)))

pub log-requires-clause-room : goal.log-requires-clause-room
log-requires-clause-room g c =
    room_nodes g.D.Device c.args.command.now c.make_ready.new.self.engine c.append-appended.new.self c.in_ok-appended.ensures.only c.in_ok-make_ready.ensures.log

pub returns-in_err-appended-clause-keeps : goal.returns-in_err-appended-clause-keeps
returns-in_err-appended-clause-keeps g c =
    let p = err_from_is_err_and c.from_residual-in_err-appended.result c.from_residual-in_err-appended.ensures.1 in
    let h = c.in_err-appended.ensures in
    let a : Volume g.row.D.Denot = c.make_ready.new.self in
    let b : Volume g.row.D.Denot = record a { engine = c.append-appended.new.self } in
    rw p.1 (keeps_then g.D.Device c.args.self.now a b (g.met.D.Device.since_earlier a.engine.pager.dev) c.in_ok-make_ready.ensures.keeps
    (keeps_read g.D.Device a b (g.met.D.Device.since_earlier b.engine.pager.dev) h.err refl))

pub returns-clause-sends : goal.returns-clause-sends
returns-clause-sends g c = λ s.
    let a : Volume g.row.D.Denot = c.make_ready.new.self in
    let b : Volume g.row.D.Denot = record a { engine = c.append-appended.new.self } in
    let ready = c.in_ok-make_ready.ensures in
    let h = c.in_ok-appended.ensures in
    let sound = ready.sound s in
    record {
      last = view_of g.D.Device b;
      sends = record {
        mid = view_of g.D.Device a;
        stepped = (ready.settled s).stepped;
        enough = ready.enough;
        settled = (ready.settled s).settled;
        room = ready.room;
        sent = h.appended sound;
        rest = h.only.view sound.known;
      };
      log = room_nodes g.D.Device c.args.command.now a.engine b.engine h.only ready.log;
      after = c.log.ensures.view;
    }

pub returns-clause-logged : goal.returns-clause-logged
returns-clause-logged g c =
    let a : Volume g.row.D.Denot = c.make_ready.new.self in
    let b : Volume g.row.D.Denot = record a { engine = c.append-appended.new.self } in
    let d : Volume g.row.D.Denot = record { engine = c.log.new.self; count = a.count + 1 } in
    let ready = c.in_ok-make_ready.ensures in
    let h = c.in_ok-appended.ensures in
    logs_on g.D.Device c.args.self.now a b d c.args.command.now (g.met.D.Device.since_earlier a.engine.pager.dev) (g.met.D.Device.since_earlier b.engine.pager.dev) ready.keeps ready.ends.stop.ok.stop_is h.only
    (c.records_have_room.ensures.version c.args.command.now (view_of g.D.Device b) c.requires.logged (room_nodes g.D.Device c.args.command.now a.engine b.engine h.only ready.log)) c.log.ensures.log

pub returns-clause-sound : goal.returns-clause-sound
returns-clause-sound g c = λ s.
    logged_sound g.D.Device c.append-appended.new.self c.log.new.self _ c.log.ensures.log (c.in_ok-appended.ensures.sound (c.in_ok-make_ready.ensures.sound s))

pub returns-clause-ends : goal.returns-clause-ends
returns-clause-ends g c =
    let a : Volume g.row.D.Denot = c.make_ready.new.self in
    let b : Volume g.row.D.Denot = record a { engine = c.append-appended.new.self } in
    let h = c.in_ok-appended.ensures in
    let first = went_on g.D.Device c.args.self.now a _ c.in_ok-make_ready.ensures.ends c.in_ok-make_ready.ensures.count_stays in
    let next = read_goes g.D.Device a b first.going.stop_is (ap (λ (e : EngineState g.row.D.Denot). e.stop) h.only.rest) h.only.keeps.device h.cause.kept refl (writes_nodes g.D.Device a.engine b.engine h.only) in
    ends_logged g.D.Device c.args.self.now b (record { engine = c.log.new.self; count = a.count + 1 }) _ (goes_then g.D.Device c.args.self.now a b first next) (ap (λ (e : EngineState g.row.D.Denot). e.pager) c.log.ensures.log) (ap (λ (e : EngineState g.row.D.Denot). e.live) c.log.ensures.log) (ap (λ (e : EngineState g.row.D.Denot). e.stop) c.log.ensures.log)
