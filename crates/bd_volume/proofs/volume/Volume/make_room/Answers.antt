-- A checkpoint that is needed, nodes that are written early, and the test.
use Rattle.std.proofs.Common.{◌<◌, sym, subst, ap, arith}
use Rattle.std.proofs.lemmas.Result.{err_from_is_err_and}
use Rattle.bd_view.specs.Views.{free_slots, need_slots}
use Rattle.bd_engine.specs.Engines.{EngineState}
use Rattle.bd_volume.specs.declared.fault.Fault.{Fault}
use Rattle.bd_volume.specs.Steps.{ShowsStep, IsStepFault}
use Rattle.bd_volume.specs.Volume.{view_of}
use Rattle.bd_volume.proofs.Called.{went_on, goes_then, ends_then, ends_err, ends_well, ends_full}
use Rattle.bd_volume.proofs.Early.{early_short}
use Rattle.bd_volume.proofs.Keeping.{keeps_then}
use Rattle.bd_volume.proofs.Room.{room_stays}
use Rattle.bd_volume.proofs.Stepped.{steps_same}
use Rattle.bd_volume.proofs.volume.Volume.make_room.Goals as goal

-- ---- a write failed

pub returns-in_err-spill-clause-steps : goal.returns-in_err-spill-clause-steps
returns-in_err-spill-clause-steps g c = λ s.
    let h = c.in_ok-save_if_short.ensures in
    steps_same c.args.command.now 0 (view_of g.D.Device c.args.self.now) (view_of g.D.Device c.save_if_short.new.self) (view_of g.D.Device c.spill.new.self) (h.steps s) (c.in_err-spill.ensures.view (h.sound s))

pub returns-in_err-spill-clause-keeps : goal.returns-in_err-spill-clause-keeps
returns-in_err-spill-clause-keeps g c =
    keeps_then g.D.Device c.args.self.now c.save_if_short.new.self c.spill.new.self (g.met.D.Device.since_earlier c.save_if_short.new.self.engine.pager.dev) c.in_ok-save_if_short.ensures.keeps c.in_err-spill.ensures.keeps

pub returns-in_err-spill-clause-fails : goal.returns-in_err-spill-clause-fails
returns-in_err-spill-clause-fails g c = λ s.
    let p = err_from_is_err_and c.from_residual-in_err-spill.result c.from_residual-in_err-spill.ensures.1 in
    rw (p.1, p.2) (subst (λ (fault : Fault). IsStepFault fault c.args.command.now (view_of g.D.Device c.spill.new.self)) (sym c.in_err-spill.ensures.kind) tt)

pub returns-in_err-spill-clause-shows : goal.returns-in_err-spill-clause-shows
returns-in_err-spill-clause-shows g c =
    let p = err_from_is_err_and c.from_residual-in_err-spill.result c.from_residual-in_err-spill.ensures.1 in
    rw (p.1, p.2) (subst (λ (fault : Fault). ShowsStep g.D.Device fault c.args.command.now c.spill.new.self.engine) (sym c.in_err-spill.ensures.kind) tt)

pub returns-in_err-spill-clause-log : goal.returns-in_err-spill-clause-log
returns-in_err-spill-clause-log g c = λ room.
    let rest = c.in_err-spill.ensures.early.rest in
    room_stays g.D.Device c.args.command.now c.save_if_short.new.self.engine c.spill.new.self.engine (ap (λ (e : EngineState g.row.D.Denot). e.log) rest) (ap (λ (e : EngineState g.row.D.Denot). e.live) rest) (c.in_ok-save_if_short.ensures.log room)

pub returns-in_err-spill-clause-ends : goal.returns-in_err-spill-clause-ends
returns-in_err-spill-clause-ends g c =
    let p = err_from_is_err_and c.from_residual-in_err-spill.result c.from_residual-in_err-spill.ensures.1 in
    let h = c.in_ok-save_if_short.ensures in
    let first = went_on g.D.Device c.args.self.now c.save_if_short.new.self _ h.ends h.count_stays in
    rw (p.1, p.2) (ends_then g.D.Device c.args.self.now c.save_if_short.new.self c.spill.new.self _ first (ends_err g.D.Device c.save_if_short.new.self c.spill.new.self c.in_err-spill.field-0.0 c.in_err-spill.ensures.ends))

-- ---- too few slots are free

pub returns-then-free-need-clause-steps : goal.returns-then-free-need-clause-steps
returns-then-free-need-clause-steps g c = λ s.
    let h = c.in_ok-save_if_short.ensures in
    steps_same c.args.command.now 0 (view_of g.D.Device c.args.self.now) (view_of g.D.Device c.save_if_short.new.self) (view_of g.D.Device c.spill.new.self) (h.steps s) (c.in_ok-spill.ensures.view (h.sound s))

pub returns-then-free-need-clause-keeps : goal.returns-then-free-need-clause-keeps
returns-then-free-need-clause-keeps g c =
    keeps_then g.D.Device c.args.self.now c.save_if_short.new.self c.spill.new.self (g.met.D.Device.since_earlier c.save_if_short.new.self.engine.pager.dev) c.in_ok-save_if_short.ensures.keeps c.in_ok-spill.ensures.keeps

pub returns-then-free-need-clause-log : goal.returns-then-free-need-clause-log
returns-then-free-need-clause-log g c = λ room.
    let rest = c.in_ok-spill.ensures.early.rest in
    room_stays g.D.Device c.args.command.now c.save_if_short.new.self.engine c.spill.new.self.engine (ap (λ (e : EngineState g.row.D.Denot). e.log) rest) (ap (λ (e : EngineState g.row.D.Denot). e.live) rest) (c.in_ok-save_if_short.ensures.log room)

pub returns-then-free-need-clause-fails : goal.returns-then-free-need-clause-fails
returns-then-free-need-clause-fails g c = λ s.
    let v = view_of g.D.Device c.spill.new.self in
    let short : free_slots v < need_slots c.args.command.now v = omega (arith, c.if-free-need.true, c.need-need.ensures, c.free-free.ensures) in
    record {
      free_is = c.free-free.ensures;
      need_is = c.need-need.ensures;
      short = omega (arith, c.if-free-need.true);
      unsaved = early_short g.D.Device c.save_if_short.new.self c.spill.new.self c.args.command.now c.in_ok-spill.ensures.early c.in_ok-save_if_short.ensures.room short;
    }

pub returns-then-free-need-clause-shows : goal.returns-then-free-need-clause-shows
returns-then-free-need-clause-shows g c =
    let v = view_of g.D.Device c.spill.new.self in
    let short : free_slots v < need_slots c.args.command.now v = omega (arith, c.if-free-need.true, c.need-need.ensures, c.free-free.ensures) in
    record {
      free_is = c.free-free.ensures;
      need_is = c.need-need.ensures;
      short = omega (arith, c.if-free-need.true);
      unsaved = early_short g.D.Device c.save_if_short.new.self c.spill.new.self c.args.command.now c.in_ok-spill.ensures.early c.in_ok-save_if_short.ensures.room short;
    }

pub returns-then-free-need-clause-ends : goal.returns-then-free-need-clause-ends
returns-then-free-need-clause-ends g c =
    let h = c.in_ok-save_if_short.ensures in
    let k = c.in_ok-spill.ensures in
    let goes = goes_then g.D.Device c.args.self.now c.save_if_short.new.self c.spill.new.self (went_on g.D.Device c.args.self.now c.save_if_short.new.self _ h.ends h.count_stays) (went_on g.D.Device c.save_if_short.new.self c.spill.new.self _ k.ends k.count_stays) in
    ends_full g.D.Device c.args.self.now c.spill.new.self _ _ goes (omega (arith, c.if-free-need.true))

-- ---- there is room

pub returns-clause-steps : goal.returns-clause-steps
returns-clause-steps g c = λ s.
    let h = c.in_ok-save_if_short.ensures in
    steps_same c.args.command.now 0 (view_of g.D.Device c.args.self.now) (view_of g.D.Device c.save_if_short.new.self) (view_of g.D.Device c.spill.new.self) (h.steps s) (c.in_ok-spill.ensures.view (h.sound s))

pub returns-clause-keeps : goal.returns-clause-keeps
returns-clause-keeps g c =
    keeps_then g.D.Device c.args.self.now c.save_if_short.new.self c.spill.new.self (g.met.D.Device.since_earlier c.save_if_short.new.self.engine.pager.dev) c.in_ok-save_if_short.ensures.keeps c.in_ok-spill.ensures.keeps

pub returns-clause-log : goal.returns-clause-log
returns-clause-log g c = λ room.
    let rest = c.in_ok-spill.ensures.early.rest in
    room_stays g.D.Device c.args.command.now c.save_if_short.new.self.engine c.spill.new.self.engine (ap (λ (e : EngineState g.row.D.Denot). e.log) rest) (ap (λ (e : EngineState g.row.D.Denot). e.live) rest) (c.in_ok-save_if_short.ensures.log room)

pub returns-clause-ends : goal.returns-clause-ends
returns-clause-ends g c =
    let h = c.in_ok-save_if_short.ensures in
    let k = c.in_ok-spill.ensures in
    ends_well g.D.Device c.args.self.now c.spill.new.self _
    (goes_then g.D.Device c.args.self.now c.save_if_short.new.self c.spill.new.self (went_on g.D.Device c.args.self.now c.save_if_short.new.self _ h.ends h.count_stays) (went_on g.D.Device c.save_if_short.new.self c.spill.new.self _ k.ends k.count_stays))
