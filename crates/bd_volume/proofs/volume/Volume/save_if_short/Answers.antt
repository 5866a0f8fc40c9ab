-- A checkpoint where too few slots are free, or none.
use Rattle.std.proofs.Common.{◌<◌, refl, inl, arith}
use Rattle.bd_view.specs.Views.{free_slots, need_slots}
use Rattle.bd_volume.specs.Volume.{view_of}
use Rattle.bd_volume.proofs.Faulted.{saves_in_step}
use Rattle.bd_volume.proofs.Keeping.{keeps_none}
use Rattle.bd_volume.proofs.Room.{room_saved}
use Rattle.bd_volume.proofs.Stepped.{no_steps, save_steps}
use Rattle.bd_volume.proofs.volume.Volume.save_if_short.Goals as goal

pub returns-then-need-free-clause-steps : goal.returns-then-need-free-clause-steps
returns-then-need-free-clause-steps g c = λ s.
    let v = view_of g.D.Device c.args.self.now in
    no_steps c.args.command.now v v refl

pub returns-then-not-can_save-clause-steps : goal.returns-then-not-can_save-clause-steps
returns-then-not-can_save-clause-steps g c = λ s.
    let v = view_of g.D.Device c.args.self.now in
    no_steps c.args.command.now v v refl

pub returns-clause-steps : goal.returns-clause-steps
returns-clause-steps g c = λ s.
    let old = view_of g.D.Device c.args.self.now in
    let short : free_slots old < need_slots c.args.command.now old = omega (arith, c.if-need-free.false, c.need.ensures, c.free.ensures) in
    save_steps c.save.result c.args.command.now old (view_of g.D.Device c.save.new.self) c.requires.logged.0 (inl short) (c.save.ensures.saves s) (c.save.ensures.err s)

pub returns-clause-fails : goal.returns-clause-fails
returns-clause-fails g c = λ s.
    let old = view_of g.D.Device c.args.self.now in
    let short : free_slots old < need_slots c.args.command.now old = omega (arith, c.if-need-free.false, c.need.ensures, c.free.ensures) in
    saves_in_step g.D.Device c.save.result c.args.self.now c.save.new.self c.args.command.now c.save.ensures.fails (inl short) (c.save.ensures.err s)

pub returns-clause-log : goal.returns-clause-log
returns-clause-log g c =
    room_saved g.D.Device c.save.result c.args.command.now c.args.self.now c.save.new.self c.records_have_room.ensures.anew c.requires.logged c.save.ensures.anew c.save.ensures.same_log c.save.ensures.same_live

pub returns-then-need-free-clause-keeps : goal.returns-then-need-free-clause-keeps
returns-then-need-free-clause-keeps g c = keeps_none g.D.Device c.args.self.now

pub returns-then-not-can_save-clause-keeps : goal.returns-then-not-can_save-clause-keeps
returns-then-not-can_save-clause-keeps g c = keeps_none g.D.Device c.args.self.now
