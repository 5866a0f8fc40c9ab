-- A checkpoint where the log has no room, or none.
use Rattle.std.proofs.Common.{◌<◌, refl, inr, arith}
use Rattle.bd_view.specs.Views.{record_room, log_size}
use Rattle.bd_volume.specs.Volume.{view_of}
use Rattle.bd_volume.proofs.Faulted.{saves_in_step}
use Rattle.bd_volume.proofs.Keeping.{keeps_none}
use Rattle.bd_volume.proofs.Room.{room_made}
use Rattle.bd_volume.proofs.Stepped.{no_steps, save_steps}
use Rattle.bd_volume.proofs.volume.Volume.make_log_room.Goals as goal

pub returns-then-log_size-record_room-clause-steps : goal.returns-then-log_size-record_room-clause-steps
returns-then-log_size-record_room-clause-steps g c = λ s.
    let v = view_of g.D.Device c.args.self.now in
    no_steps c.args.command.now v v refl

pub returns-then-log_size-record_room-clause-keeps : goal.returns-then-log_size-record_room-clause-keeps
returns-then-log_size-record_room-clause-keeps g c = keeps_none g.D.Device c.args.self.now

pub returns-then-free-save_need-clause-steps : goal.returns-then-free-save_need-clause-steps
returns-then-free-save_need-clause-steps g c = λ s.
    let v = view_of g.D.Device c.args.self.now in
    no_steps c.args.command.now v v refl

pub returns-then-free-save_need-clause-keeps : goal.returns-then-free-save_need-clause-keeps
returns-then-free-save_need-clause-keeps g c = keeps_none g.D.Device c.args.self.now

pub returns-clause-steps : goal.returns-clause-steps
returns-clause-steps g c = λ s.
    let old = view_of g.D.Device c.args.self.now in
    let short : record_room c.args.command.now old < log_size c.args.command.now = omega (arith, c.if-log_size-record_room.false, c.log_size.ensures, c.record_room.ensures) in
    save_steps c.save.result c.args.command.now old (view_of g.D.Device c.save.new.self) c.requires.logged.0 (inr short) (c.save.ensures.saves s) (c.save.ensures.err s)

pub returns-clause-fails : goal.returns-clause-fails
returns-clause-fails g c = λ s.
    let old = view_of g.D.Device c.args.self.now in
    let short : record_room c.args.command.now old < log_size c.args.command.now = omega (arith, c.if-log_size-record_room.false, c.log_size.ensures, c.record_room.ensures) in
    saves_in_step g.D.Device c.save.result c.args.self.now c.save.new.self c.args.command.now c.save.ensures.fails (inr short) (c.save.ensures.err s)

pub returns-clause-log : goal.returns-clause-log
returns-clause-log g c = room_made g.D.Device c.save.result c.args.command.now c.save.new.self c.records_have_room.ensures.anew c.requires.logged c.save.ensures.anew
