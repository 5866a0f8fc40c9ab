use Rattle.std.proofs.Common.{subst}
use Rattle.bd_mirror.specs.Sound.{IsSound}
use Rattle.bd_mirror.proofs.Methods.{shape_of, stays_now, left_shape}
use Rattle.bd_mirror.proofs.mirror.MirrorDevice.blocks.Goals as goal

pub returns-clause-shape : goal.returns-clause-shape
returns-clause-shape g c =
    shape_of g.A.Device g.B.Device c.args.self.now (subst (IsSound g.A.Device g.B.Device) c.self.view_is c.self.invariant)

pub returns-clause-may_stay : goal.returns-clause-may_stay
returns-clause-may_stay g c = λ some.
    let m = c.args.self.now in
    stays_now g.A.Device g.B.Device g.A.Attach.shows g.B.Attach.shows g.A.Attach.left_behind g.B.Attach.left_behind m m.counts.calls
    (record {
      shows_a = g.met.A.Attach.shows_named;
      shows_b = g.met.B.Attach.shows_named;
      left_a = λ d n t x is. g.met.A.Attach.left_named d n t x is;
      left_b = λ d n t x is. g.met.B.Attach.left_named d n t x is;
      earlier_a = g.met.A.Device.since_earlier;
      earlier_b = g.met.B.Device.since_earlier;
    }) (subst (IsSound g.A.Device g.B.Device) c.self.view_is c.self.invariant) some

pub returns-clause-crash_shape : goal.returns-clause-crash_shape
returns-clause-crash_shape g c = λ some image left.
    let m = c.args.self.now in
    left_shape g.A.Device g.B.Device g.A.Attach.shows g.B.Attach.shows g.A.Attach.left_behind g.B.Attach.left_behind m m.counts.calls image
    (record {
      shows_a = g.met.A.Attach.shows_named;
      shows_b = g.met.B.Attach.shows_named;
      left_a = λ d n t x is. g.met.A.Attach.left_named d n t x is;
      left_b = λ d n t x is. g.met.B.Attach.left_named d n t x is;
      earlier_a = g.met.A.Device.since_earlier;
      earlier_b = g.met.B.Device.since_earlier;
    }) (subst (IsSound g.A.Device g.B.Device) c.self.view_is c.self.invariant) left
