use Rattle.std.proofs.Common.{arith}
use Rattle.bd_device.specs.Fuse.{refused_by}
use Rattle.bd_device.specs.Moments.{Nothing}
use Rattle.bd_device.proofs.Refusals.{OnErr-IfNone-then, Elapses-up_to}
use Rattle.bd_device.proofs.fuse_device.FuseDeviceAttach.attach.Goals as goal

pub returns-clause-behind_time : goal.returns-clause-behind_time
returns-clause-behind_time g c =
    let passed = c.in_default.ensures.whole in
    OnErr-IfNone-then c.attach.result c.args.create c.attach.ensures.behind_time (λ time.
    Elapses-up_to (g.D.Device.call_count c.args.self.now.inner) (g.D.Device.call_count c.attach.new.self) (refused_by c.args.self.now.fuse) (refused_by c.spend.new.self)
    (g.D.Attach.left_behind c.args.self.now.inner c.args.name.now) (g.D.Attach.left_behind c.attach.new.self c.args.name.now) Nothing
    (omega (arith, c.attach.ensures.calls.counted)) passed.0 passed.1 time)
