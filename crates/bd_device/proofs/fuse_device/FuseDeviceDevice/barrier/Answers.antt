use Rattle.std.proofs.Common.{◌<◌, if◌then◌else◌, sym, subst, arith}
use Rattle.bd_device.specs.declared.fuse_device.FuseDevice.{FuseDevice}
use Rattle.bd_device.specs.Fuse.{refused_by}
use Rattle.bd_device.proofs.Refusals.{OnOk-then, settled-up_to}
use Rattle.bd_device.proofs.fuse_device.FuseDeviceDevice.barrier.Goals as goal

pub returns-clause-durable : goal.returns-clause-durable
returns-clause-durable g c =
    let new = c.spend_writing.new.self in
    let passed = c.in_ok-spend_writing.ensures.ok in
    OnOk-then c.barrier.result c.barrier.ensures.durable (λ only lt.
    settled-up_to (g.D.Device.call_count c.barrier.new.self) (refused_by new.fuse) (g.D.Device.block_count new.inner) new.detached
    (g.D.Device.left_since c.barrier.new.self) (g.D.Device.contents c.barrier.new.self)
    (omega (arith, c.barrier.ensures.calls.counted)) passed.1 only
    (subst (λ (m : FuseDevice g.row.D.Denot). 0 < (if m.detached then 0 else g.D.Device.block_count m.inner)) (sym passed.2) lt))
