use Rattle.std.proofs.Common.{arith}
use Rattle.bd_device.specs.Fuse.{refused_count}
use Rattle.bd_device.proofs.Refusals.{HasBlocks-up_to}
use Rattle.bd_device.proofs.fuse_device.FuseDeviceDevice.blocks.Goals as goal

pub returns-clause-crash_shape : goal.returns-clause-crash_shape
returns-clause-crash_shape g c =
    let f = c.args.self.now in
    HasBlocks-up_to (g.D.Device.call_count f.inner) (refused_count f) (g.D.Device.block_count f.inner) f.detached (g.D.Device.left_since f.inner)
    (omega (arith, c.calls.ensures, c.calls.type_inv)) c.blocks-2.ensures.crash_shape
