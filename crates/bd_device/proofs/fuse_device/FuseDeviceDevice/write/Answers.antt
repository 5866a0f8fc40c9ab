use Rattle.std.proofs.Common.{if◌then◌else◌, IfSome, sym, subst}
use Rattle.bd_device.specs.declared.fuse_device.FuseDevice.{FuseDevice}
use Rattle.bd_device.specs.Blocks.{HasBlocks, ChangesOnly}
use Rattle.bd_device.specs.Fuse.{unless_detached}
use Rattle.bd_device.proofs.Images.{OnErr-always}
use Rattle.bd_device.proofs.Refusals.{ChangesOnly-refused, shape-refused}
use Rattle.bd_device.proofs.fuse_device.FuseDeviceDevice.write.Goals as goal

pub returns-in_err-spend_writing-clause-others : goal.returns-in_err-spend_writing-clause-others
returns-in_err-spend_writing-clause-others g c =
    let old = c.args.self.now in
    let stays = c.in_err-spend_writing.ensures.err.1 in
    OnErr-always c.from_residual.result
    (subst (λ (m : FuseDevice g.row.D.Denot). ChangesOnly c.args.b (unless_detached old.detached (g.D.Device.contents old.inner)) (unless_detached m.detached (g.D.Device.contents m.inner))) (sym stays)
    (ChangesOnly-refused (g.D.Device.block_count old.inner) c.args.b old.detached (g.D.Device.contents old.inner) c.requires c.blocks-2.ensures.shape))

pub returns-in_err-spend_writing-clause-shape : goal.returns-in_err-spend_writing-clause-shape
returns-in_err-spend_writing-clause-shape g c =
    let old = c.args.self.now in
    let stays = c.in_err-spend_writing.ensures.err.1 in
    subst (λ (m : FuseDevice g.row.D.Denot). IfSome (unless_detached m.detached (g.D.Device.contents m.inner)) (HasBlocks (if m.detached then 0 else g.D.Device.block_count m.inner))) (sym stays)
    (shape-refused (g.D.Device.block_count old.inner) c.args.b old.detached (g.D.Device.contents old.inner) c.requires c.blocks-2.ensures.shape)
