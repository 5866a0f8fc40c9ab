use Rattle.std.proofs.Common.{◌≤◌, All, length, sym, subst}
use Rattle.bd_device.specs.Blocks.{IsBlock, HasBlocks}
use Rattle.bd_device.specs.Memory.{MemoryDevice, IsRecordIn}
use Rattle.bd_device.proofs.Images.{attached_size-is}
use Rattle.bd_device.proofs.Crash.{left_of-shape}
use Rattle.bd_device.proofs.mem_device.MemDeviceDevice.blocks.Goals as goal

pub returns-then-self-clause-crash_shape : goal.returns-then-self-clause-crash_shape
returns-then-self-clause-crash_shape c = λ lt image left.
    let d = c.args.self.now in
    let fits = subst (λ (m : MemoryDevice). m.size ≤ length m.blocks) c.self.view_is c.self.invariant.0 in
    let whole = subst (λ (m : MemoryDevice). All IsBlock m.blocks) c.self.view_is c.self.invariant.1 in
    let records = subst (λ (m : MemoryDevice). All (IsRecordIn (length m.blocks)) m.writes) c.self.view_is c.self.invariant.4 in
    subst (λ n. HasBlocks n image) (sym (attached_size-is d lt)) (left_of-shape d (length d.blocks) image d.plan.calls fits whole records left)
