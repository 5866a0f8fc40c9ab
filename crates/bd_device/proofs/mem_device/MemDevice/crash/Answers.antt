use Rattle.std.proofs.Common.{◌≡◌, length, take, subst, sym, arith}
use Rattle.std.proofs.lemmas.Grind.{common_steps}
use Rattle.std.specs.Vec.{with_items}
use Rattle.bd_device.specs.Blocks.{Image}
use Rattle.bd_device.specs.Memory.{MemoryDevice, left_of}
use Rattle.bd_device.specs.contracts.mem_device.MemDevice.{the_view}
use Rattle.bd_device.proofs.Crash.{left_of-torn}
use Rattle.bd_device.proofs.mem_device.MemDevice.crash.Goals as goal

pub returns-clause-left : goal.returns-clause-left
returns-clause-left c =
    let i = c.self.inside in
    let items : (with_items i.blocks c.tear.new.blocks).items ≡ c.tear.new.blocks = grind (arith, common_steps) in
    subst (λ (blocks : Image). left_of c.args.self.now c.args.self.now.plan.calls (take i.size blocks)) (sym items)
    (subst (λ (d : MemoryDevice). left_of d d.plan.calls (take i.size c.tear.new.blocks)) c.self.view_is
    (left_of-torn c.args.how (the_view i) c.tear.new.blocks (length i.blocks.items) c.self.invariant.4
    (rw (← c.deref.ensures.value, ← c.deref_mut.ensures.value) c.tear.ensures.torn) c.tear.ensures.whole))
