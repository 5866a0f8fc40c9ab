use Rattle.std.proofs.Common.{◌≡◌, true, Some, ap, sym, subst, ◌∙◌, reverse}
use Rattle.bd_device.specs.Blocks.{Image}
use Rattle.bd_device.specs.Memory.{MemoryDevice, attached_image, held_image, held-attached, left_of}
use Rattle.bd_device.proofs.Left.{HasLeft-now}
use Rattle.bd_device.proofs.Refusals.{OnOk-then}
use Rattle.bd_device.proofs.laws.law_of_a_barrier.Goals as goal

pub returns-clause-left : goal.returns-clause-left
returns-clause-left c =
    let new = c.barrier.new.self in
    let on : new.attached ≡ true = ap (λ (m : MemoryDevice). m.attached) c.barrier.ensures.after ∙ c.requires in
    let same = held-attached new on in
    OnOk-then c.barrier.result c.barrier.ensures.durable (λ only image. (
      λ left. let e : Some image ≡ Some (attached_image new) = sym (only image left) ∙ same in cc,
      λ e. subst (λ (i : Image). left_of new new.plan.calls i) (let f : held_image new ≡ image = cc in f) (HasLeft-now new.barrier (reverse new.writes) (held_image new) new.plan.calls),
    ))
