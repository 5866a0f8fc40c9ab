use Rattle.std.proofs.Common.{inl, inr, ⊎_elim, subst, sym, arith, reverse}
use Rattle.bd_device.specs.Memory.{MemoryDevice, held_image, left_of, HasLeft-earlier}
use Rattle.bd_device.proofs.Images.{attached_in_size}
use Rattle.bd_device.proofs.Left.{left-any}
use Rattle.bd_device.proofs.Moments.{torn_one}
use Rattle.bd_device.proofs.laws.law_of_a_write.Goals as goal

pub returns-clause-any : goal.returns-clause-any
returns-clause-any c = λ recorded image torn.
    let d = c.args.device.now in
    subst (λ (m : MemoryDevice). left_of m m.plan.calls image) (sym c.write.ensures.after)
    (left-any d c.args.b c.args.from.now c.write.result _ image (attached_in_size d c.args.b c.requires.room) recorded torn)

pub returns-clause-only : goal.returns-clause-only
returns-clause-only c = λ image left.
    let d = c.args.device.now in
    let new = c.write.new.self in
    ⊎_elim (λ was. inl (c.requires.settled image was)) (λ torn. inr (torn_one (held_image d) c.requires.settled image torn))
    (c.write.ensures.time.adds d.plan.calls image (omega arith)
    (HasLeft-earlier new.barrier (reverse new.writes) (held_image new) d.plan.calls new.plan.calls image c.write.ensures.time.later left))
