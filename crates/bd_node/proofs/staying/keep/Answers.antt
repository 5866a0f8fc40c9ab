use Rattle.std.proofs.Common.{◌≡◌, ℕ, ◌+◌, Bool, List, ap, subst, sym, ◌∙◌}
use Rattle.bd_message.specs.declared.message.Message.{Message}
use Rattle.bd_node.proofs.InPlace.{IsKeeping, keeping_none, keeping_skip, keeping_swap, keeping_all}
use Rattle.bd_node.proofs.staying.keep.Goals as goal
use Rattle.bd_node.proofs.staying.keep.Goals.{then-stays, else-stays}

pub loop-place-init : goal.loop-place-init
loop-place-init c = keeping_none c.args.mask.now c.args.items.now.items

kept_is : (mask : List Bool) (old new : List Message) (place kept count : ℕ) → count ≡ kept → IsKeeping mask old new place kept → IsKeeping mask old new place count
kept_is mask old new place kept count same h = subst (λ (n : ℕ). IsKeeping mask old new place n) (sym same) h

pub loop-place-preserved : goal.loop-place-preserved
loop-place-preserved c =
    let mask : List Bool = c.args.mask.now in
    let old : List Message = c.args.items.now.items in
    let now : List Message = c.loop-place.items.items in
    elim c.if-stays.branch [
      | then-stays w ↦
          kept_is mask old c.if-stays.items.items (c.loop-place.place + 1) (c.loop-place.kept + 1) c.if-stays.kept w.kept-is
          (keeping_swap mask old now c.if-stays.items.items c.loop-place.place c.loop-place.kept c.requires c.loop-place-test.true w.if-stays.true c.loop-place.invariant (ap (λ v. v.items) w.items-is ∙ w.swap.ensures.items))
      | else-stays w ↦
          kept_is mask old c.if-stays.items.items (c.loop-place.place + 1) c.loop-place.kept c.if-stays.kept w.kept-is
          (subst (λ (l : List Message). IsKeeping mask old l (c.loop-place.place + 1) c.loop-place.kept) (sym (ap (λ v. v.items) w.items-is))
          (keeping_skip mask old now c.loop-place.place c.loop-place.kept c.requires c.loop-place-test.true w.if-stays.false c.loop-place.invariant))
    ]

pub returns : goal.returns
returns c =
    c.truncate.ensures.items
    ∙ keeping_all c.args.mask.now c.args.items.now.items c.loop-place.items.items c.loop-place.place c.loop-place.kept c.requires c.loop-place-test.false c.loop-place.invariant
