use Rattle.std.proofs.Common.{◌≡◌, ◌∙◌, sym, ap, subst, arith, true, length, Some}
use Rattle.bd_slots.specs.Slots.{IsFree}
use Rattle.bd_slots.specs.Words.{has_bit}
use Rattle.bd_slots.proofs.FlagLemmas.{length-flags, slice_get-flags, flag_is}
use Rattle.bd_slots.proofs.slots.SlotSet.is_free.Goals as goal

pub is_set-requires : goal.is_set-requires
is_set-requires c =
    let s = c.self.inside in
    let count = sym (length-flags s.words.items s.count) ∙ ap length c.self.view_is in
    rw c.as_slice.ensures.value (omega (arith, c.requires, count, c.self.invariant.0.room))

pub returns : goal.returns
returns c =
    let s = c.self.inside in
    let count = sym (length-flags s.words.items s.count) ∙ ap length c.self.view_is in
    let bit : c.is_set.result ≡ has_bit s.words.items c.args.slot = c.is_set.ensures ∙ ap (λ w. has_bit w c.args.slot) c.as_slice.ensures.value in (
      (λ set. subst (λ v. IsFree v c.args.slot) c.self.view_is
          (slice_get-flags s.words.items s.count c.args.slot (omega (arith, c.requires, count)) ∙ ap Some (sym bit ∙ set))),
      λ free. bit ∙ flag_is s.words.items s.count c.args.slot true (subst (λ v. IsFree v c.args.slot) (sym c.self.view_is) free),
    )
