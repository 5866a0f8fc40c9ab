use Rattle.std.proofs.Common.{◌≡◌, ◌≢◌, ℕ, ◌∙◌, ◌+◌, sym, ap, subst, arith, length, false}
use Rattle.std.specs.Vec.{with_items}
use Rattle.std.proofs.lemmas.List.{with_items_is}
use Rattle.std.proofs.lemmas.Bool.Decides.{nat_tests}
use Rattle.bd_slots.specs.Slots.{free_count}
use Rattle.bd_slots.specs.Words.{AreCounted, IsNoneBelow, flags, has_bit}
use Rattle.bd_slots.proofs.FlagLemmas.{given, none_below-set, bit_within, free_below, length-flags}
use Rattle.bd_slots.proofs.slots.SlotSet.give.Goals as goal

pub set-requires : goal.set-requires
set-requires c =
    let s = c.self.inside in
    rw c.as_mut_slice.ensures.value (bit_within s.words.items c.args.self.now s.count s.free c.args.slot false c.self.invariant.0 c.self.view_is c.requires)

pub overflow_add-self : goal.overflow_add-self
overflow_add-self c =
    let s = c.self.inside in
    let counted : s.free ≡ free_count c.args.self.now = c.self.invariant.0.counted ∙ ap free_count c.self.view_is in
    omega (arith, counted, free_below c.args.self.now c.args.slot c.requires, sym (ap length c.self.view_is) ∙ length-flags s.words.items s.count, c.self.ranges)

pub invariant_of-self : goal.invariant_of-self
invariant_of-self c =
    let s = c.self.inside in
    let now = c.set.new.words in
    let made : (with_items s.words now).items ≡ now = with_items_is s.words now (c.set.auto.words ∙ c.as_mut_slice.ensures.len) in
    let others : (other : ℕ) → other ≢ c.args.slot → has_bit now other ≡ has_bit s.words.items other =
    λ other ne. c.set.ensures.others other ne ∙ ap (λ w. has_bit w other) c.as_mut_slice.ensures.value in
    subst (λ w. AreCounted w s.count (s.free + 1) × IsNoneBelow w c.min-self-inside.result) (sym made) (
      (given s.words.items now c.args.self.now s.count s.free c.args.slot c.self.invariant.0 c.self.view_is c.requires (c.set.auto.words ∙ ap length c.as_mut_slice.ensures.value) c.set.ensures.set others).0,
      none_below-set s.words.items now s.next c.args.slot c.min-self-inside.result c.self.invariant.1 (grind (arith, nat_tests)) (grind (arith, nat_tests)) others,
    )

pub returns : goal.returns
returns c =
    let s = c.self.inside in
    let now = c.set.new.words in
    let made : (with_items s.words now).items ≡ now = with_items_is s.words now (c.set.auto.words ∙ c.as_mut_slice.ensures.len) in
    ap (λ w. flags w s.count) made ∙ (given s.words.items now c.args.self.now s.count s.free c.args.slot c.self.invariant.0 c.self.view_is c.requires
    (c.set.auto.words ∙ ap length c.as_mut_slice.ensures.value) c.set.ensures.set
    (λ other ne. c.set.ensures.others other ne ∙ ap (λ w. has_bit w other) c.as_mut_slice.ensures.value)).1
