use Rattle.std.proofs.Common.{◌≡◌, ◌≢◌, ℕ, ◌∙◌, ◌-◌, sym, ap, subst, arith, length, true}
use Rattle.std.specs.Vec.{with_items}
use Rattle.std.proofs.lemmas.List.{with_items_is}
use Rattle.bd_slots.specs.Slots.{free_count}
use Rattle.bd_slots.specs.Words.{AreCounted, IsNoneBelow, flags, has_bit}
use Rattle.bd_slots.proofs.FlagLemmas.{taken, none_below-cleared, bit_within, free_above, length-flags}
use Rattle.bd_slots.proofs.slots.SlotSet.hold.Goals as goal

pub clear-requires : goal.clear-requires
clear-requires c =
    let s = c.self.inside in
    rw c.as_mut_slice.ensures.value (bit_within s.words.items c.args.self.now s.count s.free c.args.slot true c.self.invariant.0 c.self.view_is c.requires)

pub overflow_sub-self : goal.overflow_sub-self
overflow_sub-self c =
    let s = c.self.inside in
    let counted : s.free ≡ free_count c.args.self.now = c.self.invariant.0.counted ∙ ap free_count c.self.view_is in
    omega (arith, counted, free_above c.args.self.now c.args.slot c.requires, sym (ap length c.self.view_is) ∙ length-flags s.words.items s.count, c.self.ranges)

pub invariant_of-self : goal.invariant_of-self
invariant_of-self c =
    let s = c.self.inside in
    let now = c.clear.new.words in
    let made : (with_items s.words now).items ≡ now = with_items_is s.words now (c.clear.auto.words ∙ c.as_mut_slice.ensures.len) in
    let others : (other : ℕ) → other ≢ c.args.slot → has_bit now other ≡ has_bit s.words.items other =
    λ other ne. c.clear.ensures.others other ne ∙ ap (λ w. has_bit w other) c.as_mut_slice.ensures.value in
    subst (λ w. AreCounted w s.count (s.free - 1) × IsNoneBelow w s.next) (sym made) (
      (taken s.words.items now c.args.self.now s.count s.free c.args.slot c.self.invariant.0 c.self.view_is c.requires (c.clear.auto.words ∙ ap length c.as_mut_slice.ensures.value) c.clear.ensures.cleared others).0,
      none_below-cleared s.words.items now s.next c.args.slot c.self.invariant.1 c.clear.ensures.cleared others,
    )

pub returns : goal.returns
returns c =
    let s = c.self.inside in
    let now = c.clear.new.words in
    let made : (with_items s.words now).items ≡ now = with_items_is s.words now (c.clear.auto.words ∙ c.as_mut_slice.ensures.len) in
    ap (λ w. flags w s.count) made ∙ (taken s.words.items now c.args.self.now s.count s.free c.args.slot c.self.invariant.0 c.self.view_is c.requires
    (c.clear.auto.words ∙ ap length c.as_mut_slice.ensures.value) c.clear.ensures.cleared
    (λ other ne. c.clear.ensures.others other ne ∙ ap (λ w. has_bit w other) c.as_mut_slice.ensures.value)).1
