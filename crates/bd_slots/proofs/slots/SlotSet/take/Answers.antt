use Rattle.std.proofs.Common.{◌∙◌, sym, ap, subst, arith, rules}
use Rattle.std.proofs.lemmas.Bool.{true≢false}
use Rattle.bd_slots.specs.Slots.{IsFree}
use Rattle.bd_slots.specs.Words.{has_bit, IsFirstSet}
use Rattle.bd_slots.proofs.FlagLemmas.{IsFirstFree-first_set, none_free, free_above}
use Rattle.bd_slots.proofs.slots.SlotSet.take.Goals as goal

pub returns-in_err-slot-clause-none : goal.returns-in_err-slot-clause-none
returns-in_err-slot-clause-none c =
    let s = c.self.inside in (
      (λ _. none_free s.words.items c.args.self.now s.count c.self.view_is
          (λ bit. ap (λ w. has_bit w bit) (sym c.as_slice.ensures.value) ∙ c.in_err-slot.ensures.found bit)),
      λ _. search rules,
    )

pub returns-clause-first : goal.returns-clause-first
returns-clause-first c =
    let s = c.self.inside in
    IsFirstFree-first_set s.words.items c.args.self.now s.count s.free c.in_ok-slot.field-0 c.self.invariant.0 c.self.view_is
    (subst (λ w. IsFirstSet w c.in_ok-slot.field-0) c.as_slice.ensures.value c.in_ok-slot.ensures.found)

pub hold-requires : goal.hold-requires
hold-requires c =
    let s = c.self.inside in
    let first = IsFirstFree-first_set s.words.items c.args.self.now s.count s.free c.in_ok-slot.field-0 c.self.invariant.0 c.self.view_is
    (subst (λ w. IsFirstSet w c.in_ok-slot.field-0) c.as_slice.ensures.value c.in_ok-slot.ensures.found) in
    subst (λ v. IsFree v c.in_ok-slot.field-0) (sym c.self.view_is) first.0

pub returns-clause-none : goal.returns-clause-none
returns-clause-none c = ((λ h. absurd (true≢false h)), λ none. absurd (omega (arith, free_above c.args.self.now c.in_ok-slot.field-0 (returns-clause-first c).0, none)))
