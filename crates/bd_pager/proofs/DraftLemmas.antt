-- The ids and the slots of a table.
use Rattle.std.proofs.Common.{◌≡◌, ◌≢◌, ℕ, ◌+◌, ◌<◌, ◌≤◌, ◌⊎◌, Bool, true, false, is_some, List, length, take, min, get_or, set, Some, get_or-set_same, get_or-set_other, nat_eq, inl, inr, refl, sym, ap, subst, ◌∙◌, arith}
use Rattle.std.specs.Prelude.{All, IsSome}
use Rattle.std.specs.List.{IsDistinct}
use Rattle.std.specs.List.Sorted.{IsPermutation, IsSorted}
use Rattle.std.specs.Ordering.{nat_cmp}
use Rattle.std.specs.Set.{is_member}
use Rattle.std.proofs.lemmas.Bool.{cases_eq, eq-eqb, eqb-true, true≢false}
use Rattle.std.proofs.lemmas.Cmp.{nat_eq_equiv}
use Rattle.std.proofs.lemmas.List.{length-set, take_all, get_or_default}
use Rattle.std.proofs.lemmas.List.Sorted.{IsNonDecreasingBy-from_sort, All-permutation, Contains-permutation}
use Rattle.std.proofs.lemmas.List.Sums.{count_by_more_yes, count_by_more_no}
use Rattle.std.proofs.lemmas.Map.Keys.{IsDistinct-IsPermutation, apart_from_distinct}
use Rattle.std.proofs.lemmas.Map.Views.{Contains-from_any, list_any-from_Contains}
use Rattle.std.proofs.lemmas.Option.{slice_get-get_or, get_or_from_slice_get}
use Rattle.bd_slots.specs.Layout.{AreSlots}
use Rattle.bd_slots.specs.Slots.{IsFree, free_count}
use Rattle.bd_pager.specs.Places.{Spots}
use Rattle.bd_pager.specs.Drafts.{AreKeptIds}

-- ---- slots that are picked

-- so many of a list are free slots below this one, which rise, and all of these unless that is all of the list
pub record ArePicked (free : List Bool) (total slot picked : ℕ) (at : List ℕ) : Type 0 where
  pub size : length at ≡ total
  pub within : picked ≤ total
  pub below : (k d : ℕ) → k < picked → get_or at k d < slot
  pub free_ones : (k d : ℕ) → k < picked → IsFree free (get_or at k d)
  pub rising : (k j d : ℕ) → k < j → j < picked → get_or at k d < get_or at j d
  pub most : picked ≡ min total (free_count (take slot free))

-- the slot is one of them, or it isn't free or there is no room
pub one_picked : (free : List Bool) (total slot picked : ℕ) (at : List ℕ) → slot < length free → IsFree free slot → picked < total → ArePicked free total slot picked at → ArePicked free total (slot + 1) (picked + 1) (set at picked slot)
one_picked free total slot picked at lt is_free room was =
    let here : (d : ℕ) → get_or (set at picked slot) picked d ≡ slot = λ d. get_or-set_same at picked slot d (omega (arith, room, was.size)) in
    let there : (k d : ℕ) → k < picked → get_or (set at picked slot) k d ≡ get_or at k d = λ k d before. get_or-set_other at picked k slot d (omega (arith, before)) in
    let flag : get_or free slot true ≡ true = get_or_from_slice_get free slot true true is_free in
    record {
      size = length-set at picked slot ∙ was.size;
      within = omega (arith, room);
      below = λ k d before. elim (cases_eq k picked) [
        | inl same ↦ subst (λ (n : ℕ). get_or (set at picked slot) n d < slot + 1) (sym same) (omega (arith, here d))
        | inr other ↦ omega (arith, there k d (omega (arith, before, other)), was.below k d (omega (arith, before, other)))
      ];
      free_ones = λ k d before. elim (cases_eq k picked) [
        | inl same ↦ subst (λ (n : ℕ). IsFree free (get_or (set at picked slot) n d)) (sym same) (subst (λ (n : ℕ). IsFree free n) (sym (here d)) is_free)
        | inr other ↦ subst (λ (n : ℕ). IsFree free n) (sym (there k d (omega (arith, before, other)))) (was.free_ones k d (omega (arith, before, other)))
      ];
      rising = λ k j d before inside. elim (cases_eq j picked) [
        | inl same ↦ subst (λ (n : ℕ). get_or (set at picked slot) k d < get_or (set at picked slot) n d) (sym same)
            (omega (arith, here d, there k d (omega (arith, before, same)), was.below k d (omega (arith, before, same))))
        | inr other ↦ omega (arith, there k d (omega (arith, before, inside)), there j d (omega (arith, inside, other)), was.rising k j d before (omega (arith, inside, other)))
      ];
      most = omega (arith, was.most, room, count_by_more_yes (λ (b : Bool). b) free slot true lt flag);
    }

pub none_picked : (free : List Bool) (total slot picked : ℕ) (at : List ℕ) → slot < length free → (total ≤ picked) ⊎ (¬ IsFree free slot) → ArePicked free total slot picked at → ArePicked free total (slot + 1) picked at
none_picked free total slot picked at lt why was = record {
  size = was.size;
  within = was.within;
  below = λ k d before. omega (arith, was.below k d before);
  free_ones = was.free_ones;
  rising = was.rising;
  most = by_flag (get_or free slot true) refl;
}
  where
    by_flag : (b : Bool) → get_or free slot true ≡ b → picked ≡ min total (free_count (take (slot + 1) free))
    by_flag true is = elim why [
      | inl full ↦ omega (arith, was.most, full, count_by_more_yes (λ (b : Bool). b) free slot true lt is)
      | inr taken ↦ absurd (taken (slice_get-get_or free slot true lt ∙ ap Some is))
    ]
    by_flag false is = omega (arith, was.most, count_by_more_no (λ (b : Bool). b) free slot true lt is)

-- at the end it is all of the list
pub all_picked : (free : List Bool) (total picked : ℕ) (at : List ℕ) → total ≤ free_count free → ArePicked free total (length free) picked at → AreSlots (length free) at × All (IsFree free) at
all_picked free total picked at enough was =
    let all : picked ≡ length at = omega (arith, was.most, was.size, enough, ap free_count (take_all (length free) free (omega arith))) in (
      record {
        below = λ k d lt. was.below k d (omega (arith, lt, all));
        different = λ k j d before lt. λ same. omega (arith, was.rising k j d before (omega (arith, lt, all)), same);
      },
      λ k d lt. was.free_ones k d (omega (arith, lt, all)),
    )

-- ---- ids

-- a map's keys, sorted
pub sorted_ids : (keys ids : List ℕ) (spots : Spots) → IsDistinct nat_eq keys → ((q : ℕ) → is_some (spots q) ≡ is_member nat_eq keys q) → IsPermutation keys ids → IsSorted nat_cmp ids → AreKeptIds ids spots
sorted_ids keys ids spots distinct has moved sorted =
    let apart : IsDistinct nat_eq ids = IsDistinct-IsPermutation nat_eq nat_eq_equiv.symm keys ids moved distinct in
    record {
      rising = λ i j d before lt.
          let differ : get_or ids i d ≢ get_or ids j d = λ same. true≢false (sym (eq-eqb (get_or ids i d) (get_or ids j d) same) ∙ apart_from_distinct nat_eq ids i j d apart before lt) in
          omega (arith, IsNonDecreasingBy-from_sort (λ (x : ℕ). x) ids sorted i j d (omega (arith, before)) lt, differ);
      kept = All-permutation (λ (id : ℕ). IsSome (spots id)) keys ids moved
          (λ k d lt. has (get_or keys k d) ∙ list_any-from_Contains nat_eq_equiv (get_or keys k d) keys (k, lt, get_or_default keys k (get_or keys k d) d lt));
      all = λ id is. Contains-permutation keys ids id moved (Contains-from_any (λ x y e. eqb-true x y e) id keys (sym (has id) ∙ is));
    }
