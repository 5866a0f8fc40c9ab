-- How many nodes a pager keeps.
use Rattle.std.proofs.Common.{◌≡◌, ℕ, zero, suc, ◌+◌, ◌≤◌, Bool, true, false, ◌||◌, List, [], ◌∷◌, ◌++◌, length, length-append, Option, None, Some, IsSome, inl, inr, refl, sym, ap, arith, nat_eq, nat_le}
use Rattle.std.proofs.lemmas.Bool.{cases_eq, ne_eqb, true≢false}
use Rattle.std.proofs.lemmas.List.{length-map}
use Rattle.std.specs.List.{IsDistinct}
use Rattle.std.specs.Map.{keys_of}
use Rattle.bd_device.specs.Blocks.{Image}
use Rattle.bd_node.specs.Tables.{kept_count, sum_below}
use Rattle.bd_table.specs.Tables.{slots_of}
use Rattle.bd_table.specs.declared.table.TableEntry.{TableEntry}
use Rattle.bd_node.proofs.KeptCounts.{kept_is}
use Rattle.bd_pager.specs.declared.place.Spot.{Spot}
use Rattle.bd_pager.specs.Places.{refs_in}
use Rattle.bd_pager.specs.Pagers.{Paged, spots_of, table_of, is_saved, is_changed, is_changed_place, IsPaged}
use Rattle.bd_pager.specs.Counting.{changed_of, free_of}
use Rattle.bd_pager.proofs.AskedLemmas.{changed_is, unchanged_saved}
use Rattle.bd_pager.proofs.CountingLemmas.{flag, flag_small, sum_zero}
use Rattle.bd_pager.proofs.FlagLemmas.{slots_within}
use Rattle.bd_pager.proofs.PagerLemmas.{kept_there}

-- as many as there are spots
pub kept_spots : {D : Type 0} (contents : Option Image) (p : Paged D) → IsPaged contents p → IsDistinct nat_eq (keys_of p.spots) → kept_count (table_of p) ≡ length p.spots
unfolding kept_count
kept_spots contents p h distinct =
    let named : (q : ℕ) (o : Option Spot) → spots_of p q ≡ o → IsSome o → 1 ≤ refs_in o = λ q o. elim o as (λ v. spots_of p q ≡ v → IsSome v → 1 ≤ refs_in v) [
      | None ↦ λ there some. cc
      | Some s ↦ λ there some. h.used q s there
    ] in
    kept_is p.next p.spots (λ q. refs_in (spots_of p q)) distinct
    (λ q some.
    let one : 1 ≤ refs_in (spots_of p q) = named q (spots_of p q) refl some in
    (h.table.below q one, one))
    (λ q one. kept_there (spots_of p) q one)

-- ---- no more than there are slots

pub sum_le : (n : ℕ) (f g : ℕ → ℕ) → ((i : ℕ) → f i ≤ g i) → sum_below n f ≤ sum_below n g
unfolding sum_below
sum_le zero f g le = omega arith
sum_le (suc n) f g le = omega (arith, le n, sum_le n f g le)

sum_both : (n : ℕ) (f g : ℕ → ℕ) → sum_below n (λ i. f i + g i) ≡ sum_below n f + sum_below n g
unfolding sum_below
sum_both zero f g = omega arith
sum_both (suc n) f g = omega (arith, sum_both n f g)

-- one id is at one place alone
none_at : (n id : ℕ) → n ≤ id → sum_below n (λ i. flag (nat_eq id i)) ≡ 0
unfolding sum_below
none_at zero id le = omega arith
none_at (suc n) id le = omega (arith, none_at n id (omega (arith, le)), ap flag (ne_eqb id n (λ same. omega (arith, le, same))))

one_at : (n id : ℕ) → sum_below n (λ i. flag (nat_eq id i)) ≤ 1
unfolding sum_below
one_at zero id = omega arith
one_at (suc n) id = elim (cases_eq id n) [
  | inl same ↦ omega (arith, none_at n id (omega (arith, same)), flag_small (nat_eq id n))
  | inr other ↦ omega (arith, one_at n id, ap flag (ne_eqb id n other))
]

flag_or : (a b : Bool) → flag (a || b) ≤ flag a + flag b
flag_or true b = omega arith
flag_or false b = omega arith

-- the ids that a checkpoint has
saved_count : (n : ℕ) (entries : List TableEntry) → sum_below n (λ id. flag (is_saved entries id)) ≤ length entries
saved_count n [] = omega (arith, sum_zero n (λ id. flag (is_saved [] id)) (λ id. refl))
saved_count n (e ∷ es) =
    omega (
      arith,
      sum_le n (λ id. flag (nat_eq e.id id || is_saved es id)) (λ id. flag (nat_eq e.id id) + flag (is_saved es id)) (λ id. flag_or (nat_eq e.id id) (is_saved es id)),
      sum_both n (λ id. flag (nat_eq e.id id)) (λ id. flag (is_saved es id)),
      one_at n e.id,
      saved_count n es,
    )

-- a kept node was changed, or the checkpoint has it
pub kept_within : {D : Type 0} (contents : Option Image) (p : Paged D) → IsPaged contents p → kept_count (table_of p) ≤ changed_of p + length p.saved.entries
unfolding kept_count
kept_within contents p h =
    omega (
      arith,
      sum_le p.next (λ id. flag (nat_le 1 (refs_in (spots_of p id)))) (λ id. flag (is_changed p.spare (spots_of p id)) + flag (is_saved p.saved.entries id)) (λ id. at_id id (spots_of p id) refl),
      sum_both p.next (λ id. flag (is_changed p.spare (spots_of p id))) (λ id. flag (is_saved p.saved.entries id)),
      saved_count p.next p.saved.entries,
      changed_is contents p h,
    )
  where
    by_flags : (named changed saved : Bool) → (changed ≡ false → saved ≡ true) → flag named ≤ flag changed + flag saved
    by_flags named true saved known = omega (arith, flag_small named)
    by_flags named false true known = omega (arith, flag_small named)
    by_flags named false false known = absurd (true≢false (sym (known refl)))

    at_id : (id : ℕ) (o : Option Spot) → spots_of p id ≡ o → flag (nat_le 1 (refs_in o)) ≤ flag (is_changed p.spare o) + flag (is_saved p.saved.entries id)
    at_id id None there = omega arith
    at_id id (Some s) there =
        by_flags (nat_le 1 s.refs) (is_changed_place p.spare s.place) (is_saved p.saved.entries id)
        (unchanged_saved p.spare p.saved.entries id s.level s.place (h.slots id s there) (h.stored id s there))

-- so they are few where there is room for all
pub kept_few : {D : Type 0} (contents : Option Image) (p : Paged D) (taken : ℕ) → IsPaged contents p → changed_of p + taken ≤ free_of p → kept_count (table_of p) + taken ≤ length p.spare
kept_few contents p taken h room =
    omega (
      arith,
      kept_within contents p h,
      room,
      slots_within (length p.spare) (p.at ++ slots_of p.saved.entries) h.held,
      length-append p.at (slots_of p.saved.entries),
      length-map p.saved.entries (λ (e : TableEntry). e.slot),
    )
