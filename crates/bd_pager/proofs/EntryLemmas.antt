-- The entries of a table, one after the other.
use Rattle.std.proofs.Common.{◌≡◌, ◌≢◌, ℕ, ◌+◌, ◌<◌, List, [], ◌∷◌, ◌++◌, Some, All, length, take, get_or, sym, ap, subst, ◌∙◌, arith, nat_eq, length-append}
use Rattle.std.specs.Prelude.{AllPairs}
use Rattle.std.specs.HashMap.{HashMap, Updates}
use Rattle.std.specs.Map.{lookup}
use Rattle.std.proofs.lemmas.Bool.{ne_eqb}
use Rattle.std.proofs.lemmas.List.{take_more, get_or-take, length-take-le, get_or_default}
use Rattle.std.proofs.lemmas.List.Elements.{All-push}
use Rattle.std.proofs.Math.ListN.{get_or-append}
use Rattle.std.proofs.Math.Seq.{get_or-append_seam}
use Rattle.bd_table.specs.declared.table.TableEntry.{TableEntry}
use Rattle.bd_pager.specs.declared.place.Spot.{Spot}
use Rattle.bd_pager.specs.Places.{spots_in}
use Rattle.bd_pager.specs.Entries.{saved_spot, AreSavedSpots}

pub no_spots : {S : Type 0} (m : HashMap ℕ Spot S) (entries : List TableEntry) → m.entries ≡ [] → AreSavedSpots (take 0 entries) (spots_in m)
no_spots m entries empty = record {
  there = λ k d lt. absurd (omega (arith, lt));
  others = λ id none. ap (λ (es : List (ℕ × Spot)). lookup (nat_eq id) es) empty;
}

module _ {X : Type 0} (P : X → Type 0) (xs : List X) (x : X) (all : All P (xs ++ x ∷ [])) where
  all_front : All P xs
  all_front = λ k d lt. subst P (get_or-append xs (x ∷ []) d k lt) (all k d (omega (arith, lt, length-append xs (x ∷ []))))

  all_last : P x
  all_last = subst P (get_or-append_seam xs x [] x) (all (length xs) x (omega (arith, length-append xs (x ∷ []))))

-- one more entry, whose id is above those before it
pub more_spots : {S : Type 0} (m new : HashMap ℕ Spot S) (entries : List TableEntry) (i : ℕ) (d : TableEntry) → i < length entries
    → AllPairs (λ e o. e.id < o.id) entries → Updates nat_eq m new (get_or entries i d).id (Some (saved_spot (get_or entries i d))) → AreSavedSpots (take i entries) (spots_in m)
    → AreSavedSpots (take (i + 1) entries) (spots_in new)
more_spots m new entries i d lt rising updates was =
    let front : List TableEntry = take i entries in
    let e : TableEntry = get_or entries i d in
    let pushed : AreSavedSpots (front ++ e ∷ []) (spots_in new) = record {
      there = All-push (λ (x : TableEntry). spots_in new x.id ≡ Some (saved_spot x)) front e
          (λ k b before.
          let inside : k < i = omega (arith, before, length-take-le i entries (omega (arith, lt))) in
          let lower : (get_or front k b).id < e.id =
          subst (λ (x : TableEntry). x.id < e.id) (sym (get_or-take i entries k b inside))
          (subst (λ (x : TableEntry). (get_or entries k b).id < x.id) (get_or_default entries i b d lt) (rising k i b inside lt)) in
          updates.2 (get_or front k b).id (ne_eqb e.id (get_or front k b).id (λ same. omega (arith, lower, same))) ∙ was.there k b before)
          updates.1;
      others = λ id none.
          updates.2 id (ne_eqb e.id id (all_last (λ (x : TableEntry). x.id ≢ id) front e none)) ∙ was.others id (all_front (λ (x : TableEntry). x.id ≢ id) front e none);
    } in
    subst (λ (es : List TableEntry). AreSavedSpots es (spots_in new)) (sym (take_more entries i d lt)) pushed
