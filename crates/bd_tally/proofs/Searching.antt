-- What a search by halving finds among values by rising keys.
use Rattle.std.proofs.Common.{◌≡◌, ◌≢◌, ℕ, ◌<◌, ◌≤◌, List, get_or, Ok, Err, Less, Equal, Greater, sym, ap, arith, inl, inr}
use Rattle.std.specs.Prelude.{All, AllPairs, HoldsAt}
use Rattle.std.specs.List.Sorted.{IsBinarySearchResult, IsNonDecreasingBy}
use Rattle.std.specs.Ordering.{nat_cmp, ordering_index}
use Rattle.std.proofs.lemmas.Bool.{cases_eq, cases_lt}
use Rattle.std.proofs.lemmas.Bool.Decides.{nat_tests}
use Rattle.std.proofs.lemmas.Cmp.{ranked}

higher : (a b id : ℕ) → a ≤ b → ordering_index (nat_cmp a id) ≤ ordering_index (nat_cmp b id)
higher a b id le = grind (arith, nat_tests)

module _ {A : Type 0} (key : A → ℕ) (xs : List A) (id : ℕ) where
  -- the comparisons with an id rise along the values
  comparisons_rise : AllPairs (λ x y. key x < key y) xs → IsNonDecreasingBy (λ x. ordering_index (nat_cmp (key x) id)) xs
  comparisons_rise rising i j d le within =
      higher (key (get_or xs i d)) (key (get_or xs j d)) id
      (elim (cases_eq i j) [
        | inl same ↦ (let e : key (get_or xs i d) ≡ key (get_or xs j d) = ap (λ (k : ℕ). key (get_or xs k d)) same in omega arith)
        | inr apart ↦ (let less : key (get_or xs i d) < key (get_or xs j d) = rising i j d (omega arith) within in omega arith)
      ])

  pub found_at : (place : ℕ) → IsBinarySearchResult (λ x. nat_cmp (key x) id) xs (Ok place) → HoldsAt (λ x. key x ≡ id) xs place
  found_at place equal = λ d. ranked (key (get_or xs place d)) id Equal (sym (equal d))

  pub found_none : (place : ℕ) → AllPairs (λ x y. key x < key y) xs → IsBinarySearchResult (λ x. nat_cmp (key x) id) xs (Err place) → All (λ x. key x ≢ id) xs
  found_none place rising parted = λ k d within same.
      let parts = parted (comparisons_rise rising) in
      elim (cases_lt k place) [
        | inl before ↦ (let less : key (get_or xs k d) < id = ranked (key (get_or xs k d)) id Less (sym (parts.0 k d (omega arith) before)) in omega (arith, less, same))
        | inr behind ↦ (let more : id < key (get_or xs k d) = ranked (key (get_or xs k d)) id Greater (sym (parts.1 k d behind within)) in omega (arith, more, same))
      ]
