-- Counts of which some are in a table of their own.
use Rattle.std.proofs.Common.{◌≡◌, ℕ, ◌+◌, ◌-◌, ◌<◌, ◌≤◌, ap, subst, ◌∙◌, arith, inl, inr, List, [], length, take, nat_eq, Some}
use Rattle.std.specs.Prelude.{slice_index}
use Rattle.std.specs.Option.{unwrap_or}
use Rattle.std.specs.HashMap.{HashMap, Updates}
use Rattle.std.specs.Map.{lookup}
use Rattle.std.proofs.lemmas.Bool.{cases_eq, ne_eqb}
use Rattle.bd_node.specs.Tables.{one_if}
use Rattle.bd_node.proofs.Sound.{one_if-same, one_if-other}
use Rattle.bd_counts.specs.Naming.{times_among}
use Rattle.bd_counts.specs.Counting.{overlaid}
use Rattle.bd_counts.specs.Releasing.{IsLess}
use Rattle.bd_counts.proofs.Names.{times_take}

-- no count is in the table yet
pub overlaid_empty : {S : Type 0} (counts : ℕ → ℕ) (table : HashMap ℕ ℕ S) → table.entries ≡ [] → (c : ℕ) → overlaid counts table c ≡ counts c + 0
overlaid_empty counts table empty c =
    ap (λ (es : List (ℕ × ℕ)). unwrap_or (lookup (nat_eq c) es) (counts c)) empty ∙ omega arith

-- a count that was set, and the others
pub overlaid_at : {S : Type 0} (counts : ℕ → ℕ) (table new : HashMap ℕ ℕ S) (x n : ℕ) → Updates nat_eq table new x (Some n) → overlaid counts new x ≡ n
overlaid_at counts table new x n updates = ap (λ o. unwrap_or o (counts x)) updates.1

pub overlaid_others : {S : Type 0} (counts : ℕ → ℕ) (table new : HashMap ℕ ℕ S) (x n : ℕ) → Updates nat_eq table new x (Some n) → (c : ℕ) → (x ≡ c → ⊥) → overlaid counts new c ≡ overlaid counts table c
overlaid_others counts table new x n updates c other = ap (λ o. unwrap_or o (counts c)) (updates.2 c (ne_eqb x c other))

-- one more name
pub overlaid_more : {S : Type 0} (counts : ℕ → ℕ) (table new : HashMap ℕ ℕ S) (xs : List ℕ) (i : ℕ) → i < length xs
    → Updates nat_eq table new (slice_index xs i) (Some (overlaid counts table (slice_index xs i) + 1))
    → ((c : ℕ) → overlaid counts table c ≡ counts c + times_among (take i xs) c)
    → (c : ℕ) → overlaid counts new c ≡ counts c + times_among (take (i + 1) xs) c
overlaid_more counts table new xs i low updates before c =
    let x : ℕ = slice_index xs i in
    let n : ℕ = overlaid counts table x + 1 in
    let more : times_among (take (i + 1) xs) c ≡ times_among (take i xs) c + one_if x c = times_take xs i low c in
    let old : overlaid counts table c ≡ counts c + times_among (take i xs) c = before c in
    elim (cases_eq x c) [
      | inl same ↦ (let here : overlaid counts new c ≡ overlaid counts table c + 1 =
          subst (λ (d : ℕ). overlaid counts new d ≡ overlaid counts table d + 1) same (overlaid_at counts table new x n updates) in
          let one : one_if x c ≡ 1 = subst (λ (d : ℕ). one_if x d ≡ 1) same (one_if-same x) in
          omega arith)
      | inr other ↦ (let here : overlaid counts new c ≡ overlaid counts table c = overlaid_others counts table new x n updates c other in
          let none : one_if x c ≡ 0 = one_if-other x c other in
          omega arith)
    ]

-- one name less
pub overlaid_less : {S : Type 0} (counts : ℕ → ℕ) (table new : HashMap ℕ ℕ S) (x count : ℕ) → count ≡ overlaid counts table x → 1 ≤ count → Updates nat_eq table new x (Some (count - 1))
    → IsLess x (overlaid counts table) (overlaid counts new)
overlaid_less counts table new x count is some updates = record {
  each = λ c.
      elim (cases_eq x c) [
        | inl same ↦ (let here : overlaid counts new c ≡ count - 1 = subst (λ (d : ℕ). overlaid counts new d ≡ count - 1) same (overlaid_at counts table new x (count - 1) updates) in
            let old : count ≡ overlaid counts table c = subst (λ (d : ℕ). count ≡ overlaid counts table d) same is in
            let one : one_if x c ≡ 1 = subst (λ (d : ℕ). one_if x d ≡ 1) same (one_if-same x) in
            omega arith)
        | inr other ↦ (let here : overlaid counts new c ≡ overlaid counts table c = overlaid_others counts table new x (count - 1) updates c other in
            let none : one_if x c ≡ 0 = one_if-other x c other in
            omega arith)
      ];
}
