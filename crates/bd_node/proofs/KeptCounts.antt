-- How many nodes are kept.
use Rattle.std.proofs.Common.{◌≡◌, ℕ, zero, suc, ◌+◌, ◌<◌, ◌≤◌, Bool, true, false, cond, refl, sym, ap, subst, ◌∙◌, arith, inl, inr, List, [], ◌∷◌, length, Option, None, Some, IsSome, is_some, nat_eq, nat_le, le-leb}
use Rattle.std.specs.List.{AllByRecursion, IsDistinct}
use Rattle.std.specs.Map.{keys_of, lookup}
use Rattle.std.proofs.lemmas.Bool.{cases_eq, eq-eqb, ne_eqb}
use Rattle.bd_node.specs.Tables.{sum_below}
use Rattle.bd_node.proofs.Sums.{sum_same, sum_exchanged}

-- 1 where there is something
abbrev flag : {V : Type 0} → Option V → ℕ
flag o = cond (is_some o) 1 0

sum_of_none : (n : ℕ) → sum_below n (λ id. 0) ≡ 0
unfolding sum_below
sum_of_none zero = refl
sum_of_none (suc n) = let h : sum_below n (λ id. 0) ≡ 0 = sum_of_none n in omega arith

-- a key that no entry has isn't found
not_found : {V : Type 0} (k : ℕ) (es : List (ℕ × V)) → AllByRecursion (λ y. nat_eq k y ≡ false) (keys_of es) → lookup (nat_eq k) es ≡ None
not_found k [] h = refl
not_found k (e ∷ es) h = ap (λ (b : Bool). cond b (Some e.1) (lookup (nat_eq k) es)) h.0 ∙ not_found k es h.1

-- the first entry is found at its own key, and changes nothing at the others
at_own : {V : Type 0} (e : ℕ × V) (es : List (ℕ × V)) → lookup (nat_eq e.0) (e ∷ es) ≡ Some e.1
at_own e es = ap (λ (b : Bool). cond b (Some e.1) (lookup (nat_eq e.0) es)) (eq-eqb e.0 e.0 refl)

at_others : {V : Type 0} (e : ℕ × V) (es : List (ℕ × V)) (j : ℕ) → (j ≡ e.0 → ⊥) → lookup (nat_eq j) (e ∷ es) ≡ lookup (nat_eq j) es
at_others e es j other = ap (λ (b : Bool). cond b (Some e.1) (lookup (nat_eq j) es)) (ne_eqb j e.0 other)

found_later : {V : Type 0} (e : ℕ × V) (es : List (ℕ × V)) (q : ℕ) → IsSome (lookup (nat_eq q) es) → IsSome (lookup (nat_eq q) (e ∷ es))
found_later {V = V} e es q found =
    elim (cases_eq q e.0) [
      | inl same ↦ let P : Option V → Type 0 = IsSome in subst P (ap (λ (k : ℕ). lookup (nat_eq k) (e ∷ es)) (sym same)) (subst P (sym (at_own e es)) refl)
      | inr other ↦ let P : Option V → Type 0 = IsSome in subst P (sym (at_others e es q other)) found
    ]

same_flag : {V : Type 0} (o : Option V) (count : ℕ) → (IsSome o → 1 ≤ count) → (1 ≤ count → IsSome o) → cond (nat_le 1 count) 1 0 ≡ flag o
same_flag None zero there found = refl
same_flag None (suc n) there found = absurd (let e : false ≡ true = found (omega arith) in cc)
same_flag (Some v) zero there found = absurd (let h : 1 ≤ 0 = there refl in omega arith)
same_flag (Some v) (suc n) there found = ap (λ (b : Bool). cond b 1 0) (le-leb 1 (suc n) (omega arith))

-- entries of distinct keys below one are as many as the ids below it that are found
pub found_below : {V : Type 0} (n : ℕ) (es : List (ℕ × V)) → IsDistinct nat_eq (keys_of es)
    → ((q : ℕ) → IsSome (lookup (nat_eq q) es) → q < n)
    → sum_below n (λ id. flag (lookup (nat_eq id) es)) ≡ length es
unfolding IsDistinct
found_below n [] distinct low = sum_of_none n
found_below {V = V} n (e ∷ es) distinct low =
    let k : ℕ = e.0 in
    let f : ℕ → ℕ = λ id. flag (lookup (nat_eq id) (e ∷ es)) in
    let g : ℕ → ℕ = λ id. flag (lookup (nat_eq id) es) in
    let rest : sum_below n g ≡ length es = found_below n es distinct.1 (λ q found. low q (found_later e es q found)) in
    let here : k < n = low k (let P : Option V → Type 0 = IsSome in subst P (sym (at_own e es)) refl) in
    let moved : sum_below n f + g k ≡ sum_below n g + f k = sum_exchanged n f g k here (λ j other. ap flag (at_others e es j other)) in
    let own : f k ≡ 1 = ap flag (at_own e es) in
    let none : g k ≡ 0 = ap flag (not_found k es distinct.0) in
    omega arith

-- where a count is one or more just at the kept ids, they are counted so
pub kept_is : {V : Type 0} (n : ℕ) (es : List (ℕ × V)) (counts : ℕ → ℕ) → IsDistinct nat_eq (keys_of es)
    → ((q : ℕ) → IsSome (lookup (nat_eq q) es) → (q < n) × (1 ≤ counts q)) → ((q : ℕ) → 1 ≤ counts q → IsSome (lookup (nat_eq q) es))
    → sum_below n (λ id. cond (nat_le 1 (counts id)) 1 0) ≡ length es
kept_is {V = V} n es counts distinct there found =
    sum_same n (λ id. cond (nat_le 1 (counts id)) 1 0) (λ id. flag (lookup (nat_eq id) es)) (λ id low. same_flag (lookup (nat_eq id) es) (counts id) (λ some. (there id some).1) (found id))
    ∙ found_below n es distinct (λ q some. (there q some).0)
