-- Sums over the ids below one.
use Rattle.std.proofs.Common.{◌≡◌, ℕ, zero, suc, ◌+◌, ◌<◌, ◌≤◌, refl, sym, ap, ◌∙◌, arith, inl, inr, add-zero, add-suc}
use Rattle.std.proofs.lemmas.Bool.{cases_eq, cases_lt}
use Rattle.bd_node.specs.Tables.{sum_below}

-- a term is at most the sum
pub sum_at : (n : ℕ) (f : ℕ → ℕ) (i : ℕ) → i < n → f i ≤ sum_below n f
unfolding sum_below
sum_at zero f i low = absurd (omega arith)
sum_at (suc n) f i low =
    elim (cases_eq i n) [
      | inl same ↦ let e : f i ≡ f n = ap f same in omega arith
      | inr other ↦ let h : f i ≤ sum_below n f = sum_at n f i (omega arith) in omega arith
    ]

-- and so are two
pub sum_two : (n : ℕ) (f : ℕ → ℕ) (i j : ℕ) → i < n → j < n → (i ≡ j → ⊥) → f i + f j ≤ sum_below n f
unfolding sum_below
sum_two zero f i j low high other = absurd (omega arith)
sum_two (suc n) f i j low high other =
    elim (cases_eq i n) [
      | inl same ↦ let e : f i ≡ f n = ap f same in let h : f j ≤ sum_below n f = sum_at n f j (omega arith) in omega arith
      | inr apart ↦ elim (cases_eq j n) [
        | inl same ↦ let e : f j ≡ f n = ap f same in let h : f i ≤ sum_below n f = sum_at n f i (omega arith) in omega arith
        | inr last ↦ let h : f i + f j ≤ sum_below n f = sum_two n f i j (omega arith) (omega arith) other in omega arith
      ]
    ]

-- a sum that isn't 0 has a term that isn't
pub sum_some : (n : ℕ) (f : ℕ → ℕ) → 1 ≤ sum_below n f → (i : ℕ) × (i < n) × (1 ≤ f i)
unfolding sum_below
sum_some zero f h = absurd (omega arith)
sum_some (suc n) f h =
    elim (cases_lt 0 (f n)) [
      | inl here ↦ (n, omega arith, omega arith)
      | inr none ↦ let found : (i : ℕ) × (i < n) × (1 ≤ f i) = sum_some n f (omega arith) in (found.0, (let l : found.0 < n = found.1 in omega arith), found.2)
    ]

-- equal terms have equal sums
pub sum_same : (n : ℕ) (f g : ℕ → ℕ) → ((i : ℕ) → i < n → f i ≡ g i) → sum_below n f ≡ sum_below n g
unfolding sum_below
sum_same zero f g h = refl
sum_same (suc n) f g h =
    let here : f n ≡ g n = h n (omega arith) in
    let rest : sum_below n f ≡ sum_below n g = sum_same n f g (λ i low. h i (omega arith)) in
    omega arith

-- sums that differ in one term alone
pub sum_exchanged : (n : ℕ) (f g : ℕ → ℕ) (i : ℕ) → i < n → ((j : ℕ) → (j ≡ i → ⊥) → f j ≡ g j) → sum_below n f + g i ≡ sum_below n g + f i
unfolding sum_below
sum_exchanged zero f g i low others = absurd (omega arith)
sum_exchanged (suc n) f g i low others =
    elim (cases_eq i n) [
      | inl same ↦ (let rest : sum_below n f ≡ sum_below n g = sum_same n f g (λ j below. others j (λ e. omega arith)) in
          let a : f n ≡ f i = ap f (sym same) in
          let b : g n ≡ g i = ap g (sym same) in omega arith)
      | inr apart ↦ (let rest : sum_below n f + g i ≡ sum_below n g + f i = sum_exchanged n f g i (omega arith) others in
          let here : f n ≡ g n = others n (λ e. apart (sym e)) in omega arith)
    ]

-- the ids below n, and the m from n on
pub sum_split : (n m : ℕ) (f : ℕ → ℕ) → sum_below (n + m) f ≡ sum_below n f + sum_below m (λ i. f (n + i))
unfolding sum_below
sum_split n zero f = ap (λ k. sum_below k f) (add-zero n) ∙ omega arith
sum_split n (suc m) f =
    let rest : sum_below (n + m) f ≡ sum_below n f + sum_below m (λ i. f (n + i)) = sum_split n m f in
    ap (λ k. sum_below k f) (add-suc n m) ∙ omega arith

-- the first term, and the rest
pub sum_first : (n : ℕ) (f : ℕ → ℕ) → sum_below (suc n) f ≡ f 0 + sum_below n (λ i. f (suc i))
unfolding sum_below
sum_first zero f = omega arith
sum_first (suc n) f =
    let rest : sum_below (suc n) f ≡ f 0 + sum_below n (λ i. f (suc i)) = sum_first n f in
    omega arith
