-- How many flush steps an engine counts.
use Rattle.std.proofs.Common.{inl, inr, ◌≡◌, ℕ, ◌+◌, ◌-◌, ◌^◌, ◌<◌, ◌≤◌, min, ap, sym, ◌∙◌, arith}
use Rattle.std.proofs.Math.Nat.{min-eq_left, min-eq_right}
use Rattle.std.proofs.lemmas.Bool.{cases_lt}
use Rattle.bd_engine.specs.Engines.{flushed_on}

-- after none more the count is what it was
pub flushed_none : (before : ℕ) → before < 2 ^ 64 → before ≡ flushed_on before 0
flushed_none before low = omega arith ∙ sym (min-eq_left (omega (arith, low)))

-- and after one more
pub flushed_once : (before made : ℕ) → flushed_on (flushed_on before made) 1 ≡ flushed_on before (made + 1)
flushed_once before made = elim (cases_lt (before + made) (2 ^ 64 - 1)) [
  | inl below ↦ ap (λ (n : ℕ). min (n + 1) (2 ^ 64 - 1)) (min-eq_left (let b : before + made < 2 ^ 64 - 1 = below in omega arith))
      ∙ ap (λ (n : ℕ). min n (2 ^ 64 - 1)) (omega arith)
  | inr above ↦ (let a : 2 ^ 64 - 1 ≤ before + made = above in
      let one : 2 ^ 64 - 1 ≤ (2 ^ 64 - 1) + 1 = omega arith in
      let more : 2 ^ 64 - 1 ≤ before + (made + 1) = omega arith in
      ap (λ (n : ℕ). min (n + 1) (2 ^ 64 - 1)) (min-eq_right a) ∙ min-eq_right one ∙ sym (min-eq_right more))
]

-- it doesn't grow by more than those
pub flushed_few : (before made : ℕ) → flushed_on before made ≤ before + made
flushed_few before made = elim (cases_lt (before + made) (2 ^ 64 - 1)) [
  | inl below ↦ (let b : before + made < 2 ^ 64 - 1 = below in
      let same : flushed_on before made ≡ before + made = min-eq_left (omega (arith, b)) in
      omega (arith, same))
  | inr above ↦ (let a : 2 ^ 64 - 1 ≤ before + made = above in
      let same : flushed_on before made ≡ 2 ^ 64 - 1 = min-eq_right a in
      omega (arith, same, a))
]
