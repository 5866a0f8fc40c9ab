-- Visits on a way down.
use Rattle.std.proofs.Common.{inl, inr, ◌≡◌, ℕ, ◌+◌, ◌-◌, ◌^◌, ◌<◌, ◌≤◌, min, refl, ap, sym, ◌∙◌, arith}
use Rattle.std.proofs.Math.Nat.{min-eq_left, min-eq_right}
use Rattle.std.proofs.lemmas.Bool.{cases_lt}
use Rattle.bd_node.specs.Stores.{visited, AreVisits}

-- the way has come from one level to another, with at most one visit a level; so one visit more
-- counts as one more than these
pub record VisitsTo (before after high low : ℕ) : Type 0 where
  pub number : ℕ
  pub few : number + low ≤ high
  pub at_most : after ≤ before + number
  pub next : visited after 1 ≡ visited before (number + 1)

-- one visit after others
visited_once : (before number : ℕ) → visited (visited before number) 1 ≡ visited before (number + 1)
visited_once before number = elim (cases_lt (before + number) (2 ^ 64 - 1)) [
  | inl below ↦ ap (λ (n : ℕ). min (n + 1) (2 ^ 64 - 1)) (min-eq_left (let b : before + number < 2 ^ 64 - 1 = below in omega arith))
      ∙ ap (λ (n : ℕ). min n (2 ^ 64 - 1)) (omega arith)
  | inr above ↦ (let a : 2 ^ 64 - 1 ≤ before + number = above in
      let one : 2 ^ 64 - 1 ≤ (2 ^ 64 - 1) + 1 = omega arith in
      let more : 2 ^ 64 - 1 ≤ before + (number + 1) = omega arith in
      ap (λ (n : ℕ). min (n + 1) (2 ^ 64 - 1)) (min-eq_right a) ∙ min-eq_right one ∙ sym (min-eq_right more))
]

-- no visit yet
pub no_visit : (before high : ℕ) → VisitsTo before before high high
no_visit before high = record { number = 0; few = (omega arith); at_most = (omega arith); next = refl }

-- one more visit, of a node at this level
pub visits_one_more : (before now after high low : ℕ) → VisitsTo before now high low → after ≡ visited now 1 → (lower : ℕ) → lower < low → VisitsTo before after high lower
visits_one_more before now after high low way one lower below =
    let count : after ≡ visited before (way.number + 1) = one ∙ way.next in record {
      number = way.number + 1;
      few = (let few : way.number + low ≤ high = way.few in let less : lower < low = below in omega arith);
      at_most = (omega arith);
      next = ap (λ (n : ℕ). visited n 1) count ∙ visited_once before (way.number + 1);
    }

-- how many visits there were, if one was the last
pub visits_last : (before now after high low : ℕ) → VisitsTo before now high low → after ≡ visited now 1 → AreVisits 1 (high + 1) before after
visits_last before now after high low way one = record {
  number = way.number + 1;
  some = (omega arith);
  few = (let few : way.number + low ≤ high = way.few in omega arith);
  counted = one ∙ way.next;
}

-- and at most so many
pub visits_at_most : (before now after high low : ℕ) → VisitsTo before now high low → after ≡ visited now 1 → after ≤ before + (high + 1)
visits_at_most before now after high low way one =
    let few : way.number + low ≤ high = way.few in let most : now ≤ before + way.number = way.at_most in omega arith

pub visited_more : (before one number : ℕ) → visited (visited before one) number ≡ visited before (number + one)
visited_more before one number = elim (cases_lt (before + one) (2 ^ 64 - 1)) [
  | inl below ↦ ap (λ (n : ℕ). min (n + number) (2 ^ 64 - 1)) (min-eq_left (let b : before + one < 2 ^ 64 - 1 = below in omega arith))
      ∙ ap (λ (n : ℕ). min n (2 ^ 64 - 1)) (omega arith)
  | inr above ↦ (let a : 2 ^ 64 - 1 ≤ before + one = above in
      let least : 2 ^ 64 - 1 ≤ (2 ^ 64 - 1) + number = omega arith in
      let more : 2 ^ 64 - 1 ≤ before + (number + one) = omega arith in
      ap (λ (n : ℕ). min (n + number) (2 ^ 64 - 1)) (min-eq_right a) ∙ min-eq_right least ∙ sym (min-eq_right more))
]

-- one visit and then those of a way from a lower level
pub visits_then : (before now after low high : ℕ) → now ≡ visited before 1 → low < high → AreVisits 1 (low + 1) now after → AreVisits 1 (high + 1) before after
visits_then before now after low high one below way = record {
  number = way.number + 1;
  some = (omega arith);
  few = (let few : way.number ≤ low + 1 = way.few in let less : low < high = below in omega arith);
  counted = way.counted ∙ ap (λ (n : ℕ). visited n way.number) one ∙ visited_more before 1 way.number;
}
