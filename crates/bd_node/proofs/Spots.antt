-- The order of keys and places, and halving among places that are in it.
use Rattle.std.proofs.Common.{◌≡◌, ℕ, zero, suc, ◌+◌, ◌-◌, ◌*◌, ◌/◌, ◌^◌, ◌<◌, ◌≤◌, true, false, List, [], ◌∷◌, length, get_or, refl, sym, ap, subst, ◌∙◌, arith, inl, inr, ⊎_elim}
use Rattle.std.specs.Prelude.{◌==◌, ◌||◌}
use Rattle.std.specs.Ordering.{is_lt}
use Rattle.std.proofs.lemmas.Bool.{cases_Bool, cases_lt}
use Rattle.std.proofs.lemmas.Bool.Decides.{nat_tests}
use Rattle.std.proofs.lemmas.Cmp.{nat_list_cmp_total, nat_cmp_total, on_total, then_total}
use Rattle.std.specs.Cmp.{IsTotalOrder}
use Rattle.bd_message.specs.declared.message.Message.{Message}
use Rattle.bd_node.specs.Index.{spot_cmp, spot, is_before, has, AreInOrder}
use Rattle.bd_node.proofs.Edges.{lt_is, less_lt}
use Rattle.bd_node.proofs.Halving.{step_few, step_left}

pub spot_total : IsTotalOrder spot_cmp
spot_total = then_total (on_total (λ (s : List ℕ × ℕ). s.0) nat_list_cmp_total) (on_total (λ (s : List ℕ × ℕ). s.1) nat_cmp_total)

pub spot_trans : (a b c : List ℕ × ℕ) → is_lt (spot_cmp a b) ≡ true → is_lt (spot_cmp b c) ≡ true → is_lt (spot_cmp a c) ≡ true
spot_trans a b c h i = less_lt _ (spot_total.trans a b c (lt_is _ h) (lt_is _ i))

-- ---- halving

-- what a search by halving keeps
pub record IsSpotHalving (list : List Message) (points : List ℕ) (s : List ℕ × ℕ) (low high before now : ℕ) : Type 0 where
  pub within : low ≤ high
  pub end : high ≤ length points
  pub lower : (q : ℕ) → q < low → is_before list (get_or points q 0) s ≡ true
  pub upper : (q : ℕ) → high ≤ q → q < length points → is_before list (get_or points q 0) s ≡ false
  pub later : before ≤ now
  pub few : 2 ^ (now - before) ≤ 2 * length points + 1
  pub left : 2 ^ (now - before) * (high - low) ≤ length points

pub before_too : (list : List Message) (points : List ℕ) (s : List ℕ × ℕ) (p q : ℕ) → AreInOrder list points → p ≤ q → q < length points → is_before list (get_or points q 0) s ≡ true → is_before list (get_or points p 0) s ≡ true
before_too list points s p q order le within h =
    elim (cases_lt p q) [
      | inl less ↦ spot_trans (spot list (get_or points p 0)) (spot list (get_or points q 0)) s (order.each p q less within) h
      | inr more ↦ (let same : q ≡ p = omega arith in subst (λ (j : ℕ). is_before list (get_or points j 0) s ≡ true) same h)
    ]

pub true_false : (b : Rattle.std.proofs.Common.Bool) → b ≡ true → b ≡ false → ⊥
true_false b h i = cc

pub spot_up : (list : List Message) (points : List ℕ) (s : List ℕ × ℕ) (low high middle before now : ℕ) → AreInOrder list points → IsSpotHalving list points s low high before now → low < high → middle ≡ low + (high - low) / 2
    → is_before list (get_or points middle 0) s ≡ true → IsSpotHalving list points s (middle + 1) high before (now + 1)
spot_up list points s low high middle before now order h some is first =
    let end : high ≤ length points = h.end in
    record {
      within = omega arith;
      end = end;
      lower = λ q less. before_too list points s q middle order (omega arith) (omega arith) first;
      upper = h.upper;
      later = (let a : before ≤ now = h.later in omega arith);
      few = step_few (length points) before now (high - low) h.later h.left (omega arith);
      left = step_left (length points) before now (high - low) (high - (middle + 1)) h.later h.left (omega arith);
    }

pub spot_down : (list : List Message) (points : List ℕ) (s : List ℕ × ℕ) (low high middle before now : ℕ) → AreInOrder list points → IsSpotHalving list points s low high before now → low < high → middle ≡ low + (high - low) / 2
    → is_before list (get_or points middle 0) s ≡ false → IsSpotHalving list points s low middle before (now + 1)
spot_down list points s low high middle before now order h some is late =
    let end : high ≤ length points = h.end in
    record {
      within = omega arith;
      end = omega arith;
      lower = h.lower;
      upper = λ q least within. elim (cases_Bool (is_before list (get_or points q 0) s)) [
        | inl first ↦ absurd (true_false _ (before_too list points s middle q order least within first) late)
        | inr after ↦ after
      ];
      later = (let a : before ≤ now = h.later in omega arith);
      few = step_few (length points) before now (high - low) h.later h.left (omega arith);
      left = step_left (length points) before now (high - low) (middle - low) h.later h.left (omega arith);
    }

pub spot_start : (list : List Message) (points : List ℕ) (s : List ℕ × ℕ) (n : ℕ) → IsSpotHalving list points s 0 (length points) n n
spot_start list points s n = record {
  within = omega arith;
  end = omega arith;
  lower = λ q less. absurd (omega arith);
  upper = λ q least within. absurd (omega arith);
  later = omega arith;
  few = (let e : n - n ≡ 0 = omega arith in subst (λ (j : ℕ). 2 ^ j ≤ 2 * length points + 1) (sym e) (omega arith));
  left = (let e : n - n ≡ 0 = omega arith in subst (λ (j : ℕ). 2 ^ j * (length points - 0) ≤ length points) (sym e) (omega arith));
}

-- ---- rising places

-- what halving among rising places keeps
pub record IsCounting (ranges : List ℕ) (from low high : ℕ) : Type 0 where
  pub within : low ≤ high
  pub end : high ≤ length ranges
  pub lower : (q : ℕ) → q < low → get_or ranges q 0 < from
  pub upper : (q : ℕ) → high ≤ q → q < length ranges → from ≤ get_or ranges q 0

pub not_after : (ranges : List ℕ) (p q : ℕ) → ((p q : ℕ) → p < q → q < length ranges → get_or ranges p 0 < get_or ranges q 0) → p ≤ q → q < length ranges → get_or ranges p 0 ≤ get_or ranges q 0
not_after ranges p q rising le within =
    elim (cases_lt p q) [
      | inl less ↦ (let l : get_or ranges p 0 < get_or ranges q 0 = rising p q less within in omega arith)
      | inr more ↦ (let same : p ≡ q = omega arith in let e : get_or ranges p 0 ≡ get_or ranges q 0 = ap (λ (j : ℕ). get_or ranges j 0) same in omega arith)
    ]

pub count_up : (ranges : List ℕ) (from low high middle : ℕ) → ((p q : ℕ) → p < q → q < length ranges → get_or ranges p 0 < get_or ranges q 0) → IsCounting ranges from low high → low < high → middle ≡ low + (high - low) / 2 → get_or ranges middle 0 < from
    → IsCounting ranges from (middle + 1) high
count_up ranges from low high middle rising h some is less =
    let end : high ≤ length ranges = h.end in
    record {
      within = omega arith;
      end = end;
      lower = λ q below. (let l : get_or ranges q 0 ≤ get_or ranges middle 0 = not_after ranges q middle rising (omega arith) (omega arith) in omega arith);
      upper = h.upper;
    }

pub count_down : (ranges : List ℕ) (from low high middle : ℕ) → ((p q : ℕ) → p < q → q < length ranges → get_or ranges p 0 < get_or ranges q 0) → IsCounting ranges from low high → low < high → middle ≡ low + (high - low) / 2 → from ≤ get_or ranges middle 0
    → IsCounting ranges from low middle
count_down ranges from low high middle rising h some is more =
    let end : high ≤ length ranges = h.end in
    record {
      within = omega arith;
      end = omega arith;
      lower = h.lower;
      upper = λ q least within. (let l : get_or ranges middle 0 ≤ get_or ranges q 0 = not_after ranges middle q rising least within in omega arith);
    }

-- ---- places that are among others

pub has_place : (xs : List ℕ) (i : ℕ) → has xs i ≡ true → (q : ℕ) × (q < length xs) × (get_or xs q 0 ≡ i)
has_place [] i h = absurd (true_false false h refl)
has_place (x ∷ xs) i h =
    elim (cases_Bool (x == i)) [
      | inl here ↦ (let same : x ≡ i = grind (arith, nat_tests) in (0, omega arith, same))
      | inr past ↦ (let more : has xs i ≡ true = subst (λ (b : Rattle.std.proofs.Common.Bool). (b || has xs i) ≡ true) past h in
          let rest = has_place xs i more in (suc rest.0, (let l : rest.0 < length xs = rest.1 in omega arith), rest.2))
    ]

pub has_at : (xs : List ℕ) (q i : ℕ) → q < length xs → get_or xs q 0 ≡ i → has xs i ≡ true
has_at xs q i within is =
    Rattle.std.proofs.lemmas.List.Folds.list_any_at (λ x. x == i) xs q 0 within (Rattle.std.proofs.Common.eq-eqb (get_or xs q 0) i is)
