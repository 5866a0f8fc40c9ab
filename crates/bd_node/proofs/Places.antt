-- Which edge is found.
use Rattle.std.proofs.Common.{◌≡◌, ℕ, zero, suc, ◌+◌, ◌-◌, ◌*◌, ◌/◌, ◌^◌, ◌<◌, ◌≤◌, true, false, List, [], ◌∷◌, length, refl, sym, ap, subst, ◌∙◌, Some, arith, inl, inr}
use Rattle.std.specs.Prelude.{slice_get}
use Rattle.std.specs.Ordering.{is_lt}
use Rattle.std.proofs.lemmas.Bool.{cond-true, cond-false, cases_lt}
use Rattle.std.proofs.lemmas.Option.{same_Some, none-some, slice_get_within}
use Rattle.std.proofs.lemmas.Cmp.{nat_list_cmp_total as total}
use Rattle.bd_keys.specs.Keys.{key_cmp, IsBelow, IsAtLeast}
use Rattle.bd_node.specs.declared.node.Edge.{Edge}
use Rattle.bd_node.specs.Nodes.{edge_from, edge_of}
use Rattle.bd_node.specs.Shape.{AreRising}
use Rattle.bd_node.proofs.Edges.{least_over, less_lt, not_less_lt, lt_is, lt_isnt}
use Rattle.bd_node.proofs.Parts.{at_of}
use Rattle.bd_node.proofs.Halving.{step_few, step_left}

-- pivots up to this place, but the first, aren't above the key
abbrev pub AreAtMost : List Edge → ℕ → List ℕ → Type 0
AreAtMost edges place k =
    (i : ℕ) (e : Edge) → 0 < i → i ≤ place → slice_get edges i ≡ Some e → IsAtLeast k e.pivot

-- and from this one on are above it
abbrev pub AreAbove : List Edge → ℕ → List ℕ → Type 0
AreAbove edges place k =
    (i : ℕ) (e : Edge) → place ≤ i → slice_get edges i ≡ Some e → IsBelow k e.pivot

-- the edge between those whose pivots aren't above the key and those whose are
edge_from-at : (e : Edge) (es : List Edge) (k : List ℕ) (i : ℕ) (f : Edge) → slice_get (e ∷ es) i ≡ Some f → AreAtMost (e ∷ es) i k → AreAbove (e ∷ es) (suc i) k → edge_from e es k ≡ f
edge_from-at e [] k zero f there most over = same_Some e f there
edge_from-at e [] k (suc i) f there most over = absurd (none-some f there)
edge_from-at e (g ∷ es) k zero f there most over =
    cond-true (is_lt (key_cmp k g.pivot)) e (edge_from g es k) (less_lt (key_cmp k g.pivot) (over 1 g (omega arith) refl)) ∙ same_Some e f there
edge_from-at e (g ∷ es) k (suc i) f there most over =
    cond-false (is_lt (key_cmp k g.pivot)) e (edge_from g es k) (not_less_lt (key_cmp k g.pivot) (most 1 g (omega arith) (omega arith) refl))
    ∙ edge_from-at g es k i f there (λ j h some low at_j. most (suc j) h (omega arith) (omega arith) at_j) (λ j h high at_j. over (suc j) h (omega arith) at_j)

pub edge_at_place : (es : List Edge) (k : List ℕ) (i : ℕ) (f : Edge) → slice_get es i ≡ Some f → AreAtMost es i k → AreAbove es (suc i) k → edge_of es k ≡ Some f
edge_at_place [] k i f there most over = absurd (none-some f there)
edge_at_place (e ∷ es) k i f there most over = ap (λ (d : Edge). Some d) (edge_from-at e es k i f there most over)

-- later pivots are above
first_below : (e : Edge) (es : List Edge) (j : ℕ) (g : Edge) → AreRising (e ∷ es) → slice_get es j ≡ Some g → IsBelow e.pivot g.pivot
first_below e [] j g h there = absurd (none-some g there)
first_below e (f ∷ es) zero g h there = subst (λ (d : Edge). IsBelow e.pivot d.pivot) (same_Some f g there) h.0
first_below e (f ∷ es) (suc j) g h there = total.trans e.pivot f.pivot g.pivot h.0 (first_below f es j g h.1 there)

rising_at : (es : List Edge) (i j : ℕ) (e f : Edge) → AreRising es → i < j → slice_get es i ≡ Some e → slice_get es j ≡ Some f → IsBelow e.pivot f.pivot
rising_at [] i j e f h low at_i at_j = absurd (none-some e at_i)
rising_at (g ∷ es) i zero e f h low at_i at_j = absurd (omega arith)
rising_at (g ∷ es) zero (suc j) e f h low at_i at_j = subst (λ (d : Edge). IsBelow d.pivot f.pivot) (same_Some g e at_i) (first_below g es j f h at_j)
rising_at (g ∷ es) (suc i) (suc j) e f h low at_i at_j = rising_at es i j e f h.1 (omega arith) at_i at_j

most_more : (es : List Edge) (i : ℕ) (e : Edge) (k : List ℕ) → AreRising es → slice_get es i ≡ Some e → IsAtLeast k e.pivot → AreAtMost es i k
most_more es i e k h there least j f some low at_j =
    elim (cases_lt j i) [
      | inl before ↦ least_over k f.pivot e.pivot least (rising_at es j i f e h before at_j there)
      | inr here ↦ (let same : j ≡ i = omega arith in
          let is : e ≡ f = same_Some e f (sym there ∙ ap (λ n. slice_get es n) (sym same) ∙ at_j) in
          subst (λ (d : Edge). IsAtLeast k d.pivot) is least)
    ]

above_more : (es : List Edge) (i : ℕ) (e : Edge) (k : List ℕ) → AreRising es → slice_get es i ≡ Some e → IsBelow k e.pivot → AreAbove es i k
above_more es i e k h there below j f high at_j =
    elim (cases_lt i j) [
      | inl after ↦ total.trans k e.pivot f.pivot below (rising_at es i j e f h after there at_j)
      | inr here ↦ (let same : j ≡ i = omega arith in
          let is : e ≡ f = same_Some e f (sym there ∙ ap (λ n. slice_get es n) (sym same) ∙ at_j) in
          subst (λ (d : Edge). IsBelow k d.pivot) is below)
    ]

-- what the search keeps
pub record IsHalving (edges : List Edge) (k : List ℕ) (low high before now : ℕ) : Type 0 where
  pub within : low < high
  pub end : high ≤ length edges
  pub most : AreAtMost edges low k
  pub over : AreAbove edges high k
  pub later : before ≤ now
  pub few : 2 ^ (now - before) ≤ 2 * length edges + 1
  pub left : 2 ^ (now - before) * (high - low - 1) ≤ length edges

pub went_up : (es : List Edge) (k : List ℕ) (low high middle before now : ℕ) (e : Edge) → AreRising es → IsHalving es k low high before now → 1 < high - low → middle ≡ low + (high - low) / 2 → slice_get es middle ≡ Some e → is_lt (key_cmp k e.pivot) ≡ false
    → IsHalving es k middle high before (now + 1)
went_up es k low high middle before now e rising h some is there not_less = record {
  within = omega arith;
  end = h.end;
  most = most_more es middle e k rising there (λ less. lt_isnt (key_cmp k e.pivot) not_less less);
  over = h.over;
  later = (let a : before ≤ now = h.later in omega arith);
  few = step_few (length es) before now (high - low - 1) h.later h.left (omega arith);
  left = step_left (length es) before now (high - low - 1) (high - middle - 1) h.later h.left (omega arith);
}

pub went_down : (es : List Edge) (k : List ℕ) (low high middle before now : ℕ) (e : Edge) → AreRising es → IsHalving es k low high before now → 1 < high - low → middle ≡ low + (high - low) / 2 → slice_get es middle ≡ Some e → is_lt (key_cmp k e.pivot) ≡ true
    → IsHalving es k low middle before (now + 1)
went_down es k low high middle before now e rising h some is there less = record {
  within = omega arith;
  end = (let a : high ≤ length es = h.end in omega arith);
  most = h.most;
  over = above_more es middle e k rising there (lt_is (key_cmp k e.pivot) less);
  later = (let a : before ≤ now = h.later in omega arith);
  few = step_few (length es) before now (high - low - 1) h.later h.left (omega arith);
  left = step_left (length es) before now (high - low - 1) (middle - low - 1) h.later h.left (omega arith);
}

pub started : (es : List Edge) (k : List ℕ) (now : ℕ) → 1 ≤ length es → IsHalving es k 0 (length es) now now
started es k now some =
    let none : now - now ≡ 0 = omega arith in
    record {
      within = omega arith;
      end = omega arith;
      most = λ i e more low there. absurd (omega arith);
      over = λ i e high there. absurd (let within : i < length es = slice_get_within es i e there in omega arith);
      later = omega arith;
      few = rw none (omega arith);
      left = rw none (omega arith);
    }

pub ended : (es : List Edge) (k : List ℕ) (low high before now : ℕ) → IsHalving es k low high before now → high - low ≤ 1 → slice_get es low ≡ edge_of es k
ended es k low high before now h none =
    let within : low < high = h.within in
    let end : high ≤ length es = h.end in
    let found : (f : Edge) × (slice_get es low ≡ Some f) = at_of es low (omega arith) in
    found.1 ∙ sym (edge_at_place es k low found.0 found.1 h.most (λ i e high_i there. h.over i e (omega arith) there))
