-- What is found among entries in rising order.
use Rattle.std.proofs.Common.{◌≡◌, ℕ, zero, suc, ◌+◌, ◌-◌, ◌*◌, ◌/◌, ◌^◌, ◌<◌, ◌≤◌, true, false, List, [], ◌∷◌, length, refl, sym, ap, subst, ◌∙◌, None, Some, arith, inl, inr, Less, Equal, Greater}
use Rattle.std.specs.Prelude.{slice_get}
use Rattle.std.specs.List.{AllByRecursion}
use Rattle.std.specs.Ordering.{ordering_reverse}
use Rattle.std.specs.Cmp.{unsigned_Decides, tied_itself}
use Rattle.std.specs.Cmp.Lexicographic.{same_text}
use Rattle.std.specs.FinMap.{nat_cmp-IsAntisymmetric, slice_cmp-IsAntisymmetric}
use Rattle.std.proofs.lemmas.Bool.{cases_Bool, cond-true, cond-false, cases_lt}
use Rattle.std.proofs.lemmas.Option.{same_Some, none-some}
use Rattle.std.proofs.lemmas.Cmp.{nat_list_cmp_total as total}
use Rattle.bd_keys.specs.Keys.{key_cmp, IsBelow}
use Rattle.bd_message.specs.Effect.{same_key}
use Rattle.bd_node.specs.declared.node.Entry.{Entry}
use Rattle.bd_node.specs.Nodes.{entry_at}
use Rattle.bd_node.specs.Shape.{IsRising}
use Rattle.bd_node.proofs.Halving.{step_few, step_left}
use Rattle.bd_leaf.specs.Places.{AreBelow, AreAbove}

-- ---- keys

pub tied : (k l : List ℕ) → key_cmp k l ≡ Equal → k ≡ l
tied = slice_cmp-IsAntisymmetric nat_cmp-IsAntisymmetric

pub same_key-refl : (k : List ℕ) → same_key k k ≡ true
same_key-refl [] = refl
same_key-refl (b ∷ k) = rw ((unsigned_Decides b b).1 refl) (same_key-refl k)

not_below_itself : (k : List ℕ) → IsBelow k k → ⊥
not_below_itself k below = (let e : Less ≡ Equal = sym below ∙ tied_itself total k in (cc))

pub above : (k l : List ℕ) → key_cmp k l ≡ Greater → IsBelow l k
above k l h = total.antisymm l k ∙ ap ordering_reverse h

pub apart_below : (k l : List ℕ) → IsBelow k l → same_key k l ≡ false
apart_below k l below =
    elim (cases_Bool (same_key k l)) [
      | inl same ↦ absurd (not_below_itself k (subst (λ (m : List ℕ). IsBelow k m) (sym (same_text k l (sym same))) below))
      | inr other ↦ other
    ]

pub apart_above : (k l : List ℕ) → IsBelow l k → same_key k l ≡ false
apart_above k l below =
    elim (cases_Bool (same_key k l)) [
      | inl same ↦ absurd (not_below_itself k (subst (λ (m : List ℕ). IsBelow m k) (sym (same_text k l (sym same))) below))
      | inr other ↦ other
    ]

-- ---- entries

-- none of another key says anything
entry_at-none : (es : List Entry) (k : List ℕ) → ((i : ℕ) (e : Entry) → slice_get es i ≡ Some e → same_key k e.key ≡ false) → entry_at es k ≡ None
entry_at-none [] k h = refl
entry_at-none (e ∷ es) k h = cond-false (same_key k e.key) (Some e.value) (entry_at es k) (h zero e refl) ∙ entry_at-none es k (λ i f there. h (suc i) f there)

pub nothing_at : (es : List Entry) (place : ℕ) (k : List ℕ) → AreBelow es place k → AreAbove es place k → entry_at es k ≡ None
nothing_at es place k below over =
    entry_at-none es k (λ i e there.
    elim (cases_lt i place) [
      | inl low ↦ apart_above k e.key (below i e low there)
      | inr high ↦ apart_below k e.key (over i e high there)
    ])

pub each_at : (P : Entry → Type 0) (es : List Entry) (i : ℕ) (e : Entry) → AllByRecursion P es → slice_get es i ≡ Some e → P e
each_at P [] i e h there = absurd (none-some e there)
each_at P (f ∷ es) zero e h there = subst P (same_Some f e there) h.0
each_at P (f ∷ es) (suc i) e h there = each_at P es i e h.1 there

-- a later entry's key is above
pub rising_at : (es : List Entry) (i j : ℕ) (e f : Entry) → IsRising es → i < j → slice_get es i ≡ Some e → slice_get es j ≡ Some f → IsBelow e.key f.key
rising_at [] i j e f h low at_i at_j = absurd (none-some e at_i)
rising_at (g ∷ es) i zero e f h low at_i at_j = absurd (omega arith)
rising_at (g ∷ es) zero (suc j) e f h low at_i at_j =
    subst (λ (d : Entry). IsBelow d.key f.key) (same_Some g e at_i) (each_at (λ (d : Entry). IsBelow g.key d.key) es j f h.0 at_j)
rising_at (g ∷ es) (suc i) (suc j) e f h low at_i at_j = rising_at es i j e f h.1 (omega arith) at_i at_j

-- the entry of the key says what stands there
pub found_at : (es : List Entry) (i : ℕ) (e : Entry) (k : List ℕ) → IsRising es → slice_get es i ≡ Some e → e.key ≡ k → entry_at es k ≡ Some e.value
found_at [] i e k h there same = absurd (none-some e there)
found_at (f ∷ es) zero e k h there same =
    let is : f ≡ e = same_Some f e there in
    cond-true (same_key k f.key) (Some f.value) (entry_at es k) (subst (λ (l : List ℕ). same_key k l ≡ true) (sym (ap (λ (d : Entry). d.key) is ∙ same)) (same_key-refl k))
    ∙ ap (λ (d : Entry). Some d.value) is
found_at (f ∷ es) (suc i) e k h there same =
    let below : IsBelow f.key k = subst (λ (l : List ℕ). IsBelow f.key l) same (each_at (λ (d : Entry). IsBelow f.key d.key) es i e h.0 there) in
    cond-false (same_key k f.key) (Some f.value) (entry_at es k) (apart_above k f.key below) ∙ found_at es i e k h.1 there same

-- ---- halving

-- all before an entry below the key are below it too, and it
pub below_more : (es : List Entry) (i : ℕ) (e : Entry) (k : List ℕ) → IsRising es → slice_get es i ≡ Some e → IsBelow e.key k → AreBelow es (i + 1) k
below_more es i e k h there below j f low at_j =
    elim (cases_lt j i) [
      | inl before ↦ total.trans f.key e.key k (rising_at es j i f e h before at_j there) below
      | inr here ↦ (let same : j ≡ i = omega arith in
          let is : e ≡ f = same_Some e f (sym there ∙ ap (λ n. slice_get es n) (sym same) ∙ at_j) in
          subst (λ (d : Entry). IsBelow d.key k) is below)
    ]

pub above_more : (es : List Entry) (i : ℕ) (e : Entry) (k : List ℕ) → IsRising es → slice_get es i ≡ Some e → IsBelow k e.key → AreAbove es i k
above_more es i e k h there below j f high at_j =
    elim (cases_lt i j) [
      | inl after ↦ total.trans k e.key f.key below (rising_at es i j e f h after there at_j)
      | inr here ↦ (let same : j ≡ i = omega arith in
          let is : e ≡ f = same_Some e f (sym there ∙ ap (λ n. slice_get es n) (sym same) ∙ at_j) in
          subst (λ (d : Entry). IsBelow k d.key) is below)
    ]

-- what a search by halving keeps: the key stands from low on and below high if anywhere, and the
-- comparisons so far have halved what is left
pub record IsHalving (entries : List Entry) (k : List ℕ) (low high before now : ℕ) : Type 0 where
  pub within : low ≤ high
  pub end : high ≤ length entries
  pub below : AreBelow entries low k
  pub over : AreAbove entries high k
  pub later : before ≤ now
  pub few : 2 ^ (now - before) ≤ 2 * length entries + 1
  pub left : 2 ^ (now - before) * (high - low) ≤ length entries

pub went_up : (es : List Entry) (k : List ℕ) (low high middle before now : ℕ) (e : Entry) → IsRising es → IsHalving es k low high before now → low < high → middle ≡ low + (high - low) / 2 → slice_get es middle ≡ Some e → key_cmp e.key k ≡ Less
    → IsHalving es k (middle + 1) high before (now + 1)
went_up es k low high middle before now e rising h some is there less = record {
  within = (let a : low ≤ high = h.within in omega arith);
  end = h.end;
  below = below_more es middle e k rising there less;
  over = h.over;
  later = (let a : before ≤ now = h.later in omega arith);
  few = step_few (length es) before now (high - low) h.later h.left (omega arith);
  left = step_left (length es) before now (high - low) (high - (middle + 1)) h.later h.left (omega arith);
}

pub went_down : (es : List Entry) (k : List ℕ) (low high middle before now : ℕ) (e : Entry) → IsRising es → IsHalving es k low high before now → low < high → middle ≡ low + (high - low) / 2 → slice_get es middle ≡ Some e → key_cmp e.key k ≡ Greater
    → IsHalving es k low middle before (now + 1)
went_down es k low high middle before now e rising h some is there more = record {
  within = omega arith;
  end = (let a : high ≤ length es = h.end in omega arith);
  below = h.below;
  over = above_more es middle e k rising there (above e.key k more);
  later = (let a : before ≤ now = h.later in omega arith);
  few = step_few (length es) before now (high - low) h.later h.left (omega arith);
  left = step_left (length es) before now (high - low) (middle - low) h.later h.left (omega arith);
}
