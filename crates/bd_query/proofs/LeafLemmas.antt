-- The keys between two entries of a leaf, and the entries from a key on.
use Rattle.std.proofs.Common.{◌≡◌, ℕ, zero, suc, ◌-◌, ◌<◌, ◌≤◌, List, [], ◌∷◌, ◌++◌, length, take, drop, refl, sym, ap, subst, ◌∙◌, Option, None, Some, Ok, Err, arith, inl, inr, length-drop}
use Rattle.std.specs.Prelude.{slice_get}
use Rattle.std.specs.List.{AllByRecursion}
use Rattle.std.specs.Option.{option_map}
use Rattle.std.proofs.lemmas.Bool.{cases_lt}
use Rattle.std.proofs.lemmas.Cmp.{nat_list_cmp_total as total}
use Rattle.std.proofs.lemmas.List.{length-take-le}
use Rattle.std.proofs.lemmas.Option.{same_Some, none-some, slice_get_within, slice_get_past}
use Rattle.bd_keys.specs.Keys.{IsKey, IsBelow, IsBelowEnd}
use Rattle.bd_keys.proofs.Order.{below_from, not_below_itself}
use Rattle.bd_node.specs.declared.node.Entry.{Entry}
use Rattle.bd_node.specs.Nodes.{entry_at}
use Rattle.bd_node.specs.Shape.{IsRising}
use Rattle.bd_leaf.specs.Places.{IsPlace}
use Rattle.bd_leaf.proofs.Finds.{nothing_at, rising_at, found_at}
use Rattle.bd_node.proofs.Touched.{least_back, below_longer}
use Rattle.bd_query.specs.Runs.{IsFirstFrom}
use Rattle.bd_query.specs.Stretches.{IsEmpty, IsFirst, IsRun, IsSomeRun}
use Rattle.bd_query.proofs.EndLemmas.{no_key_between}

-- ---- the first entry from a key on

-- an entry at a place is the one there, or stands after it
same_place : (es : List Entry) (place i : ℕ) (e f : Entry) → i ≡ place → slice_get es place ≡ Some e → slice_get es i ≡ Some f → e ≡ f
same_place es place i e f same at_place at_i = same_Some e f (sym at_place ∙ ap (λ (j : ℕ). slice_get es j) (sym same) ∙ at_i)

first_at : (es : List Entry) (place : ℕ) (k : List ℕ) (e : Entry) → IsRising es → slice_get es place ≡ Some e → e.key ≡ k → IsFirstFrom es k place
first_at es place k e rising there same = record {
  within = (let w : place < length es = slice_get_within es place e there in omega arith);
  before = λ i f low at_i. subst (λ (l : List ℕ). IsBelow f.key l) same (rising_at es i place f e rising low at_i there);
  from = λ i f high at_i.
      subst (λ (l : List ℕ). IsBelow f.key l → ⊥) same
      (elim (cases_lt place i) [
        | inl more ↦ least_back e.key f.key (rising_at es place i e f rising more there at_i)
        | inr here ↦ subst (λ (d : Entry). IsBelow d.key e.key → ⊥) (same_place es place i e f (omega arith) there at_i) (not_below_itself e.key)
      ]);
}

-- a place of a key, whether it has an entry or not, is that of the first from it on
pub found_first : (es : List Entry) (k : List ℕ) (place : ℕ) → IsRising es → IsPlace es k (Ok place) → IsFirstFrom es k place
found_first es k place rising h = first_at es place k h.0 rising h.1 h.2

pub missing_first : (es : List Entry) (k : List ℕ) (place : ℕ) → IsPlace es k (Err place) → IsFirstFrom es k place
missing_first es k place h = record {
  within = h.0;
  before = h.1;
  from = λ i e high there. least_back k e.key (h.2 i e high there);
}

-- the first one after an entry's key is the next entry
first_after : (es : List Entry) (place : ℕ) (e : Entry) → IsRising es → slice_get es place ≡ Some e → IsFirstFrom es (e.key ++ 0 ∷ []) (suc place)
first_after es place e rising there = record {
  within = (let w : place < length es = slice_get_within es place e there in omega arith);
  before = λ i f low at_i.
      elim (cases_lt i place) [
        | inl less ↦ total.trans f.key e.key (e.key ++ 0 ∷ []) (rising_at es i place f e rising less at_i there) (below_longer e.key 0 [])
        | inr here ↦ subst (λ (d : Entry). IsBelow d.key (e.key ++ 0 ∷ [])) (same_place es place i e f (omega arith) there at_i) (below_longer e.key 0 [])
      ];
  from = λ i f high at_i less.
      let above : IsBelow e.key f.key = rising_at es place i e f rising (omega arith) there at_i in
      not_below_itself e.key (subst (λ (l : List ℕ). IsBelow e.key l) (no_key_between e.key f.key (least_back e.key f.key above) less) above);
}

-- ---- what stands from a key on

-- before an entry there is one at each place
some_before : (es : List Entry) (i place : ℕ) (e : Entry) → place ≤ i → slice_get es i ≡ Some e → (f : Entry) × (slice_get es place ≡ Some f)
some_before [] i place e le there = absurd (none-some e there)
some_before (g ∷ es) i zero e le there = (g, refl)
some_before (g ∷ es) zero (suc place) e le there = absurd (omega arith)
some_before (g ∷ es) (suc i) (suc place) e le there = some_before es i place e (omega arith) there

-- what is below an entry's key is below that of each later one
below_later : (es : List Entry) (place i : ℕ) (f e : Entry) (k : List ℕ) → IsRising es → place ≤ i → slice_get es place ≡ Some f → slice_get es i ≡ Some e → IsBelow k f.key → IsBelow k e.key
below_later es place i f e k rising le at_place at_i below =
    elim (cases_lt place i) [
      | inl more ↦ total.trans k f.key e.key below (rising_at es place i f e rising more at_place at_i)
      | inr here ↦ subst (λ (d : Entry). IsBelow k d.key) (same_place es place i f e (omega arith) at_place at_i) below
    ]

-- nothing stands from a key up to the next entry's
gap_empty : (es : List Entry) (place : ℕ) (lo : List ℕ) → IsRising es → IsFirstFrom es lo place → IsEmpty (λ k. entry_at es k) lo (option_map (λ (e : Entry). e.key) (slice_get es place))
gap_empty es place lo rising h k is_k within =
    nothing_at es place k
    (λ i e low there. below_from e.key lo k (h.before i e low there) within.0)
    (λ i e high there.
    let first = some_before es i place e high there in
    below_later es place i first.0 e k rising high first.1 there
    (subst (λ (o : Option Entry). IsBelowEnd k (option_map (λ (d : Entry). d.key) o)) first.1 within.1))

-- and that entry's key is the first one, and its value is what stands there
gap_first : (es : List Entry) (place : ℕ) (e : Entry) (lo : List ℕ) → IsRising es → IsFirstFrom es lo place → slice_get es place ≡ Some e → IsFirst (λ k. entry_at es k) lo e.key e.value
gap_first es place e lo rising h there = record {
  on = h.from place e (omega arith) there;
  empty = subst (λ (o : Option Entry). IsEmpty (λ k. entry_at es k) lo (option_map (λ (d : Entry). d.key) o)) there (gap_empty es place lo rising h);
  has = found_at es place e e.key rising there refl;
}

-- and where there is none, nothing stands from the key on
pub gap_last : (es : List Entry) (place : ℕ) (lo : List ℕ) → IsRising es → IsFirstFrom es lo place → length es ≤ place → IsEmpty (λ k. entry_at es k) lo None
gap_last es place lo rising h past =
    subst (λ (o : Option Entry). IsEmpty (λ k. entry_at es k) lo (option_map (λ (d : Entry). d.key) o)) (slice_get_past es place past) (gap_empty es place lo rising h)

-- ---- runs

-- the first of the entries from a place on, and those after it
dropped : (es : List Entry) (place : ℕ) (e : Entry) (rest : List Entry) → e ∷ rest ≡ drop place es → (slice_get es place ≡ Some e) × (rest ≡ drop (suc place) es)
dropped [] zero e rest is = absurd (cc)
dropped [] (suc place) e rest is = absurd (cc)
dropped (f ∷ es) zero e rest is = (cc, cc)
dropped (f ∷ es) (suc place) e rest is = dropped es place e rest is

run_on : (es : List Entry) (n place : ℕ) (lo : List ℕ) (rest : List Entry) → rest ≡ drop place es → IsRising es → IsFirstFrom es lo place → AllByRecursion (λ (e : Entry). IsKey e.key) (take n rest) → IsRun (entry_at es) lo (take n rest)
run_on es zero place lo rest is rising first keys = tt
run_on es (suc n) place lo [] is rising first keys = tt
run_on es (suc n) place lo (e ∷ rest) is rising first keys =
    let there = dropped es place e rest is in (
      keys.0,
      gap_first es place e lo rising first there.0,
      run_on es n (suc place) (e.key ++ 0 ∷ []) rest there.1 rising (first_after es place e rising there.0) keys.1,
    )

-- the entries from the first one on are those of the first keys
pub run_taken : (es : List Entry) (first last : ℕ) (lo : List ℕ) (copies : List Entry) → IsRising es → IsFirstFrom es lo first → first < last → last ≤ length es → copies ≡ take (last - first) (drop first es) → AllByRecursion (λ (e : Entry). IsKey e.key) copies
    → IsSomeRun (entry_at es) lo copies
run_taken es first last lo copies rising h some within is keys =
    let all : length (take (last - first) (drop first es)) ≡ last - first = length-take-le (last - first) (drop first es) (let e : length (drop first es) ≡ length es - first = length-drop first es in omega arith) in (
      (let e : length copies ≡ length (take (last - first) (drop first es)) = ap (λ (l : List Entry). length l) is in omega arith),
      subst (λ (l : List Entry). IsRun (entry_at es) lo l) (sym is)
          (run_on es (last - first) first lo (drop first es) refl rising h (subst (λ (l : List Entry). AllByRecursion (λ (e : Entry). IsKey e.key) l) is keys)),
    )
