-- What a search finds.
use Rattle.std.proofs.Common.{◌≡◌, ◌≢◌, ℕ, zero, suc, ◌+◌, ◌-◌, ◌≤◌, List, [], ◌∷◌, ◌++◌, length, refl, sym, ap, subst, ◌∙◌, None, Some, arith, inl, inr, true, false, append_assoc, length-append}
use Rattle.std.proofs.lemmas.Bool.{cases_Bool, cond-true, cond-false}
use Rattle.std.proofs.lemmas.List.{append-nil}
use Rattle.bd_keys.specs.Keys.{IsAtLeast, Begins}
use Rattle.bd_keys.proofs.Order.{not_below_itself}
use Rattle.bd_message.specs.Effect.{begins}
use Rattle.bd_message.specs.KeyMaps.{At, IsNextEntry}
use Rattle.bd_message.proofs.Finds.{not_both}
use Rattle.bd_node.specs.declared.node.Entry.{Entry}
use Rattle.bd_node.specs.Meaning.{Nodes, at}
use Rattle.bd_node.proofs.Touched.{below_longer, least_back}
use Rattle.bd_scan.specs.Scans.{AreNext, IsScan}
use Rattle.bd_scan.specs.declared.scan.Found.{Found}
use Rattle.bd_query.specs.Runs.{found_of}
use Rattle.bd_query.specs.Stretches.{IsRun, IsSomeRun, IsTurn}
use Rattle.bd_query.specs.declared.turns.Turn.{Turn}
use Rattle.bd_query.specs.declared.turns.Turn.TheVariants.{Run}
use Rattle.bd_query.proofs.EndLemmas.{least_trans}
use Rattle.bd_query.proofs.SearchLemmas.{IsLow, begins_least, low_passed, low_found, low_other}
use Rattle.bd_query.proofs.StretchLemmas.{begins_true, true_begins}

-- ---- what is found where entries are

found_at : Entry → Found
found_at e = record { key = e.key; value = e.value }

found_more : (most : ℕ) (within : List ℕ) (e : Entry) (es : List Entry) → begins e.key within ≡ true → found_of (suc most) within (e ∷ es) ≡ found_at e ∷ found_of most within es
unfolding found_at
found_more most within e es same = cond-true (begins e.key within) (found_at e ∷ found_of most within es) [] same

found_other : (most : ℕ) (within : List ℕ) (e : Entry) (es : List Entry) → begins e.key within ≡ false → found_of most within (e ∷ es) ≡ []
unfolding found_at
found_other zero within e es other = refl
found_other (suc most) within e es other = cond-false (begins e.key within) (found_at e ∷ found_of most within es) [] other

found_full : (within : List ℕ) (es : List Entry) → found_of zero within es ≡ []
found_full within [] = refl
found_full within (e ∷ es) = refl

pub found_few : (most : ℕ) (within : List ℕ) (es : List Entry) → length (found_of most within es) ≤ most
found_few most within [] = omega arith
found_few zero within (e ∷ es) = omega arith
found_few (suc most) within (e ∷ es) =
    elim (cases_Bool (begins e.key within)) [
      | inl same ↦ (let few : length (found_of most within es) ≤ most = found_few most within es in
          subst (λ (fs : List Found). length fs ≤ suc most) (sym (found_more most within e es same)) (omega arith))
      | inr other ↦ subst (λ (fs : List Found). length fs ≤ suc most) (sym (found_other (suc most) within e es other)) (omega arith)
    ]

-- ---- found so far

-- what was found, and what is found where the rest is, is what is found where all entries are
pub record IsBegun (most : ℕ) (prefix : List ℕ) (entries : List Entry) (found : List Found) (rest : List Entry) : Type 0 where
  pub few : length found ≤ most
  pub all : found ++ found_of (most - length found) prefix rest ≡ found_of most prefix entries

pub begun_none : (most : ℕ) (prefix : List ℕ) (entries rest : List Entry) (found : List Found) → found ≡ [] → rest ≡ entries → IsBegun most prefix entries found rest
begun_none most prefix entries rest found none same =
    subst (λ (fs : List Found). IsBegun most prefix entries fs rest) (sym none)
    (subst (λ (es : List Entry). IsBegun most prefix entries [] es) (sym same) (record {
      few = omega arith;
      all = ap (λ (n : ℕ). found_of n prefix entries) (omega arith);
    }))

pub begun_more : (most : ℕ) (prefix : List ℕ) (entries rest more : List Entry) (found new : List Found) (e : Entry) → IsBegun most prefix entries found rest → rest ≡ e ∷ more → length found ≢ most → Begins e.key prefix
    → new ≡ found ++ record { key = e.key; value = e.value } ∷ [] → IsBegun most prefix entries new more
unfolding found_at
begun_more most prefix entries rest more found new e h is unfull same pushed =
    let left : ℕ = most - (length found + 1) in
    let few : length found ≤ most = h.few in
    let one : length (found ++ found_at e ∷ []) ≡ length found + 1 = length-append found (found_at e ∷ []) in
    subst (λ (fs : List Found). IsBegun most prefix entries fs more) (sym pushed) (record {
      few = omega arith;
      all = append_assoc found (found_at e ∷ []) (found_of (most - length (found ++ found_at e ∷ [])) prefix more)
          ∙ ap (λ (n : ℕ). found ++ found_at e ∷ found_of n prefix more) (let goal : most - length (found ++ found_at e ∷ []) ≡ left = omega arith in goal)
          ∙ ap (λ (fs : List Found). found ++ fs) (sym (found_more left prefix e more (begins_true e.key prefix same)))
          ∙ ap (λ (n : ℕ). found ++ found_of n prefix (e ∷ more)) (let goal : suc left ≡ most - length found = omega arith in goal)
          ∙ ap (λ (es : List Entry). found ++ found_of (most - length found) prefix es) (sym is)
          ∙ h.all;
    })

begun_last : (most : ℕ) (prefix : List ℕ) (entries rest : List Entry) (found : List Found) → IsBegun most prefix entries found rest → found_of (most - length found) prefix rest ≡ [] → found ≡ found_of most prefix entries
begun_last most prefix entries rest found h none = sym (append-nil found) ∙ ap (λ (fs : List Found). found ++ fs) (sym none) ∙ h.all

-- no more is found where there are no more entries
pub begun_all : (most : ℕ) (prefix : List ℕ) (entries rest : List Entry) (found : List Found) → IsBegun most prefix entries found rest → length rest ≡ 0 → found ≡ found_of most prefix entries
begun_all most prefix entries [] found h none = begun_last most prefix entries [] found h refl
begun_all most prefix entries (e ∷ rest) found h none = absurd (omega arith)

-- or where there are as many as there may be
pub begun_full : (most : ℕ) (prefix : List ℕ) (entries rest : List Entry) (found : List Found) → IsBegun most prefix entries found rest → length found ≡ most → found ≡ found_of most prefix entries
begun_full most prefix entries rest found h full =
    begun_last most prefix entries rest found h (ap (λ (n : ℕ). found_of n prefix rest) (let goal : most - length found ≡ zero = omega arith in goal) ∙ found_full prefix rest)

-- or where the next entry doesn't begin as it is to
pub begun_other : (most : ℕ) (prefix : List ℕ) (entries rest more : List Entry) (found : List Found) (e : Entry) → IsBegun most prefix entries found rest → rest ≡ e ∷ more → (Begins e.key prefix → ⊥) → found ≡ found_of most prefix entries
begun_other most prefix entries rest more found e h is other =
    begun_last most prefix entries rest found h (ap (λ (es : List Entry). found_of (most - length found) prefix es) is
    ∙ found_other (most - length found) prefix e more (elim (cases_Bool (begins e.key prefix)) [
      | inl same ↦ absurd (other (true_begins e.key prefix same))
      | inr differs ↦ differs
    ]))

-- ---- scans

-- the key after one that begins with a prefix is at least the prefix
after_least : (key within : List ℕ) → Begins key within → IsAtLeast (key ++ 0 ∷ []) within
after_least key within begins_it =
    least_trans (key ++ 0 ∷ []) key within (least_back key (key ++ 0 ∷ []) (below_longer key 0 [])) (begins_least key within begins_it)

-- keys that are looked for from this one on are at least this one
low_here : (has : At) (within low : List ℕ) → IsAtLeast low within → IsLow has low within low
low_here has within low within_on = record { from_on = not_below_itself low; within_on = within_on; rest = λ k found. found.1 }

-- the first keys that have a value are found one after the other, up to the first that doesn't begin as it is to
run_next : (nodes : Nodes) (id most : ℕ) (from within low : List ℕ) (es : List Entry) → IsLow (at nodes id) from within low → IsRun (at nodes id) low es → AreNext (at nodes id) from within (found_of most within es)
unfolding found_at
run_next nodes id most from within low [] h run = tt
run_next nodes id zero from within low (e ∷ es) h run = tt
run_next nodes id (suc most) from within low (e ∷ es) h run =
    elim (cases_Bool (begins e.key within)) [
      | inl same ↦ (let begins_it : Begins e.key within = true_begins e.key within same in
          subst (λ (fs : List Found). AreNext (at nodes id) from within fs) (sym (found_more most within e es same)) (
            low_found (at nodes id) from within e.key e.value (low_passed nodes id from within low e.key h run.1.on run.1.empty) begins_it run.1.has,
            run_next nodes id most (e.key ++ 0 ∷ []) within (e.key ++ 0 ∷ []) es (low_here (at nodes id) within (e.key ++ 0 ∷ []) (after_least e.key within begins_it)) run.2,
          ))
      | inr other ↦ subst (λ (fs : List Found). AreNext (at nodes id) from within fs) (sym (found_other (suc most) within e es other)) tt
    ]

-- where the first of them doesn't, none is found
run_none : (nodes : Nodes) (id most : ℕ) (from within low : List ℕ) (es : List Entry) → 1 ≤ most → IsLow (at nodes id) from within low → IsSomeRun (at nodes id) low es → found_of most within es ≡ [] → IsNextEntry (at nodes id) from within None
run_none nodes id most from within low [] some h run none = absurd (omega (arith, run.0))
run_none nodes id zero from within low (e ∷ es) some h run none = absurd (omega arith)
run_none nodes id (suc most) from within low (e ∷ es) some h run none =
    elim (cases_Bool (begins e.key within)) [
      | inl same ↦ (let e : found_at e ∷ found_of most within es ≡ [] = sym (found_more most within e es same) ∙ none in absurd (cc))
      | inr other ↦ low_other (at nodes id) from within e.key (low_passed nodes id from within low e.key h run.1.1.on run.1.1.empty) (λ same. not_both (begins_true e.key within same) other)
    ]

run_scan : (nodes : Nodes) (id most : ℕ) (from within low : List ℕ) (es : List Entry) → 1 ≤ most → IsLow (at nodes id) from within low → IsSomeRun (at nodes id) low es → IsScan (at nodes id) from within (found_of most within es)
run_scan nodes id most from within low es some h run = record {
  each = run_next nodes id most from within low es h run.1;
  none = run_none nodes id most from within low es some h run;
}

-- a turn that finds entries ends the search
pub turned_run : (nodes : Nodes) (id most : ℕ) (from within low slice : List ℕ) (turn : Turn) (es : List Entry) → 1 ≤ most → slice ≡ low → turn ≡ Run es
    → IsTurn (at nodes id) slice turn → IsLow (at nodes id) from within low → IsScan (at nodes id) from within (found_of most within es)
turned_run nodes id most from within low slice turn es some slice_is is_run said low_is =
    run_scan nodes id most from within slice es some (subst (λ (k : List ℕ). IsLow (at nodes id) from within k) (sym slice_is) low_is)
    (subst (λ (t : Turn). IsTurn (at nodes id) slice t) is_run said)

-- one that is found alone
pub alone_scan : (has : At) (from within key value : List ℕ) → IsNextEntry has from within (Some (key, value)) → IsScan has from within (record { key = key; value = value } ∷ [])
alone_scan has from within key value next = record { each = (next, tt); none = λ none. absurd (cc) }

-- none is found
pub none_scan : (has : At) (from within : List ℕ) (found : List Found) → found ≡ [] → IsNextEntry has from within None → IsScan has from within found
none_scan has from within found none next = subst (λ (fs : List Found). IsScan has from within fs) (sym none) (record { each = tt; none = λ same. next })

-- ---- a scan for one

pub scan_first : (has : At) (from within : List ℕ) (found rest : List Found) (f : Found) → length found ≤ 1 → found ≡ rest ++ f ∷ [] → IsScan has from within found → IsNextEntry has from within (Some (f.key, f.value))
scan_first has from within found [] f few is scan = (subst (λ (fs : List Found). IsScan has from within fs) is scan).each.0
scan_first has from within found (g ∷ rest) f few is scan =
    let more : length found ≡ suc (length (rest ++ f ∷ [])) = ap (λ (fs : List Found). length fs) is in
    let last : length (rest ++ f ∷ []) ≡ length rest + 1 = length-append rest (f ∷ []) in
    absurd (omega arith)
