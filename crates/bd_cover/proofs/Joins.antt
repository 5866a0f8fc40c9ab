-- One edge in place of neighbours all of whose keys a message decides.
use Rattle.std.proofs.Common.{◌≡◌, ℕ, zero, suc, ◌-◌, ◌≤◌, true, List, [], ◌∷◌, ◌++◌, length, take, drop, get_or, refl, sym, ap, subst, ◌∙◌, Option, None, Some, inl, inr, arith}
use Rattle.std.specs.Prelude.{slice_get, nat_eq, MatchOption, ⊤}
use Rattle.std.specs.Option.{option_eq}
use Rattle.std.specs.Ordering.{is_lt}
use Rattle.std.proofs.lemmas.Bool.{cond-true, cond-false, cases_Bool, eqb-true, false≢true}
use Rattle.std.proofs.lemmas.List.{take_all, take-append-drop}
use Rattle.std.proofs.lemmas.Option.{same_Some}
use Rattle.bd_keys.specs.Keys.{key_cmp, IsKey, IsBelow, IsBelowEnd, IsAtLeast}
use Rattle.bd_keys.proofs.Order.{not_below_nil}
use Rattle.bd_message.specs.declared.message.Message.{Message}
use Rattle.bd_message.specs.Effect.{NodesAt}
use Rattle.bd_node.specs.declared.node.Edge.{Edge}
use Rattle.bd_node.specs.Touching.{touches}
use Rattle.bd_node.specs.Nodes.{edge_from, edge_of, edge_at, through}
use Rattle.bd_node.specs.Shape.{end_before, EachEdge}
use Rattle.bd_node.proofs.Edges.{IsRisingEdge, lt_is, lt_isnt, less_lt}
use Rattle.bd_inner.proofs.CarvingParts.{below_end}
use Rattle.bd_inner.proofs.Splitting.{first_below, edge_from-back, edge_of-front}
use Rattle.bd_cover.specs.declared.covering.Cover.TheVariants.{Elsewhere}
use Rattle.bd_cover.specs.Covering.{TouchesAll, NoneDecides, IsNewest, IsRun}

-- ---- neighbours

-- the message changes what stands at each key of an edge that hasn't seen it
abbrev pub IsUndone : ℕ → Message → Edge → Option (List ℕ) → Type 0
IsUndone at m e hi = (e.seen ≤ at) × TouchesAll m e.pivot hi

-- of each of these edges, which stand before others
abbrev pub AreUndone : ℕ → Message → List Edge → List Edge → Type 0
AreUndone at m [] ys = ⊤
AreUndone at m (e ∷ es) ys = IsUndone at m e (end_before (es ++ ys)) × AreUndone at m es ys

pub run_within : (buffer : List Message) (at : ℕ) (es : List Edge) (count : ℕ) → IsRun buffer at es count → count ≤ length es
run_within buffer at [] count run = omega (arith, run)
run_within buffer at (e ∷ es) zero run = omega arith
run_within buffer at (e ∷ es) (suc count) run = (let low : count ≤ length es = run_within buffer at es count run.1 in omega arith)

abbrev rest_of : List Edge → List Edge
rest_of es = take (length es - 1) (drop 1 es)

pub run_more : (buffer : List Message) (at : ℕ) (es : List Edge) (e : Edge) (hi : Option (List ℕ)) (found : Option ℕ) (count : ℕ) → 1 ≤ length es → e ≡ get_or es 0 e → hi ≡ end_before (drop 1 es)
    → MatchOption found (NoneDecides Elsewhere buffer e hi) (IsNewest Elsewhere buffer e hi) → option_eq nat_eq found (Some at) ≡ true → IsRun buffer at (rest_of es) count → IsRun buffer at es (suc count)
run_more buffer at [] e hi found count some first end newest same run = absurd (omega arith)
run_more buffer at (d ∷ es) e hi None count some first end newest same run = absurd (false≢true same)
run_more buffer at (d ∷ es) e hi (Some i) count some first end newest same run = (
  subst (λ (j : ℕ). IsNewest Elsewhere buffer d (end_before es) j) (eqb-true i at same)
      (subst (λ (o : Option (List ℕ)). IsNewest Elsewhere buffer d o i) end (subst (λ (x : Edge). IsNewest Elsewhere buffer x hi i) first newest)),
  subst (λ (l : List Edge). IsRun buffer at l count) (take_all (length (d ∷ es) - 1) es (omega arith)) run,
)

pub run_undone : (buffer : List Message) (at : ℕ) (m : Message) (es : List Edge) (count : ℕ) → slice_get buffer at ≡ Some m → IsRun buffer at es count → AreUndone at m (take count es) (drop count es)
run_undone buffer at m [] zero there run = tt
run_undone buffer at m [] (suc count) there run = tt
run_undone buffer at m (e ∷ es) zero there run = tt
run_undone buffer at m (e ∷ es) (suc count) there run =
    let own : run.0.message ≡ m = same_Some run.0.message m (sym run.0.there ∙ there) in
    let all : TouchesAll m e.pivot (end_before es) = subst (λ (x : Message). TouchesAll x e.pivot (end_before es)) own run.0.decides.2 in (
      (run.0.decides.0, subst (λ (l : List Edge). TouchesAll m e.pivot (end_before l)) (sym (take-append-drop count es)) all),
      run_undone buffer at m es count there run.1,
    )

-- ---- their keys

all_touched : (at : ℕ) (m : Message) (e : Edge) (rs ys : List Edge) (k : List ℕ) → AreUndone at m (e ∷ rs) ys → IsKey k → IsAtLeast k e.pivot → IsBelowEnd k (end_before ys) → touches m k ≡ true
all_touched at m e [] ys k undone key least below = undone.0.1.each k key (least, below)
all_touched at m e (d ∷ rs) ys k undone key least below =
    elim (cases_Bool (is_lt (key_cmp k d.pivot))) [
      | inl less ↦ undone.0.1.each k key (least, lt_is (key_cmp k d.pivot) less)
      | inr more ↦ all_touched at m d rs ys k undone.1 key (lt_isnt (key_cmp k d.pivot) more) below
    ]

pub all_of_run : (at : ℕ) (m : Message) (e : Edge) (rs ys : List Edge) → AreUndone at m (e ∷ rs) ys → TouchesAll m e.pivot (end_before ys)
all_of_run at m e rs ys undone = record {
  first = undone.0.1.first;
  each = λ k key range. all_touched at m e rs ys k undone key range.0 range.1;
}

pub run_rising : (e : Edge) (rs ys : List Edge) → EachEdge IsRisingEdge (e ∷ (rs ++ ys)) → IsBelowEnd e.pivot (end_before ys)
run_rising e rs [] h = tt
run_rising e rs (y ∷ ys) h = first_below e rs y ys h

-- ---- what they have

before_end : (f : Edge) (ys : List Edge) (k : List ℕ) → IsBelowEnd k (end_before ys) → edge_from f ys k ≡ f
before_end f [] k below = refl
before_end f (y ∷ ys) k below = cond-true (is_lt (key_cmp k y.pivot)) f (edge_from y ys k) (less_lt (key_cmp k y.pivot) below)

-- the edge has at a key what each edge has that hasn't seen the message, if this one changes it
abbrev pub HasAsUndone : NodesAt → List Message → ℕ → Message → Edge → List ℕ → Type 0
HasAsUndone below buffer at m f k = (d : Edge) → d.seen ≤ at → touches m k ≡ true → edge_at below f buffer k ≡ edge_at below d buffer k

run_has : (below : NodesAt) (buffer : List Message) (at : ℕ) (m : Message) (f e : Edge) (rs ys : List Edge) (k : List ℕ) → HasAsUndone below buffer at m f k → IsKey k → IsAtLeast k e.pivot → AreUndone at m (e ∷ rs) ys → EachEdge IsRisingEdge (e ∷ (rs ++ ys))
    → edge_at below (edge_from f ys k) buffer k ≡ edge_at below (edge_from e (rs ++ ys) k) buffer k
run_has below buffer at m f e [] [] k has key least undone h = has e undone.0.0 (undone.0.1.each k key (least, tt))
run_has below buffer at m f e [] (y ∷ ys) k has key least undone h =
    elim (cases_Bool (is_lt (key_cmp k y.pivot))) [
      | inl less ↦
          ap (λ (d : Edge). edge_at below d buffer k) (cond-true (is_lt (key_cmp k y.pivot)) f (edge_from y ys k) less)
          ∙ has e undone.0.0 (undone.0.1.each k key (least, lt_is (key_cmp k y.pivot) less))
          ∙ sym (ap (λ (d : Edge). edge_at below d buffer k) (cond-true (is_lt (key_cmp k y.pivot)) e (edge_from y ys k) less))
      | inr more ↦
          ap (λ (d : Edge). edge_at below d buffer k) (cond-false (is_lt (key_cmp k y.pivot)) f (edge_from y ys k) more)
          ∙ sym (ap (λ (d : Edge). edge_at below d buffer k) (cond-false (is_lt (key_cmp k y.pivot)) e (edge_from y ys k) more))
    ]
run_has below buffer at m f e (d ∷ rs) ys k has key least undone h =
    elim (cases_Bool (is_lt (key_cmp k d.pivot))) [
      | inl less ↦
          ap (λ (x : Edge). edge_at below x buffer k) (before_end f ys k (below_end k d.pivot (end_before ys) (lt_is (key_cmp k d.pivot) less) (run_rising d rs ys h.1)))
          ∙ has e undone.0.0 (undone.0.1.each k key (least, lt_is (key_cmp k d.pivot) less))
          ∙ sym (ap (λ (x : Edge). edge_at below x buffer k) (cond-true (is_lt (key_cmp k d.pivot)) e (edge_from d (rs ++ ys) k) less))
      | inr more ↦
          run_has below buffer at m f d rs ys k has key (lt_isnt (key_cmp k d.pivot) more) undone.1 h.1
          ∙ sym (ap (λ (x : Edge). edge_at below x buffer k) (cond-false (is_lt (key_cmp k d.pivot)) e (edge_from d (rs ++ ys) k) more))
    ]

some_before : (xs : List Edge) (e : Edge) (zs : List Edge) (k : List ℕ) → end_before (xs ++ e ∷ zs) ≡ Some [] → IsBelow k e.pivot → 1 ≤ length xs
some_before [] e zs k first below = absurd (not_below_nil k (subst (λ (p : List ℕ). IsBelow k p) (same_Some e.pivot [] first) below))
some_before (x ∷ xs) e zs k first below = omega arith

edge_of-least : (xs : List Edge) (e : Edge) (zs : List Edge) (k : List ℕ) → EachEdge IsRisingEdge (xs ++ e ∷ zs) → IsAtLeast k e.pivot → edge_of (xs ++ e ∷ zs) k ≡ Some (edge_from e zs k)
edge_of-least [] e zs k h least = refl
edge_of-least (x ∷ xs) e zs k h least = ap (λ (d : Edge). Some d) (edge_from-back x xs e zs k h least)

pub joined_has : (below : NodesAt) (buffer : List Message) (at : ℕ) (m : Message) (f e : Edge) (xs rs ys : List Edge) (k : List ℕ) → HasAsUndone below buffer at m f k → f.pivot ≡ e.pivot → IsKey k → AreUndone at m (e ∷ rs) ys
    → EachEdge IsRisingEdge (xs ++ e ∷ (rs ++ ys)) → EachEdge IsRisingEdge (xs ++ f ∷ ys) → EachEdge IsRisingEdge (e ∷ (rs ++ ys)) → end_before (xs ++ e ∷ (rs ++ ys)) ≡ Some []
    → through below (edge_of (xs ++ f ∷ ys) k) buffer k ≡ through below (edge_of (xs ++ e ∷ (rs ++ ys)) k) buffer k
joined_has below buffer at m f e xs rs ys k has same key undone h h' own first =
    elim (cases_Bool (is_lt (key_cmp k e.pivot))) [
      | inl less ↦
          let low : IsBelow k e.pivot = lt_is (key_cmp k e.pivot) less in
          ap (λ o. through below o buffer k) (edge_of-front xs f e ys (rs ++ ys) k (some_before xs e (rs ++ ys) k first low) same (subst (λ (p : List ℕ). IsBelow k p) (sym same) low))
      | inr more ↦
          let least : IsAtLeast k e.pivot = lt_isnt (key_cmp k e.pivot) more in
          ap (λ o. through below o buffer k) (edge_of-least xs f ys k h' (subst (λ (p : List ℕ). IsAtLeast k p) (sym same) least))
          ∙ run_has below buffer at m f e rs ys k has key least undone own
          ∙ sym (ap (λ o. through below o buffer k) (edge_of-least xs e (rs ++ ys) k h least))
    ]
