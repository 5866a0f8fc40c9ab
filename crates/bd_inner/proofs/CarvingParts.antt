-- Edges in two at a key.
use Rattle.std.proofs.Common.{◌≡◌, ℕ, ◌+◌, ◌*◌, ◌<◌, ◌≤◌, true, false, List, [], ◌∷◌, ◌++◌, length, take, refl, sym, ap, subst, ◌∙◌, Option, None, Some, inl, inr, arith, length-take}
use Rattle.std.specs.Prelude.{nat_lt, ◌&&◌}
use Rattle.std.specs.List.{flat_map}
use Rattle.std.specs.Ordering.{is_lt}
use Rattle.std.proofs.lemmas.Bool.{cond-true, cond-false, cases_Bool, ltb-true, lt-ltb, and_parts, and_from}
use Rattle.std.proofs.lemmas.Cmp.{nat_list_cmp_total as total}
use Rattle.std.proofs.lemmas.Option.{same_Some, none-some}
use Rattle.bd_keys.specs.Keys.{key_cmp, IsKey, IsBelow, IsBelowEnd, Begins}
use Rattle.bd_keys.proofs.Order.{not_below_itself}
use Rattle.bd_limits.specs.Limits.{key_limit}
use Rattle.bd_message.proofs.Finds.{not_both}
use Rattle.bd_node.specs.declared.node.Edge.{Edge}
use Rattle.bd_node.specs.Nodes.{edge_names, edge_from, edge_of}
use Rattle.bd_node.specs.Shape.{end_before, EachEdge, IsEdge}
use Rattle.bd_node.proofs.Edges.{IsRisingEdge, lt_is, less_lt}
use Rattle.bd_inner.specs.Carving.{is_below_end, has_inside, from_key, in_two, parted}
use Rattle.bd_node.proofs.Touched.{least_back}
use Rattle.bd_node.proofs.Compacting.{count_names, count_names-append}

-- ---- the tests

pub below_end_is : (k : List ℕ) (hi : Option (List ℕ)) → is_below_end k hi ≡ true → IsBelowEnd k hi
below_end_is k None h = tt
below_end_is k (Some hi) h = lt_is (key_cmp k hi) h

pub below_end_holds : (k : List ℕ) (hi : Option (List ℕ)) → IsBelowEnd k hi → is_below_end k hi ≡ true
below_end_holds k None h = refl
below_end_holds k (Some hi) h = less_lt (key_cmp k hi) h

-- what is below a key below an end is below the end
pub below_end : (k l : List ℕ) (hi : Option (List ℕ)) → IsBelow k l → IsBelowEnd l hi → IsBelowEnd k hi
below_end k l None h more = tt
below_end k l (Some hi) h more = total.trans k l hi h more

-- the edge hasn't seen so many messages, and has the key after its first one
pub record IsWithin (seen : ℕ) (key : List ℕ) (e : Edge) (hi : Option (List ℕ)) : Type 0 where
  pub low : e.seen < seen
  pub above : IsBelow e.pivot key
  pub below : IsBelowEnd key hi

pub inside_is : (seen : ℕ) (key : List ℕ) (e : Edge) (hi : Option (List ℕ)) → has_inside seen key e hi ≡ true → IsWithin seen key e hi
inside_is seen key e hi h =
    let parts = and_parts (nat_lt e.seen seen) (is_lt (key_cmp e.pivot key) && is_below_end key hi) h in
    let keys = and_parts (is_lt (key_cmp e.pivot key)) (is_below_end key hi) parts.1 in
    record { low = ltb-true e.seen seen parts.0; above = lt_is (key_cmp e.pivot key) keys.0; below = below_end_is key hi keys.1 }

pub inside_holds : (seen : ℕ) (key : List ℕ) (e : Edge) (hi : Option (List ℕ)) → IsWithin seen key e hi → has_inside seen key e hi ≡ true
inside_holds seen key e hi h =
    and_from (nat_lt e.seen seen) (is_lt (key_cmp e.pivot key) && is_below_end key hi) (lt-ltb e.seen seen h.low)
    (and_from (is_lt (key_cmp e.pivot key)) (is_below_end key hi) (less_lt (key_cmp e.pivot key) h.above) (below_end_holds key hi h.below))

-- the key isn't inside the edge, or the edge has seen the messages
abbrev pub IsOutside : ℕ → List ℕ → Edge → Option (List ℕ) → Type 0
IsOutside seen key e hi = IsWithin seen key e hi → ⊥

outside_fails : (seen : ℕ) (key : List ℕ) (e : Edge) (hi : Option (List ℕ)) → IsOutside seen key e hi → has_inside seen key e hi ≡ false
outside_fails seen key e hi out =
    elim (cases_Bool (has_inside seen key e hi)) [
      | inl within ↦ absurd (out (inside_is seen key e hi within))
      | inr other ↦ other
    ]

outside_is : (seen : ℕ) (key : List ℕ) (e : Edge) (hi : Option (List ℕ)) → has_inside seen key e hi ≡ false → IsOutside seen key e hi
outside_is seen key e hi h within = not_both (inside_holds seen key e hi within) h

-- ---- the parts

in_two-inside : (seen : ℕ) (key : List ℕ) (e : Edge) (hi : Option (List ℕ)) → has_inside seen key e hi ≡ true → in_two seen key e hi ≡ e ∷ from_key e key ∷ []
in_two-inside seen key e hi h = cond-true (has_inside seen key e hi) (e ∷ from_key e key ∷ []) (e ∷ []) h

in_two-outside : (seen : ℕ) (key : List ℕ) (e : Edge) (hi : Option (List ℕ)) → has_inside seen key e hi ≡ false → in_two seen key e hi ≡ e ∷ []
in_two-outside seen key e hi h = cond-false (has_inside seen key e hi) (e ∷ from_key e key ∷ []) (e ∷ []) h

parted-inside : (seen : ℕ) (key : List ℕ) (e : Edge) (es : List Edge) → has_inside seen key e (end_before es) ≡ true → parted seen key (e ∷ es) ≡ e ∷ from_key e key ∷ parted seen key es
parted-inside seen key e es h = ap (λ (l : List Edge). l ++ parted seen key es) (in_two-inside seen key e (end_before es) h)

parted-outside : (seen : ℕ) (key : List ℕ) (e : Edge) (es : List Edge) → has_inside seen key e (end_before es) ≡ false → parted seen key (e ∷ es) ≡ e ∷ parted seen key es
parted-outside seen key e es h = ap (λ (l : List Edge). l ++ parted seen key es) (in_two-outside seen key e (end_before es) h)

pub end_before-parted : (seen : ℕ) (key : List ℕ) (es : List Edge) → end_before (parted seen key es) ≡ end_before es
end_before-parted seen key [] = refl
end_before-parted seen key (e ∷ es) =
    elim (cases_Bool (has_inside seen key e (end_before es))) [
      | inl within ↦ ap end_before (parted-inside seen key e es within)
      | inr other ↦ ap end_before (parted-outside seen key e es other)
    ]

-- properties of each part
pub each_parted : (P Q : Edge → Option (List ℕ) → Type 0) (seen : ℕ) (key : List ℕ) → ((e : Edge) (hi : Option (List ℕ)) → IsWithin seen key e hi → P e hi → Q e (Some key) × Q (from_key e key) hi) → ((e : Edge) (hi : Option (List ℕ)) → IsOutside seen key e hi → P e hi → Q e hi)
    → (es : List Edge) → EachEdge P es → EachEdge Q (parted seen key es)
each_parted P Q seen key both one [] h = tt
each_parted P Q seen key both one (e ∷ es) h =
    let more : EachEdge Q (parted seen key es) = each_parted P Q seen key both one es h.1 in
    let same : end_before es ≡ end_before (parted seen key es) = sym (end_before-parted seen key es) in
    elim (cases_Bool (has_inside seen key e (end_before es))) [
      | inl within ↦
          let two = both e (end_before es) (inside_is seen key e (end_before es) within) h.0 in
          subst (λ (l : List Edge). EachEdge Q l) (sym (parted-inside seen key e es within))
          (two.0, (subst (λ (hi : Option (List ℕ)). Q (from_key e key) hi) same two.1, more))
      | inr other ↦
          subst (λ (l : List Edge). EachEdge Q l) (sym (parted-outside seen key e es other))
          (subst (λ (hi : Option (List ℕ)). Q e hi) same (one e (end_before es) (outside_is seen key e (end_before es) other) h.0), more)
    ]

-- no part has the key inside
pub each_outside : (P : Edge → Option (List ℕ) → Type 0) (seen : ℕ) (key : List ℕ) (es : List Edge) → EachEdge P es → EachEdge (IsOutside seen key) (parted seen key es)
each_outside P seen key es h =
    each_parted P (IsOutside seen key) seen key
    (λ e hi within own. ((λ left. not_below_itself key left.below), (λ right. not_below_itself key right.above)))
    (λ e hi out own. out) es h

-- nor another key that wasn't inside before
pub still_outside : (seen : ℕ) (other key : List ℕ) (es : List Edge) → EachEdge (IsOutside seen other) es → EachEdge (IsOutside seen other) (parted seen key es)
still_outside seen other key es h =
    each_parted (IsOutside seen other) (IsOutside seen other) seen key
    (λ e hi within out. (
      (λ left. out (record { low = left.low; above = left.above; below = below_end other key hi left.below within.below })),
      (λ right. out (record { low = right.low; above = total.trans e.pivot key other within.above right.above; below = right.below })),
    ))
    (λ e hi out own. own) es h

-- ---- the shape

-- the bytes that are left out of an edge's keys stand before each key inside, too
lifted_key : (n : ℕ) (key : List ℕ) (e : Edge) (hi : Option (List ℕ)) → IsKey key → IsBelow e.pivot key → IsBelowEnd key hi → IsEdge n e hi → take e.lift key ≡ take e.lift e.pivot
lifted_key n key e hi bytes above below h =
    let begins : Begins key (take e.lift e.pivot) = h.common key bytes (least_back e.pivot key above, below) in
    let lift : e.lift ≤ length e.pivot = h.lift in
    let long : length (take e.lift e.pivot) ≡ e.lift = omega (arith, length-take e.lift e.pivot) in
    ap (λ (i : ℕ). take i key) (sym long) ∙ begins

parted_edge : (n seen : ℕ) (key : List ℕ) (e : Edge) (hi : Option (List ℕ)) → IsKey key → length key ≤ key_limit → IsWithin seen key e hi → IsEdge n e hi → IsEdge n e (Some key) × IsEdge n (from_key e key) hi
parted_edge n seen key e hi bytes short within h =
    let same : take e.lift key ≡ take e.lift e.pivot = lifted_key n key e hi bytes within.above within.below h in
    let lift : e.lift ≤ length e.pivot = h.lift in (
      record {
        pivot = h.pivot;
        rising = within.above;
        lift = h.lift;
        common = λ k byte range. h.common k byte (range.0, below_end k key hi range.1 within.below);
        source = h.source;
        child = h.child;
        seen = h.seen;
      },
      record {
        pivot = short;
        rising = within.below;
        lift = omega (arith, length-take e.lift key, length-take e.lift e.pivot, ap (λ (l : List ℕ). length l) same);
        common = λ k byte range. subst (λ (l : List ℕ). Begins k l) (sym same) (h.common k byte ((λ less. range.0 (total.trans k e.pivot key less within.above)), range.1));
        source = h.source;
        child = h.child;
        seen = h.seen;
      },
    )

pub each_parted_edge : (n seen : ℕ) (key : List ℕ) (es : List Edge) → IsKey key → length key ≤ key_limit → EachEdge (IsEdge n) es → EachEdge (IsEdge n) (parted seen key es)
each_parted_edge n seen key es bytes short h =
    each_parted (IsEdge n) (IsEdge n) seen key (λ e hi within own. parted_edge n seen key e hi bytes short within own) (λ e hi out own. own) es h

-- ---- how many there are

-- a key below the first one is inside none
parted_none : (seen : ℕ) (key : List ℕ) (es : List Edge) → EachEdge IsRisingEdge es → IsBelowEnd key (end_before es) → parted seen key es ≡ es
parted_none seen key [] h below = refl
parted_none seen key (e ∷ es) h below =
    parted-outside seen key e es (outside_fails seen key e (end_before es) (λ within. least_back key e.pivot below within.above))
    ∙ ap (λ (l : List Edge). e ∷ l) (parted_none seen key es h.1 (below_end key e.pivot (end_before es) below h.0))

pub parted_few : (seen : ℕ) (key : List ℕ) (es : List Edge) → EachEdge IsRisingEdge es → length (parted seen key es) ≤ length es + 1
parted_few seen key [] h = omega arith
parted_few seen key (e ∷ es) h =
    elim (cases_Bool (has_inside seen key e (end_before es))) [
      | inl within ↦
          let whole : parted seen key (e ∷ es) ≡ e ∷ from_key e key ∷ parted seen key es = parted-inside seen key e es within in
          let rest : parted seen key es ≡ es = parted_none seen key es h.1 (inside_is seen key e (end_before es) within).below in
          omega (arith, ap (λ (l : List Edge). length l) whole, ap (λ (l : List Edge). length l) rest)
      | inr other ↦
          let whole : parted seen key (e ∷ es) ≡ e ∷ parted seen key es = parted-outside seen key e es other in
          let more : length (parted seen key es) ≤ length es + 1 = parted_few seen key es h.1 in
          omega (arith, ap (λ (l : List Edge). length l) whole)
    ]

-- ---- the nodes that they name

abbrev pub edge_count : ℕ → List Edge → ℕ
edge_count c es = count_names c (flat_map edge_names es)

pub edge_count-cons : (c : ℕ) (e : Edge) (es : List Edge) → edge_count c (e ∷ es) ≡ count_names c (edge_names e) + edge_count c es
edge_count-cons c e es = count_names-append c (edge_names e) (flat_map edge_names es)

pub parted_names : (c seen : ℕ) (key : List ℕ) (es : List Edge) → edge_count c (parted seen key es) ≤ 2 * edge_count c es
parted_names c seen key [] = omega arith
parted_names c seen key (e ∷ es) =
    let more : edge_count c (parted seen key es) ≤ 2 * edge_count c es = parted_names c seen key es in
    elim (cases_Bool (has_inside seen key e (end_before es))) [
      | inl within ↦
          omega (arith, ap (edge_count c) (parted-inside seen key e es within), edge_count-cons c e es, edge_count-cons c e (from_key e key ∷ parted seen key es), edge_count-cons c (from_key e key) (parted seen key es))
      | inr other ↦
          omega (arith, ap (edge_count c) (parted-outside seen key e es other), edge_count-cons c e es, edge_count-cons c e (parted seen key es))
    ]

-- ---- the edge of a key

-- the edge of a key of some edges is that of others, but for its pivot
abbrev pub HasWay : List Edge → List Edge → List ℕ → Type 0
HasWay es fs k = (e : Edge) → edge_of es k ≡ Some e → (p : List ℕ) × (edge_of fs k ≡ Some (from_key e p))

way_from : (x : Edge) (p : List ℕ) (es fs : List Edge) (k : List ℕ) → end_before fs ≡ end_before es → HasWay es fs k → (q : List ℕ) × (edge_from (from_key x p) fs k ≡ from_key (edge_from x es k) q)
way_from x p [] [] k same way = (p, refl)
way_from x p [] (f ∷ fs) k same way = absurd (none-some f.pivot (sym same))
way_from x p (e ∷ es) [] k same way = absurd (none-some e.pivot same)
way_from x p (e ∷ es) (f ∷ fs) k same way =
    let pivot : f.pivot ≡ e.pivot = same_Some f.pivot e.pivot same in
    let test : is_lt (key_cmp k f.pivot) ≡ is_lt (key_cmp k e.pivot) = ap (λ (q : List ℕ). is_lt (key_cmp k q)) pivot in
    elim (cases_Bool (is_lt (key_cmp k e.pivot))) [
      | inl less ↦ (
        p,
        cond-true (is_lt (key_cmp k f.pivot)) (from_key x p) (edge_from f fs k) (test ∙ less)
            ∙ ap (λ (d : Edge). from_key d p) (sym (cond-true (is_lt (key_cmp k e.pivot)) x (edge_from e es k) less)),
      )
      | inr more ↦
          let found = way (edge_from e es k) refl in (
            found.0,
            cond-false (is_lt (key_cmp k f.pivot)) (from_key x p) (edge_from f fs k) (test ∙ more)
                ∙ same_Some (edge_from f fs k) (from_key (edge_from e es k) found.0) found.1
                ∙ ap (λ (d : Edge). from_key d found.0) (sym (cond-false (is_lt (key_cmp k e.pivot)) x (edge_from e es k) more)),
          )
    ]

-- a key below where the others begin
pub first_only : (e : Edge) (es : List Edge) (k : List ℕ) → IsBelowEnd k (end_before es) → edge_from e es k ≡ e
first_only e [] k below = refl
first_only e (f ∷ es) k below = cond-true (is_lt (key_cmp k f.pivot)) e (edge_from f es k) (less_lt (key_cmp k f.pivot) below)

parted_from : (seen : ℕ) (key : List ℕ) (e : Edge) (es : List Edge) (k : List ℕ) → IsBelowEnd key (end_before es) → HasWay es (parted seen key es) k
    → (p : List ℕ) × (edge_from e (from_key e key ∷ parted seen key es) k ≡ from_key (edge_from e es k) p)
parted_from seen key e es k below way =
    elim (cases_Bool (is_lt (key_cmp k key))) [
      | inl less ↦ (
        e.pivot,
        cond-true (is_lt (key_cmp k key)) e (edge_from (from_key e key) (parted seen key es) k) less
            ∙ ap (λ (d : Edge). from_key d e.pivot) (sym (first_only e es k (below_end k key (end_before es) (lt_is (key_cmp k key) less) below))),
      )
      | inr more ↦
          let found = way_from e key es (parted seen key es) k (end_before-parted seen key es) way in
          (found.0, cond-false (is_lt (key_cmp k key)) e (edge_from (from_key e key) (parted seen key es) k) more ∙ found.1)
    ]

pub parted_way : (seen : ℕ) (key : List ℕ) (es : List Edge) (k : List ℕ) → HasWay es (parted seen key es) k
parted_way seen key [] k e is = absurd (none-some e is)
parted_way seen key (x ∷ es) k e is =
    let own : edge_from x es k ≡ e = same_Some (edge_from x es k) e is in
    elim (cases_Bool (has_inside seen key x (end_before es))) [
      | inl within ↦
          let found = parted_from seen key x es k (inside_is seen key x (end_before es) within).below (parted_way seen key es k) in (
            found.0,
            ap (λ (l : List Edge). edge_of l k) (parted-inside seen key x es within)
                ∙ ap (λ (d : Edge). Some d) (found.1 ∙ ap (λ (d : Edge). from_key d found.0) own),
          )
      | inr other ↦
          let found = way_from x x.pivot es (parted seen key es) k (end_before-parted seen key es) (parted_way seen key es k) in (
            found.0,
            ap (λ (l : List Edge). edge_of l k) (parted-outside seen key x es other)
                ∙ ap (λ (d : Edge). Some d) (found.1 ∙ ap (λ (d : Edge). from_key d found.0) own),
          )
    ]
