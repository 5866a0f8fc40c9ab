-- Edges in place of one, and a push.
use Rattle.std.proofs.Common.{◌≡◌, ℕ, ◌+◌, ◌<◌, ◌≤◌, cond, List, [], ◌∷◌, ◌++◌, length, take, drop, refl, sym, ap, subst, ◌∙◌, Option, None, Some, inl, inr, ◌⊎◌, arith, length-append, length-take, length-drop}
use Rattle.std.specs.Prelude.{slice_get, Result, Ok, Err, IfOk}
use Rattle.std.specs.List.{AllByRecursion, flat_map}
use Rattle.std.specs.Ordering.{is_lt}
use Rattle.std.proofs.lemmas.Bool.{cond-true, cases_Bool}
use Rattle.std.proofs.lemmas.Cmp.{nat_list_cmp_total as total}
use Rattle.std.proofs.lemmas.List.{take-append-drop, drop-drop}
use Rattle.std.proofs.lemmas.Option.{same_Some, none-some, slice_get_within, get_or_from_slice_get}
use Rattle.bd_keys.specs.Keys.{key_cmp, IsKey, IsBelow, IsBelowEnd, IsAtLeast, InRange}
use Rattle.bd_keys.proofs.Order.{not_below_nil}
use Rattle.bd_limits.specs.Limits.{edge_limit}
use Rattle.bd_message.specs.declared.message.Message.{Message}
use Rattle.bd_message.specs.Effect.{NodesAt, acts}
use Rattle.bd_node.specs.declared.node.Edge.{Edge}
use Rattle.bd_node.specs.declared.node.Node.{Node}
use Rattle.bd_node.specs.declared.node.Node.TheVariants.{Leaf, Inner}
use Rattle.bd_node.specs.Nodes.{message_names, edge_names, names, edge_from, edge_of, child_at, edge_at, through, node_at}
use Rattle.bd_node.specs.Shape.{end_before, EachEdge, IsEdge, IsInner, IsShape}
use Rattle.bd_node.proofs.Lookup.{each_second, each_dropped, acts-same, node_at-same}
use Rattle.bd_node.proofs.Edges.{IsRisingEdge, least_over, lt_is, lt_isnt, less_lt}
use Rattle.bd_node.proofs.Appending.{acts-append}
use Rattle.bd_node.specs.Compaction.{IsLoose, IsLooseNode, IsSwept}
use Rattle.bd_node.specs.Parts.{edges_of, buffer_of, end_at, IsEdgeAt}
use Rattle.bd_inner.specs.Exchanging.{IsKeyOf, end_within, EachEdgeTo, FitsAt}
use Rattle.bd_node.specs.Pushes.{exchanged}
use Rattle.bd_inner.specs.Batches.{IsMoved}
use Rattle.bd_node.proofs.Parts.{at_of}
use Rattle.bd_node.proofs.Compacting.{compacted_shape}
use Rattle.bd_inner.proofs.Splitting.{first_below, edge_from-back, edge_of-front, EachEdge-front, EachEdge-back, end_before-front, rising, IsParted, parted}

-- ---- the shape

end_before-to : (gs ys : List Edge) → end_before (gs ++ ys) ≡ end_within (end_before ys) gs
end_before-to [] ys = refl
end_before-to (g ∷ gs) ys = refl

each_to : (P : Edge → Option (List ℕ) → Type 0) (list ys : List Edge) → EachEdgeTo P (end_before ys) list → EachEdge P ys → EachEdge P (list ++ ys)
each_to P [] ys h more = more
each_to P (g ∷ gs) ys h more =
    (subst (λ (hi : Option (List ℕ)). P g hi) (sym (end_before-to gs ys)) h.0, each_to P gs ys h.1 more)

-- edges in place of one
each_exchanged : (P : Edge → Option (List ℕ) → Type 0) (xs : List Edge) (e g : Edge) (gs ys : List Edge) → e.pivot ≡ g.pivot → EachEdge P (xs ++ e ∷ ys) → EachEdgeTo P (end_before ys) (g ∷ gs) → EachEdge P (xs ++ g ∷ (gs ++ ys))
each_exchanged P xs e g gs ys same h to =
    let back : EachEdge P (e ∷ ys) = EachEdge-back P xs (e ∷ ys) h in
    EachEdge-front P xs e g ys (gs ++ ys) same h (each_to P (g ∷ gs) ys to back.1)

-- ---- the edge of a key

-- the key isn't above the end
edge_from-end : (g : Edge) (gs ys : List Edge) (k : List ℕ) → IsBelowEnd k (end_before ys) → edge_from g (gs ++ ys) k ≡ edge_from g gs k
edge_from-end g [] [] k below = refl
edge_from-end g [] (y ∷ ys) k below = cond-true (is_lt (key_cmp k y.pivot)) g (edge_from y ys k) (less_lt (key_cmp k y.pivot) below)
edge_from-end g (f ∷ gs) ys k below = ap (λ (d : Edge). cond (is_lt (key_cmp k f.pivot)) g d) (edge_from-end f gs ys k below)

edge_of-from : (xs : List Edge) (f : Edge) (ys : List Edge) (k : List ℕ) → EachEdge IsRisingEdge (xs ++ f ∷ ys) → IsAtLeast k f.pivot → edge_of (xs ++ f ∷ ys) k ≡ edge_of (f ∷ ys) k
edge_of-from [] f ys k h least = refl
edge_of-from (x ∷ xs) f ys k h least = ap (λ (d : Edge). Some d) (edge_from-back x xs f ys k h least)

-- a key of the edge that is left out
edge_of-inside : (xs : List Edge) (g : Edge) (gs ys : List Edge) (k : List ℕ) → EachEdge IsRisingEdge (xs ++ g ∷ (gs ++ ys)) → IsAtLeast k g.pivot → IsBelowEnd k (end_before ys) → edge_of (xs ++ g ∷ (gs ++ ys)) k ≡ edge_of (g ∷ gs) k
edge_of-inside xs g gs ys k h least below =
    edge_of-from xs g (gs ++ ys) k h least ∙ ap (λ (d : Edge). Some d) (edge_from-end g gs ys k below)

-- a key at or past the end
edge_of-past : (xs : List Edge) (g : Edge) (gs : List Edge) (y : Edge) (ys : List Edge) (k : List ℕ) → EachEdge IsRisingEdge (xs ++ g ∷ (gs ++ y ∷ ys)) → IsAtLeast k y.pivot → edge_of (xs ++ g ∷ (gs ++ y ∷ ys)) k ≡ edge_of (y ∷ ys) k
edge_of-past xs g gs y ys k h least =
    let own : EachEdge IsRisingEdge (g ∷ (gs ++ y ∷ ys)) = EachEdge-back IsRisingEdge xs (g ∷ (gs ++ y ∷ ys)) h in
    edge_of-from xs g (gs ++ y ∷ ys) k h (least_over k g.pivot y.pivot least (first_below g gs y ys own))
    ∙ ap (λ (d : Edge). Some d) (edge_from-back g gs y ys k own least)

-- without the edge
rising_without : (xs : List Edge) (e : Edge) (ys : List Edge) → EachEdge IsRisingEdge (xs ++ e ∷ ys) → EachEdge IsRisingEdge (xs ++ ys)
rising_without [] e ys h = h.1
rising_without (x ∷ []) e [] h = (tt, tt)
rising_without (x ∷ []) e (y ∷ ys) h = (total.trans x.pivot e.pivot y.pivot h.0 h.1.0, h.1.1)
rising_without (x ∷ x' ∷ xs) e ys h = (h.0, rising_without (x' ∷ xs) e ys h.1)

edge_from-without : (x : Edge) (xs : List Edge) (e : Edge) (ys : List Edge) (k : List ℕ) → EachEdge IsRisingEdge (e ∷ ys) → IsBelow k e.pivot → edge_from x (xs ++ ys) k ≡ edge_from x (xs ++ e ∷ ys) k
edge_from-without x [] e [] k h below = sym (cond-true (is_lt (key_cmp k e.pivot)) x e (less_lt (key_cmp k e.pivot) below))
edge_from-without x [] e (y ∷ ys) k h below =
    cond-true (is_lt (key_cmp k y.pivot)) x (edge_from y ys k) (less_lt (key_cmp k y.pivot) (total.trans k e.pivot y.pivot below h.0))
    ∙ sym (cond-true (is_lt (key_cmp k e.pivot)) x (edge_from e (y ∷ ys) k) (less_lt (key_cmp k e.pivot) below))
edge_from-without x (f ∷ xs) e ys k h below = ap (λ (d : Edge). cond (is_lt (key_cmp k f.pivot)) x d) (edge_from-without f xs e ys k h below)

edge_of-before : (xs : List Edge) (e : Edge) (ys : List Edge) (k : List ℕ) → 1 ≤ length xs → EachEdge IsRisingEdge (e ∷ ys) → IsBelow k e.pivot → edge_of (xs ++ ys) k ≡ edge_of (xs ++ e ∷ ys) k
edge_of-before [] e ys k some h below = absurd (omega arith)
edge_of-before (x ∷ xs) e ys k some h below = ap (λ (d : Edge). Some d) (edge_from-without x xs e ys k h below)

no_key_below : (xs : List Edge) (e : Edge) (ys : List Edge) (k : List ℕ) → end_before (xs ++ e ∷ ys) ≡ Some [] → IsBelow k e.pivot → 1 ≤ length xs
no_key_below [] e ys k first below = absurd (not_below_nil k (subst (λ (p : List ℕ). IsBelow k p) (same_Some e.pivot [] first) below))
no_key_below (x ∷ xs) e ys k first below = omega arith

-- a key that isn't one of the edge: before it or past its end
outside_cases : (k p : List ℕ) (hi : Option (List ℕ)) → ¬ InRange p hi k → IsBelow k p ⊎ ((h : List ℕ) × (hi ≡ Some h) × IsAtLeast k h)
outside_cases k p hi out =
    elim (cases_Bool (is_lt (key_cmp k p))) [
      | inl less ↦ inl (lt_is (key_cmp k p) less)
      | inr more ↦ elim hi as (λ hi. (¬ InRange p hi k) → IsBelow k p ⊎ ((h : List ℕ) × (hi ≡ Some h) × IsAtLeast k h)) [
        | None ↦ λ out. absurd (out ((λ less. lt_isnt (key_cmp k p) more less), tt))
        | Some h ↦ λ out. inr (h, refl, λ below. out ((λ less. lt_isnt (key_cmp k p) more less), below))
      ] out
    ]

-- whether a key is one of a range
pub in_range : (p : List ℕ) (hi : Option (List ℕ)) (k : List ℕ) → InRange p hi k ⊎ (¬ InRange p hi k)
in_range p hi k =
    elim (cases_Bool (is_lt (key_cmp k p))) [
      | inl less ↦ inr (λ range. range.0 (lt_is (key_cmp k p) less))
      | inr more ↦ elim hi as (λ hi. InRange p hi k ⊎ (¬ InRange p hi k)) [
        | None ↦ inl ((λ less. lt_isnt (key_cmp k p) more less), tt)
        | Some h ↦ elim (cases_Bool (is_lt (key_cmp k h))) [
          | inl less ↦ inl ((λ less. lt_isnt (key_cmp k p) more less), lt_is (key_cmp k h) less)
          | inr past ↦ inr (λ range. lt_isnt (key_cmp k h) past range.1)
        ]
      ]
    ]

edge_of-without : (xs : List Edge) (e : Edge) (ys : List Edge) (k : List ℕ) → EachEdge IsRisingEdge (xs ++ e ∷ ys) → end_before (xs ++ e ∷ ys) ≡ Some [] → ¬ InRange e.pivot (end_before ys) k → edge_of (xs ++ ys) k ≡ edge_of (xs ++ e ∷ ys) k
edge_of-without xs e ys k h first out =
    elim (outside_cases k e.pivot (end_before ys) out) [
      | inl below ↦ edge_of-before xs e ys k (no_key_below xs e ys k first below) (EachEdge-back IsRisingEdge xs (e ∷ ys) h) below
      | inr past ↦ elim ys as (λ ys. EachEdge IsRisingEdge (xs ++ e ∷ ys) → end_before ys ≡ Some past.0 → edge_of (xs ++ ys) k ≡ edge_of (xs ++ e ∷ ys) k) [
        | [] ↦ λ h is. absurd (none-some past.0 is)
        | y ∷ ys ↦ λ h is.
            let least : IsAtLeast k y.pivot = subst (λ (p : List ℕ). IsAtLeast k p) (sym (same_Some y.pivot past.0 is)) past.2 in
            edge_of-from xs y ys k (rising_without xs e (y ∷ ys) h) least ∙ sym (edge_of-past xs e [] y ys k h least)
      ] h past.1
    ]

edge_of-outside : (xs : List Edge) (e g : Edge) (gs ys : List Edge) (k : List ℕ) → e.pivot ≡ g.pivot → EachEdge IsRisingEdge (xs ++ e ∷ ys) → EachEdge IsRisingEdge (xs ++ g ∷ (gs ++ ys)) → end_before (xs ++ e ∷ ys) ≡ Some [] → ¬ InRange e.pivot (end_before ys) k
    → edge_of (xs ++ g ∷ (gs ++ ys)) k ≡ edge_of (xs ++ e ∷ ys) k
edge_of-outside xs e g gs ys k same h h' first out =
    elim (outside_cases k e.pivot (end_before ys) out) [
      | inl below ↦ sym (edge_of-front xs e g ys (gs ++ ys) k (no_key_below xs e ys k first below) same below)
      | inr past ↦ elim ys as (λ ys. EachEdge IsRisingEdge (xs ++ e ∷ ys) → EachEdge IsRisingEdge (xs ++ g ∷ (gs ++ ys)) → end_before ys ≡ Some past.0 → edge_of (xs ++ g ∷ (gs ++ ys)) k ≡ edge_of (xs ++ e ∷ ys) k) [
        | [] ↦ λ h h' is. absurd (none-some past.0 is)
        | y ∷ ys ↦ λ h h' is.
            let least : IsAtLeast k y.pivot = subst (λ (p : List ℕ). IsAtLeast k p) (sym (same_Some y.pivot past.0 is)) past.2 in
            edge_of-past xs g gs y ys k h' least ∙ sym (edge_of-past xs e [] y ys k h least)
      ] h h' past.1
    ]

-- ---- of a node

-- the edges of a node before one and after it
pub at_place : (es : List Edge) (place : ℕ) (e : Edge) → slice_get es place ≡ Some e → IsParted es place e (take place es) (drop (place + 1) es)
at_place es place e here = parted es place e (slice_get_within es place e here) (sym (get_or_from_slice_get es place e e here))

first_of_list : (list : List Edge) (p : List ℕ) → end_before list ≡ Some p → (g : Edge) × (gs : List Edge) × (list ≡ g ∷ gs) × (p ≡ g.pivot)
first_of_list [] p h = absurd (none-some p h)
first_of_list (g ∷ gs) p h = (g, gs, refl, sym (same_Some g.pivot p h))

fits_length : (es : List Edge) (place : ℕ) (g : Edge) (gs : List Edge) → place < length es → length es + length (g ∷ gs) ≤ edge_limit + 1 → length (take place es ++ g ∷ (gs ++ drop (place + 1) es)) ≤ edge_limit
fits_length es place g gs low few =
    omega (arith, length-append (take place es) (g ∷ (gs ++ drop (place + 1) es)), length-append gs (drop (place + 1) es), length-take place es, length-drop (place + 1) es)

exchanged_loose : (level : ℕ) (es : List Edge) (buffer : List Message) (place : ℕ) (e g : Edge) (gs : List Edge) → IsInner level es buffer → slice_get es place ≡ Some e → e.pivot ≡ g.pivot → length es + length (g ∷ gs) ≤ edge_limit + 1 → EachEdgeTo (IsEdge (length buffer)) (end_before (drop (place + 1) es)) (g ∷ gs)
    → IsLoose level (take place es ++ ((g ∷ gs) ++ drop (place + 1) es)) buffer
exchanged_loose level es buffer place e g gs h here same few each =
    let parts = at_place es place e here in
    let xs : List Edge = take place es in
    let ys : List Edge = drop (place + 1) es in
    record {
      low = h.low;
      high = h.high;
      few = fits_length es place g gs (slice_get_within es place e here) few;
      first = sym (end_before-front xs e g ys (gs ++ ys) same) ∙ ap end_before (sym parts.whole) ∙ h.first;
      each = each_exchanged (IsEdge (length buffer)) xs e g gs ys same (subst (λ (l : List Edge). EachEdge (IsEdge (length buffer)) l) parts.whole h.each) each;
      messages = h.messages;
      size = h.size;
    }

pub exchanged_shape : (n : Node) (place : ℕ) (e : Edge) (list : List Edge) → IsShape n → FitsAt n place e list → IsLooseNode (exchanged n place list)
exchanged_shape (Leaf entries) place e list h fits = absurd (none-some e fits.here)
exchanged_shape (Inner level es buffer) place e list h fits =
    let parts = first_of_list list e.pivot fits.first in
    subst (λ (l : List Edge). IsLooseNode (exchanged (Inner level es buffer) place l)) (sym parts.2)
    (exchanged_loose level es buffer place e parts.0 parts.1 h fits.here parts.3 (subst (λ (l : List Edge). length es + length l ≤ edge_limit + 1) parts.2 fits.few)
    (subst (λ (l : List Edge). EachEdgeTo (IsEdge (length buffer)) (end_before (drop (place + 1) es)) l) parts.2 fits.each))

-- ---- what it has

own_edge : (xs : List Edge) (e : Edge) (ys : List Edge) (k : List ℕ) → EachEdge IsRisingEdge (xs ++ e ∷ ys) → InRange e.pivot (end_before ys) k → edge_of (xs ++ e ∷ ys) k ≡ Some e
own_edge xs e ys k h range = edge_of-inside xs e [] ys k h range.0 range.1

pub meaning_before : (below : NodesAt) (n : Node) (place : ℕ) (e : Edge) → IsShape n → IsEdgeAt n place e → (k : List ℕ) → IsKeyOf n place e k → node_at below n k ≡ edge_at below e (buffer_of n) k
meaning_before below (Leaf entries) place e h here k range = absurd (none-some e here)
meaning_before below (Inner level es buffer) place e h here k range =
    let parts = at_place es place e here in
    ap (λ o. through below o buffer k)
    (ap (λ (l : List Edge). edge_of l k) parts.whole
    ∙ own_edge (take place es) e (drop (place + 1) es) k (subst (λ (l : List Edge). EachEdge IsRisingEdge l) parts.whole (rising (length buffer) es h.each)) range)

rising_exchanged : (level : ℕ) (es : List Edge) (buffer : List Message) (place : ℕ) (e g : Edge) (gs : List Edge) → IsInner level es buffer → slice_get es place ≡ Some e → e.pivot ≡ g.pivot → EachEdgeTo (IsEdge (length buffer)) (end_before (drop (place + 1) es)) (g ∷ gs)
    → EachEdge IsRisingEdge (take place es ++ g ∷ (gs ++ drop (place + 1) es))
rising_exchanged level es buffer place e g gs h here same each =
    rising (length buffer) (take place es ++ g ∷ (gs ++ drop (place + 1) es))
    (each_exchanged (IsEdge (length buffer)) (take place es) e g gs (drop (place + 1) es) same (subst (λ (l : List Edge). EachEdge (IsEdge (length buffer)) l) (at_place es place e here).whole h.each) each)

pub meaning_inside : (below : NodesAt) (n : Node) (place : ℕ) (e : Edge) (list : List Edge) → IsShape n → FitsAt n place e list → (k : List ℕ) → IsKeyOf n place e k → node_at below (exchanged n place list) k ≡ through below (edge_of list k) (buffer_of n) k
meaning_inside below (Leaf entries) place e list h fits k range = absurd (none-some e fits.here)
meaning_inside below (Inner level es buffer) place e list h fits k range =
    let parts = first_of_list list e.pivot fits.first in
    let each : EachEdgeTo (IsEdge (length buffer)) (end_before (drop (place + 1) es)) (parts.0 ∷ parts.1) = subst (λ (l : List Edge). EachEdgeTo (IsEdge (length buffer)) (end_before (drop (place + 1) es)) l) parts.2 fits.each in
    subst (λ (l : List Edge). through below (edge_of (take place es ++ (l ++ drop (place + 1) es)) k) buffer k ≡ through below (edge_of l k) buffer k) (sym parts.2)
    (ap (λ o. through below o buffer k)
    (edge_of-inside (take place es) parts.0 parts.1 (drop (place + 1) es) k (rising_exchanged level es buffer place e parts.0 parts.1 h fits.here parts.3 each)
    (subst (λ (p : List ℕ). IsAtLeast k p) parts.3 range.0) range.1))

pub meaning_outside : (below : NodesAt) (n : Node) (place : ℕ) (e : Edge) (list : List Edge) → IsShape n → FitsAt n place e list → (k : List ℕ) → ¬ IsKeyOf n place e k → node_at below (exchanged n place list) k ≡ node_at below n k
meaning_outside below (Leaf entries) place e list h fits k out = absurd (none-some e fits.here)
meaning_outside below (Inner level es buffer) place e list h fits k out =
    let parts = first_of_list list e.pivot fits.first in
    let whole : es ≡ take place es ++ e ∷ drop (place + 1) es = (at_place es place e fits.here).whole in
    let each : EachEdgeTo (IsEdge (length buffer)) (end_before (drop (place + 1) es)) (parts.0 ∷ parts.1) = subst (λ (l : List Edge). EachEdgeTo (IsEdge (length buffer)) (end_before (drop (place + 1) es)) l) parts.2 fits.each in
    ap (λ (l : List Edge). through below (edge_of (take place es ++ (l ++ drop (place + 1) es)) k) buffer k) parts.2
    ∙ ap (λ o. through below o buffer k)
    (edge_of-outside (take place es) e parts.0 parts.1 (drop (place + 1) es) k parts.3 (subst (λ (l : List Edge). EachEdge IsRisingEdge l) whole (rising (length buffer) es h.each))
    (rising_exchanged level es buffer place e parts.0 parts.1 h fits.here parts.3 each) (ap end_before (sym whole) ∙ h.first) out
    ∙ ap (λ (l : List Edge). edge_of l k) (sym whole))

pub meaning_without : (below : NodesAt) (n : Node) (place : ℕ) (e : Edge) → IsShape n → IsEdgeAt n place e → (k : List ℕ) → ¬ IsKeyOf n place e k → node_at below (exchanged n place []) k ≡ node_at below n k
meaning_without below (Leaf entries) place e h here k out = absurd (none-some e here)
meaning_without below (Inner level es buffer) place e h here k out =
    let whole : es ≡ take place es ++ e ∷ drop (place + 1) es = (at_place es place e here).whole in
    ap (λ o. through below o buffer k)
    (edge_of-without (take place es) e (drop (place + 1) es) k (subst (λ (l : List Edge). EachEdge IsRisingEdge l) whole (rising (length buffer) es h.each)) (ap end_before (sym whole) ∙ h.first) out
    ∙ ap (λ (l : List Edge). edge_of l k) (sym whole))

-- ---- a push

-- at a key of the edge
pub pushed_inside : (below has : NodesAt) (e f : Edge) (hi : Option (List ℕ)) (buffer moved : List Message) (count : ℕ) (k : List ℕ) → f.seen ≡ e.seen + count → IsMoved f hi (take count (drop e.seen buffer)) moved → IsKey k → InRange f.pivot hi k
    → child_at has f.child (f.source ++ drop f.lift k) ≡ acts has moved (drop f.lift k) (child_at below e.child (e.source ++ drop e.lift k))
    → AllByRecursion (λ c. (l : List ℕ) → has c l ≡ below c l) (flat_map message_names buffer)
    → edge_at has f buffer k ≡ edge_at below e buffer k
pushed_inside below has e f hi buffer moved count k seen h key range child others =
    let old : Option (List ℕ) = child_at below e.child (e.source ++ drop e.lift k) in
    let list : List Message = drop e.seen buffer in
    ap (λ (n : ℕ). acts has (drop n buffer) k (child_at has f.child (f.source ++ drop f.lift k))) seen
    ∙ ap (λ (v : Option (List ℕ)). acts has (drop (e.seen + count) buffer) k v) (child ∙ h.effect has k key range old)
    ∙ ap (λ (l : List Message). acts has l k (acts has (take count list) k old)) (sym (drop-drop count e.seen buffer))
    ∙ sym (acts-append has (take count list) (drop count list) k old)
    ∙ ap (λ (l : List Message). acts has l k old) (take-append-drop count list)
    ∙ acts-same has below list k old (each_dropped (λ c. (l : List ℕ) → has c l ≡ below c l) e.seen buffer others)

pub pushed : (below has : NodesAt) (n : Node) (place : ℕ) (e f : Edge) (count : ℕ) (moved : List Message) → IsShape n → FitsAt n place e (f ∷ []) → f.seen ≡ e.seen + count → IsMoved f (end_at n place) (take count (drop e.seen (buffer_of n))) moved
    → ((k : List ℕ) → IsKey k → IsKeyOf n place e k → child_at has f.child (f.source ++ drop f.lift k) ≡ acts has moved (drop f.lift k) (child_at below e.child (e.source ++ drop e.lift k)))
    → AllByRecursion (λ c. (l : List ℕ) → has c l ≡ below c l) (names (exchanged n place []))
    → (k : List ℕ) → IsKey k → node_at has (exchanged n place (f ∷ [])) k ≡ node_at below n k
pushed below has (Leaf entries) place e f count moved h fits seen m child others k key = absurd (none-some e fits.here)
pushed below has (Inner level es buffer) place e f count moved h fits seen m child others k key =
    let n : Node = Inner level es buffer in
    let same : f.pivot ≡ e.pivot = same_Some f.pivot e.pivot fits.first in
    elim (in_range e.pivot (end_before (drop (place + 1) es)) k) [
      | inl range ↦
          meaning_inside has n place e (f ∷ []) h fits k range
          ∙ pushed_inside below has e f (end_before (drop (place + 1) es)) buffer moved count k seen m key (subst (λ (p : List ℕ). InRange p (end_before (drop (place + 1) es)) k) (sym same) range) (child k key range)
          (each_second (λ c. (l : List ℕ) → has c l ≡ below c l) (flat_map edge_names (take place es ++ drop (place + 1) es)) (flat_map message_names buffer) others)
          ∙ sym (meaning_before below n place e h fits.here k range)
      | inr out ↦
          meaning_outside has n place e (f ∷ []) h fits k out
          ∙ sym (meaning_without has n place e h fits.here k out)
          ∙ node_at-same has below (exchanged n place []) k others
          ∙ meaning_without below n place e h fits.here k out
    ]

-- ---- of a node's parts

pub parts_loose : (n : Node) (level : ℕ) (es own : List Edge) (buffer messages : List Message) (place : ℕ) (list made : List Edge) → n ≡ Inner level es buffer → IsShape n → place < length (edges_of n) → ((e : Edge) → IsEdgeAt n place e → FitsAt n place e list)
    → own ≡ es → messages ≡ buffer → made ≡ take place own ++ (list ++ drop (place + 1) own) → IsLoose level made messages
parts_loose n level es own buffer messages place list made is h low fits own_is messages_is made_is =
    let inner : Node = Inner level es buffer in
    let shape : IsShape inner = subst (λ (m : Node). IsShape m) is h in
    let low_es : place < length es = subst (λ (m : Node). place < length (edges_of m)) is low in
    let found : (e : Edge) × (slice_get es place ≡ Some e) = at_of es place low_es in
    let there : FitsAt inner place found.0 list = subst (λ (m : Node). FitsAt m place found.0 list) is (fits found.0 (subst (λ (m : Node). IsEdgeAt m place found.0) (sym is) found.1)) in
    subst (λ (l : List Message). IsLoose level made l) (sym messages_is)
    (subst (λ (l : List Edge). IsLoose level l buffer) (sym (made_is ∙ ap (λ (l : List Edge). take place l ++ (list ++ drop (place + 1) l)) own_is))
    (exchanged_shape inner place found.0 list shape there))

pub swept_shape : {E : Type 0} (level : ℕ) (es : List Edge) (buffer : List Message) (r : Result Node E) → IsLoose level es buffer → IfOk r (λ m. IsSwept level es buffer m) → IfOk r IsShape
swept_shape level es buffer (Ok m) h s = compacted_shape (Inner level es buffer) m h s
swept_shape level es buffer (Err e) h s = tt
