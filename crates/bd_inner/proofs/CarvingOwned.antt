-- Edges of a Goto's own.
use Rattle.std.proofs.Common.{◌≡◌, ℕ, zero, suc, ◌<◌, ◌≤◌, Bool, true, false, cond, List, [], ◌∷◌, ◌++◌, length, take, drop, refl, sym, ap, subst, ◌∙◌, Option, None, Some, inl, inr, arith, length-take, length-append}
use Rattle.std.specs.Prelude.{nat_lt, ◌&&◌}
use Rattle.std.specs.Ordering.{is_lt}
use Rattle.std.proofs.lemmas.Bool.{cond-false, cases_Bool, cases_lt, cases_order, ltb-true, lt-ltb, and_parts, and_from}
use Rattle.std.proofs.Math.Seq.{take-append_seam}
use Rattle.std.proofs.lemmas.List.{take_all, take-append-drop}
use Rattle.std.proofs.lemmas.Option.{same_Some, none-some}
use Rattle.bd_keys.specs.Keys.{key_cmp, IsKey, IsBelow, IsBelowEnd, IsAtLeast, InRange, Begins, IsPrefixRange}
use Rattle.bd_keys.proofs.Order.{first_less, first_same, not_below_itself, not_below_nil, below_from, IsKey-rest}
use Rattle.bd_limits.specs.Limits.{key_limit}
use Rattle.bd_message.specs.declared.message.Message.TheVariants.{Goto}
use Rattle.bd_message.specs.Effect.{begins, rest}
use Rattle.bd_message.proofs.Finds.{begins-is, begins-append, not_both}
use Rattle.bd_node.specs.declared.node.Edge.{Edge}
use Rattle.bd_node.specs.Nodes.{edge_names, edge_from, edge_of}
use Rattle.bd_node.specs.Shape.{end_before, EachEdge, IsChild, IsEdge}
use Rattle.bd_node.proofs.Edges.{IsRisingEdge, lt_is, lt_isnt}
use Rattle.bd_inner.specs.Carving.{is_below_end, from_key, is_own, owned, IsEnd}
use Rattle.bd_node.proofs.Touched.{touched_first, least_back}
use Rattle.bd_node.proofs.Compacting.{count_names}
use Rattle.bd_inner.proofs.CarvingParts.{below_end_is, below_end_holds, below_end, IsOutside, first_only, edge_count, edge_count-cons}

-- ---- the end of a prefix's keys

take_least : (p q : List ℕ) → IsBelow p q → IsAtLeast (take (length p) q) p
take_least [] q h = not_below_nil []
take_least (a ∷ p) [] h = absurd (not_below_nil (a ∷ p) h)
take_least (a ∷ p) (b ∷ q) h =
    elim (cases_order a b) [
      | inl e ↦
          let at_a : IsBelow (a ∷ p) (a ∷ q) = subst (λ (d : ℕ). IsBelow (a ∷ p) (d ∷ q)) (sym e) h in
          subst (λ (d : ℕ). IsAtLeast (d ∷ take (length p) q) (a ∷ p)) e
          (λ less. take_least p q (sym (first_same a p q) ∙ at_a) (sym (first_same a (take (length p) q) p) ∙ less))
      | inr o ↦ elim o [
        | inl lt ↦ least_back (a ∷ p) (b ∷ take (length p) q) (first_less a b p (take (length p) q) lt)
        | inr gt ↦ absurd (least_back (b ∷ q) (a ∷ p) (first_less b a q p gt) h)
      ]
    ]

take_below : (n : ℕ) (q : List ℕ) → n < length q → IsBelow (take n q) q
take_below n [] h = absurd (omega arith)
take_below zero (b ∷ q) h = refl
take_below (suc n) (b ∷ q) h = first_same b (take n q) q ∙ take_below n q (omega arith)

key_front : (n : ℕ) (q : List ℕ) → IsKey q → IsKey (take n q)
key_front zero q h i = omega arith
key_front (suc n) [] h i = omega arith
key_front (suc n) (b ∷ q) h zero = h 0
key_front (suc n) (b ∷ q) h (suc i) = key_front n q (IsKey-rest b q h) i

end_short : (p q : List ℕ) → IsKey p → IsKey q → IsPrefixRange p (Some q) → length q ≤ length p
end_short p q key_p key_q range =
    elim (cases_lt (length p) (length q)) [
      | inl long ↦
          let front : List ℕ = take (length p) q in
          let above : IsBelow p q = (range.inside p key_p (take_all (length p) p (omega arith))).1 in
          let one : Begins front p = range.only front (key_front (length p) q key_q) (take_least p q above, take_below (length p) q long) in
          let own : Begins q p = sym (take_all (length p) front (omega (arith, length-take (length p) q))) ∙ one in
          absurd (not_below_itself q (range.inside q key_q own).1)
      | inr short ↦ short
    ]

pub some_end : (p found items : List ℕ) (end : Option (List ℕ)) → IsKey p → IsPrefixRange p end → end ≡ Some found → items ≡ found → IsKey items → IsEnd p (Some items)
some_end p found items end bytes range is same own =
    let here : IsPrefixRange p (Some items) = subst (λ (e : Option (List ℕ)). IsPrefixRange p e) (is ∙ ap (λ (k : List ℕ). Some k) (sym same)) range in
    record {
      range = here;
      bytes = λ k e. subst IsKey (same_Some items k e) own;
      short = λ k e. subst (λ (l : List ℕ). length l ≤ length p) (same_Some items k e) (end_short p items bytes own here);
    }

pub no_end : (p : List ℕ) (end : Option (List ℕ)) → IsPrefixRange p end → end ≡ None → IsEnd p None
no_end p end range is = record {
  range = subst (λ (e : Option (List ℕ)). IsPrefixRange p e) is range;
  bytes = λ k e. absurd (none-some k e);
  short = λ k e. absurd (none-some k e);
}

-- ---- keys that begin with a prefix

pub begins_front : (p k : List ℕ) → begins k p ≡ true → Begins k p
begins_front p k h =
    subst (λ (l : List ℕ). take (length p) l ≡ p) (sym (begins-is k p h)) (take-append_seam p (rest p k))

pub front_begins : (p k : List ℕ) → Begins k p → begins k p ≡ true
front_begins p k h =
    subst (λ (l : List ℕ). begins l p ≡ true) (ap (λ (l : List ℕ). l ++ drop (length p) k) (sym h) ∙ take-append-drop (length p) k) (begins-append p (drop (length p) k))

-- what is at least a key that begins with a prefix is at least the prefix
pub least_begins : (p q k : List ℕ) → begins q p ≡ true → IsAtLeast k q → IsAtLeast k p
least_begins p q k h least below = least (below_from k p q below (touched_first (Goto p [] 0) q h))

-- ---- the test

-- the edge hasn't seen the Goto, and begins at one of its keys
pub record IsOwn (own : Edge) (end : Option (List ℕ)) (e : Edge) : Type 0 where
  pub low : e.seen < own.seen
  pub front : begins e.pivot own.pivot ≡ true
  pub below : IsBelowEnd e.pivot end

pub own_is : (own : Edge) (end : Option (List ℕ)) (e : Edge) → is_own own end e ≡ true → IsOwn own end e
own_is own end e h =
    let parts = and_parts (nat_lt e.seen own.seen) (begins e.pivot own.pivot && is_below_end e.pivot end) h in
    let keys = and_parts (begins e.pivot own.pivot) (is_below_end e.pivot end) parts.1 in
    record { low = ltb-true e.seen own.seen parts.0; front = keys.0; below = below_end_is e.pivot end keys.1 }

pub own_holds : (own : Edge) (end : Option (List ℕ)) (e : Edge) → IsOwn own end e → is_own own end e ≡ true
own_holds own end e h =
    and_from (nat_lt e.seen own.seen) (begins e.pivot own.pivot && is_below_end e.pivot end) (lt-ltb e.seen own.seen h.low)
    (and_from (begins e.pivot own.pivot) (is_below_end e.pivot end) h.front (below_end_holds e.pivot end h.below))

-- ---- one edge further

owned-other : (own : Edge) (end : Option (List ℕ)) (b : Bool) (e : Edge) (es : List Edge) → is_own own end e ≡ false → owned own end b (e ∷ es) ≡ e ∷ owned own end false es
owned-other own end b e es h =
    ap (λ (x : Bool). cond x (cond b [] (from_key own e.pivot ∷ [])) (e ∷ []) ++ owned own end x es) h

owned-next : (own : Edge) (end : Option (List ℕ)) (e : Edge) (es : List Edge) → is_own own end e ≡ true → owned own end true (e ∷ es) ≡ owned own end true es
owned-next own end e es h = ap (λ (x : Bool). cond x [] (e ∷ []) ++ owned own end x es) h

owned-first : (own : Edge) (end : Option (List ℕ)) (e : Edge) (es : List Edge) → is_own own end e ≡ true → owned own end false (e ∷ es) ≡ from_key own e.pivot ∷ owned own end true es
owned-first own end e es h = ap (λ (x : Bool). cond x (from_key own e.pivot ∷ []) (e ∷ []) ++ owned own end x es) h

-- the three cases of one edge more in front
owned_cases : (F : List Edge → Type 0) (own : Edge) (end : Option (List ℕ)) (b : Bool) (e : Edge) (es : List Edge)
    → (is_own own end e ≡ false → F (e ∷ owned own end false es))
    → (is_own own end e ≡ true → b ≡ true → F (owned own end true es))
    → (is_own own end e ≡ true → b ≡ false → F (from_key own e.pivot ∷ owned own end true es))
    → F (owned own end b (e ∷ es))
owned_cases F own end true e es other next first =
    elim (cases_Bool (is_own own end e)) [
      | inl it ↦ subst F (sym (owned-next own end e es it)) (next it refl)
      | inr not_it ↦ subst F (sym (owned-other own end true e es not_it)) (other not_it)
    ]
owned_cases F own end false e es other next first =
    elim (cases_Bool (is_own own end e)) [
      | inl it ↦ subst F (sym (owned-first own end e es it)) (first it refl)
      | inr not_it ↦ subst F (sym (owned-other own end false e es not_it)) (other not_it)
    ]

-- ---- where they begin, how many there are, which nodes they name

pub end_before-owned : (own : Edge) (end : Option (List ℕ)) (es : List Edge) → end_before (owned own end false es) ≡ end_before es
end_before-owned own end [] = refl
end_before-owned own end (e ∷ es) =
    owned_cases (λ (l : List Edge). end_before l ≡ Some e.pivot) own end false e es (λ not_it. refl) (λ it is. absurd (not_both is refl)) (λ it is. refl)

below_owned : (own : Edge) (end : Option (List ℕ)) (k : List ℕ) (b : Bool) (es : List Edge) → EachEdge IsRisingEdge es → IsBelowEnd k (end_before es) → IsBelowEnd k (end_before (owned own end b es))
below_owned own end k b [] h below = tt
below_owned own end k b (e ∷ es) h below =
    owned_cases (λ (l : List Edge). IsBelowEnd k (end_before l)) own end b e es (λ not_it. below)
    (λ it is. below_owned own end k true es h.1 (below_end k e.pivot (end_before es) below h.0)) (λ it is. below)

pub owned_few : (own : Edge) (end : Option (List ℕ)) (b : Bool) (es : List Edge) → length (owned own end b es) ≤ length es
owned_few own end b [] = omega arith
owned_few own end b (e ∷ es) =
    let more : length (owned own end true es) ≤ length es = owned_few own end true es in
    let more' : length (owned own end false es) ≤ length es = owned_few own end false es in
    owned_cases (λ (l : List Edge). length l ≤ length (e ∷ es)) own end b e es (λ not_it. omega arith) (λ it is. omega arith) (λ it is. omega arith)

pub owned_names : (c : ℕ) (own : Edge) (end : Option (List ℕ)) (b : Bool) (es : List Edge) → count_names c (edge_names own) ≡ 0 → edge_count c (owned own end b es) ≤ edge_count c es
owned_names c own end b [] none = omega arith
owned_names c own end b (e ∷ es) none =
    let more : edge_count c (owned own end true es) ≤ edge_count c es = owned_names c own end true es none in
    let more' : edge_count c (owned own end false es) ≤ edge_count c es = owned_names c own end false es none in
    owned_cases (λ (l : List Edge). edge_count c l ≤ edge_count c (e ∷ es)) own end b e es
    (λ not_it. omega (arith, edge_count-cons c e es, edge_count-cons c e (owned own end false es)))
    (λ it is. omega (arith, edge_count-cons c e es))
    (λ it is. omega (arith, none, edge_count-cons c e es, edge_count-cons c (from_key own e.pivot) (owned own end true es)))

-- ---- the shape

-- where the edge is to be replaced by the Goto's own, its keys end no later than the Goto's
abbrev pub IsInsideEnd : Edge → Option (List ℕ) → Edge → Option (List ℕ) → Type 0
IsInsideEnd own end e hi = IsOwn own end e → (k : List ℕ) → IsBelowEnd k hi → IsBelowEnd k end

inside_key : (own : Edge) (key : List ℕ) (e : Edge) (hi : Option (List ℕ)) → IsOutside own.seen key e hi → IsOwn own (Some key) e → (k : List ℕ) → IsBelowEnd k hi → IsBelow k key
inside_key own key e None out is k below = absurd (out (record { low = is.low; above = is.below; below = tt }))
inside_key own key e (Some h) out is k below =
    below_from k h key below (λ less. out (record { low = is.low; above = is.below; below = less }))

pub inside_end : (own : Edge) (end : Option (List ℕ)) (es : List Edge) → ((key : List ℕ) → end ≡ Some key → EachEdge (IsOutside own.seen key) es) → EachEdge (IsInsideEnd own end) es
inside_end own end [] h = tt
inside_end own end (e ∷ es) h = (
  (elim end as (λ (end : Option (List ℕ)). ((key : List ℕ) → end ≡ Some key → EachEdge (IsOutside own.seen key) (e ∷ es)) → IsInsideEnd own end e (end_before es)) [
    | None ↦ λ h is k below. tt
    | Some key ↦ λ h is k below. inside_key own key e (end_before es) (h key refl).0 is k below
  ] h),
  inside_end own end es (λ key is. (h key is).1),
)

run_end : (own : Edge) (end : Option (List ℕ)) (es : List Edge) (k : List ℕ) → EachEdge (IsInsideEnd own end) es → ((k : List ℕ) → IsBelowEnd k (end_before es) → IsBelowEnd k end) → IsBelowEnd k (end_before (owned own end true es)) → IsBelowEnd k end
run_end own end [] k h first = first k
run_end own end (e ∷ es) k h first =
    owned_cases (λ (l : List Edge). IsBelowEnd k (end_before l) → IsBelowEnd k end) own end true e es (λ not_it below. first k below)
    (λ it is below. run_end own end es k h.1 (h.0 (own_is own end e it)) below) (λ it is below. first k below)

goto_own : (n : ℕ) (own : Edge) (end : Option (List ℕ)) (e : Edge) (hi hi' : Option (List ℕ)) → IsPrefixRange own.pivot end → own.lift ≡ length own.pivot → length own.source ≤ key_limit → IsChild own.child own.source → own.seen ≤ n
    → IsEdge n e hi → IsOwn own end e → IsBelowEnd e.pivot hi' → ((k : List ℕ) → IsBelowEnd k hi' → IsBelowEnd k end) → IsEdge n (from_key own e.pivot) hi'
goto_own n own end e hi hi' range lift source child seen h is rising within =
    let whole : e.pivot ≡ own.pivot ++ rest own.pivot e.pivot = begins-is e.pivot own.pivot is.front in
    let long : length own.pivot ≤ length e.pivot = omega (arith, ap (λ (l : List ℕ). length l) whole, length-append own.pivot (rest own.pivot e.pivot)) in
    let front : take (length own.pivot) e.pivot ≡ own.pivot = begins_front own.pivot e.pivot is.front in
    record {
      pivot = h.pivot;
      rising = rising;
      lift = omega arith;
      common = λ k byte in_range. subst (λ (l : List ℕ). Begins k l) (sym (ap (λ (i : ℕ). take i e.pivot) lift ∙ front))
          (range.only k byte (least_begins own.pivot e.pivot k is.front in_range.0, within k in_range.1));
      source = source;
      child = child;
      seen = seen;
    }

pub each_owned : (n : ℕ) (own : Edge) (end : Option (List ℕ)) (b : Bool) (es : List Edge) → IsPrefixRange own.pivot end → own.lift ≡ length own.pivot → length own.source ≤ key_limit → IsChild own.child own.source → own.seen ≤ n
    → EachEdge (IsEdge n) es → EachEdge IsRisingEdge es → EachEdge (IsInsideEnd own end) es → EachEdge (IsEdge n) (owned own end b es)
each_owned n own end b [] range lift source child seen h rising inside = tt
each_owned n own end b (e ∷ es) range lift source child seen h rising inside =
    let more : EachEdge (IsEdge n) (owned own end true es) = each_owned n own end true es range lift source child seen h.1 rising.1 inside.1 in
    owned_cases (λ (l : List Edge). EachEdge (IsEdge n) l) own end b e es
    (λ not_it. (subst (λ (hi : Option (List ℕ)). IsEdge n e hi) (sym (end_before-owned own end es)) h.0, each_owned n own end false es range lift source child seen h.1 rising.1 inside.1))
    (λ it is. more)
    (λ it is. (
      goto_own n own end e (end_before es) (end_before (owned own end true es)) range lift source child seen h.0 (own_is own end e it) (below_owned own end e.pivot true es rising.1 rising.0)
          (λ k below. run_end own end es k inside.1 (inside.0 (own_is own end e it)) below),
      more,
    ))

-- ---- the edge of a key

-- what is found for a key, in place of an edge whose keys include it: the Goto's own in place of
-- such a one, and else the edge itself
abbrev pub Replaces : (Edge → Edge → Type 0) → Edge → Option (List ℕ) → List ℕ → Edge → Option (List ℕ) → Type 0
Replaces R own end k e hi =
    InRange e.pivot hi k → (is_own own end e ≡ true → (p : List ℕ) → R (from_key own p) e) × (is_own own end e ≡ false → R e e)

later_from : (x e : Edge) (es : List Edge) (k : List ℕ) → is_lt (key_cmp k e.pivot) ≡ false → edge_from x (e ∷ es) k ≡ edge_from e es k
later_from x e es k h = cond-false (is_lt (key_cmp k e.pivot)) x (edge_from e es k) h

owned_from : (R : Edge → Edge → Type 0) (own : Edge) (end : Option (List ℕ)) (b : Bool) (y x : Edge) (es : List Edge) (k : List ℕ) → EachEdge IsRisingEdge es → EachEdge (Replaces R own end k) es
    → (b ≡ true → y ≡ from_key own y.pivot) → (IsBelowEnd k (end_before es) → R y x) → R (edge_from y (owned own end b es) k) (edge_from x es k)
owned_from R own end b y x [] k h each was here = here tt
owned_from R own end b y x (e ∷ es) k h each was here =
    elim (cases_Bool (is_lt (key_cmp k e.pivot))) [
      | inl less ↦
          let below : IsBelow k e.pivot = lt_is (key_cmp k e.pivot) less in
          subst (λ (d : Edge). R d (edge_from x (e ∷ es) k)) (sym (first_only y (owned own end b (e ∷ es)) k (below_owned own end k b (e ∷ es) h below)))
          (subst (λ (d : Edge). R y d) (sym (first_only x (e ∷ es) k below)) (here below))
      | inr more ↦
          let from : IsAtLeast k e.pivot = λ less. lt_isnt (key_cmp k e.pivot) more less in
          subst (λ (d : Edge). R (edge_from y (owned own end b (e ∷ es)) k) d) (sym (later_from x e es k more))
          (owned_cases (λ (l : List Edge). R (edge_from y l k) (edge_from e es k)) own end b e es
          (λ not_it. subst (λ (d : Edge). R d (edge_from e es k)) (sym (later_from y e (owned own end false es) k more))
          (owned_from R own end false e e es k h.1 each.1 (λ is. absurd (not_both is refl)) (λ below. (each.0 (from, below)).1 not_it)))
          (λ it is. owned_from R own end true y e es k h.1 each.1 (λ _. was is)
          (λ below. subst (λ (d : Edge). R d e) (sym (was is)) ((each.0 (from, below)).0 it y.pivot)))
          (λ it is. subst (λ (d : Edge). R d (edge_from e es k)) (sym (later_from y (from_key own e.pivot) (owned own end true es) k more))
          (owned_from R own end true (from_key own e.pivot) e es k h.1 each.1 (λ _. refl) (λ below. (each.0 (from, below)).0 it e.pivot))))
    ]

-- the edge of a key is another that has the relation to it
abbrev pub HasRelated : (Edge → Edge → Type 0) → List Edge → List Edge → List ℕ → Type 0
HasRelated R es fs k = (e : Edge) → edge_of es k ≡ Some e → (f : Edge) × (edge_of fs k ≡ Some f) × R f e

pub owned_related : (R : Edge → Edge → Type 0) (own : Edge) (end : Option (List ℕ)) (es : List Edge) (k : List ℕ) → end_before es ≡ Some [] → EachEdge IsRisingEdge es → EachEdge (Replaces R own end k) es → HasRelated R es (owned own end false es) k
owned_related R own end [] k first h each e is = absurd (none-some e is)
owned_related R own end (x ∷ es) k first h each e is =
    let pivot : x.pivot ≡ [] = same_Some x.pivot [] first in
    let from : IsAtLeast k x.pivot = subst (λ (p : List ℕ). IsAtLeast k p) (sym pivot) (not_below_nil k) in
    let there : edge_from x es k ≡ e = same_Some (edge_from x es k) e is in
    owned_cases (λ (l : List Edge). (f : Edge) × (edge_of l k ≡ Some f) × R f e) own end false x es
    (λ not_it. (
      edge_from x (owned own end false es) k,
      refl,
      subst (λ (d : Edge). R (edge_from x (owned own end false es) k) d) there
          (owned_from R own end false x x es k h.1 each.1 (λ is. absurd (not_both is refl)) (λ below. (each.0 (from, below)).1 not_it)),
    ))
    (λ it is. absurd (not_both is refl))
    (λ it is. (
      edge_from (from_key own x.pivot) (owned own end true es) k,
      refl,
      subst (λ (d : Edge). R (edge_from (from_key own x.pivot) (owned own end true es) k) d) there
          (owned_from R own end true (from_key own x.pivot) x es k h.1 each.1 (λ _. refl) (λ below. (each.0 (from, below)).0 it x.pivot)),
    ))
