-- Nodes that answer the keys of one edge alone.
use Rattle.std.proofs.Common.{◌≡◌, ℕ, zero, suc, ◌+◌, ◌<◌, ◌≤◌, true, false, cond, not, List, [], ◌∷◌, ◌++◌, length, take, drop, refl, sym, ap, subst, ◌∙◌, ◌^◌, Option, None, Some, Result, Ok, Err, arith, inl, inr, length-drop, length-take}
use Rattle.std.specs.Prelude.{nat_lt, IfOk}
use Rattle.std.specs.List.{AllByRecursion, flat_map, sum_by}
use Rattle.std.specs.Ordering.{is_lt}
use Rattle.std.proofs.lemmas.Bool.{cases_Bool, cond-true, cond-false, ltb-false, and_from}
use Rattle.std.proofs.lemmas.List.Sums.{sum_by-cons}
use Rattle.std.proofs.lemmas.Option.{same_Some, none-some}
use Rattle.bd_keys.specs.Keys.{key_cmp, IsKey, IsBelow, IsBelowEnd, IsAtLeast, InRange, Begins}
use Rattle.bd_keys.proofs.Order.{below_from, not_below_nil}
use Rattle.bd_limits.specs.Limits.{key_limit, buffer_limit, edge_limit}
use Rattle.bd_message.specs.declared.message.Message.{Message}
use Rattle.bd_message.specs.declared.message.Message.TheVariants.{Put, Del, Patch, Cut, Goto}
use Rattle.bd_message.specs.Messages.{size}
use Rattle.bd_message.specs.Effect.{NodesAt, same_key}
use Rattle.bd_message.proofs.Finds.{not_both, same_key-true}
use Rattle.bd_node.specs.declared.node.Edge.{Edge}
use Rattle.bd_node.specs.declared.node.Entry.{Entry}
use Rattle.bd_node.specs.declared.node.Node.{Node}
use Rattle.bd_node.specs.declared.node.Node.TheVariants.{Leaf, Inner}
use Rattle.bd_node.specs.Nodes.{level_of, times, entry_at, edge_from, edge_of, through, node_at, edge_names, message_names}
use Rattle.bd_node.specs.Shape.{end_before, EachEdge, IsEdge, IsEntry, IsRising, entry_size}
use Rattle.bd_node.specs.Compaction.{IsLoose, IsLooseNode, IsSwept}
use Rattle.bd_node.proofs.Edges.{lt_is, lt_isnt, less_lt, not_less_lt}
use Rattle.bd_node.proofs.Compacting.{count_names-append}
use Rattle.bd_inner.specs.Carving.{is_below_end, from_key}
use Rattle.bd_inner.specs.Clipping.{count_before}
use Rattle.bd_inner.specs.Halves.{bare_edge}
use Rattle.bd_inner.proofs.CarvingParts.{below_end_holds, edge_count, edge_count-cons}
use Rattle.bd_inner.proofs.ClippedEdges.{IsFrom, from_facts, before_low}
use Rattle.bd_copy.specs.Narrowing.{IsSpan, is_within, within, begun, started, count_below, ended, few_or, narrowed, narrowed_node, IsNarrowed}

-- ---- edges

-- the edge from another of its keys on
key_edge : (n : ℕ) (key : List ℕ) (e : Edge) (hi : Option (List ℕ)) → IsKey key → length key ≤ key_limit → IsAtLeast key e.pivot → IsBelowEnd key hi → IsEdge n e hi → IsEdge n (from_key e key) hi
key_edge n key e hi bytes short low high h =
    let begins : Begins key (take e.lift e.pivot) = h.common key bytes (low, high) in
    let lift : e.lift ≤ length e.pivot = h.lift in
    let long : length (take e.lift e.pivot) ≡ e.lift = omega (arith, length-take e.lift e.pivot) in
    let same : take e.lift key ≡ take e.lift e.pivot = ap (λ (i : ℕ). take i key) (sym long) ∙ begins in
    record {
      pivot = short;
      rising = high;
      lift = omega (arith, length-take e.lift key, length-take e.lift e.pivot, ap (λ (l : List ℕ). length l) same);
      common = λ k byte range. subst (λ (l : List ℕ). Begins k l) (sym same) (h.common k byte ((λ less. range.0 (below_from k e.pivot key less low)), range.1));
      source = h.source;
      child = h.child;
      seen = h.seen;
    }

bare_is_edge : (n : ℕ) (pivot : List ℕ) (hi : Option (List ℕ)) → length pivot ≤ key_limit → IsBelowEnd pivot hi → IsEdge n (bare_edge pivot n) hi
bare_is_edge n pivot hi short below = record {
  pivot = short;
  rising = below;
  lift = omega arith;
  common = λ k byte range. refl;
  source = omega arith;
  child = refl;
  seen = omega arith;
}

-- an edge whose keys end sooner
end_edge : (n : ℕ) (e : Edge) (old : Option (List ℕ)) (hi : List ℕ) → IsEdge n e old → IsBelow e.pivot hi → ((k : List ℕ) → IsBelow k hi → IsBelowEnd k old) → IsEdge n e (Some hi)
end_edge n e old hi h below less = record {
  pivot = h.pivot;
  rising = below;
  lift = h.lift;
  common = λ k byte range. h.common k byte (range.0, less k range.1);
  source = h.source;
  child = h.child;
  seen = h.seen;
}

-- ---- the edges from a key on

-- the edges from the one on that has the key
record IsStart (s : List ℕ) (e : Edge) (es : List Edge) : Type 0 where
  pub first : Edge
  pub others : List Edge
  pub is : drop (count_before s (e ∷ es)) (e ∷ es) ≡ first ∷ others
  pub from : IsFrom s e es first others

start_so : (s : List ℕ) (e : Edge) (es rest : List Edge) → IsAtLeast s e.pivot → drop (count_before s (e ∷ es)) (e ∷ es) ≡ rest → IsStart s e es
start_so s e es [] low is =
    let few : count_before s (e ∷ es) < length (e ∷ es) = before_low s (e ∷ es) (omega arith) in
    absurd (omega (arith, length-drop (count_before s (e ∷ es)) (e ∷ es), ap (λ (l : List Edge). length l) is))
start_so s e es (d ∷ ds) low is = record { first = d; others = ds; is = is; from = from_facts s e es d ds low is }

-- the first edge has the empty pivot, which no key is below
low_first : (s : List ℕ) (e : Edge) (es : List Edge) → end_before (e ∷ es) ≡ Some [] → IsAtLeast s e.pivot
low_first s e es first = subst (λ (p : List ℕ). IsAtLeast s p) (sym (same_Some e.pivot [] first)) (not_below_nil s)

start_of : (s : List ℕ) (e : Edge) (es : List Edge) → end_before (e ∷ es) ≡ Some [] → IsStart s e es
start_of s e es first = start_so s e es (drop (count_before s (e ∷ es)) (e ∷ es)) (low_first s e es first) refl

started_is : (n b : ℕ) (lo : List ℕ) (e : Edge) (es : List Edge) → (h : IsStart (b ∷ lo) e es) → started n (b ∷ lo) (e ∷ es) ≡ bare_edge [] n ∷ from_key h.first (b ∷ lo) ∷ h.others
started_is n b lo e es h = ap (λ (l : List Edge). bare_edge [] n ∷ begun (b ∷ lo) l) h.is

each_started : (n : ℕ) (lo : List ℕ) (es : List Edge) → IsKey lo → length lo ≤ key_limit → EachEdge (IsEdge n) es → end_before es ≡ Some [] → EachEdge (IsEdge n) (started n lo es)
each_started n [] es key short h first = h
each_started n (b ∷ lo) [] key short h first = absurd (none-some [] first)
each_started n (b ∷ lo) (e ∷ es) key short h first =
    let at : IsStart (b ∷ lo) e es = start_of (b ∷ lo) e es first in
    let own : EachEdge (IsEdge n) (at.first ∷ at.others) = at.from.each n h in
    subst (λ (l : List Edge). EachEdge (IsEdge n) l) (sym (started_is n b lo e es at))
    (bare_is_edge n [] (Some (b ∷ lo)) (omega arith) refl, (key_edge n (b ∷ lo) at.first (end_before at.others) key short at.from.low at.from.high own.0, own.1))

first_started : (n : ℕ) (lo : List ℕ) (es : List Edge) → end_before es ≡ Some [] → end_before (started n lo es) ≡ Some []
first_started n [] es first = first
first_started n (b ∷ lo) es first = refl

-- another pivot of the edge before others changes nothing
same_from : (below : NodesAt) (x : Edge) (p : List ℕ) (es : List Edge) (buffer : List Message) (k : List ℕ) → through below (Some (edge_from (from_key x p) es k)) buffer k ≡ through below (Some (edge_from x es k)) buffer k
same_from below x p [] buffer k = refl
same_from below x p (f ∷ fs) buffer k =
    elim (cases_Bool (is_lt (key_cmp k f.pivot))) [
      | inl less ↦
          ap (λ (d : Edge). through below (Some d) buffer k) (cond-true (is_lt (key_cmp k f.pivot)) (from_key x p) (edge_from f fs k) less)
          ∙ sym (ap (λ (d : Edge). through below (Some d) buffer k) (cond-true (is_lt (key_cmp k f.pivot)) x (edge_from f fs k) less))
      | inr more ↦
          ap (λ (d : Edge). through below (Some d) buffer k) (cond-false (is_lt (key_cmp k f.pivot)) (from_key x p) (edge_from f fs k) more)
          ∙ sym (ap (λ (d : Edge). through below (Some d) buffer k) (cond-false (is_lt (key_cmp k f.pivot)) x (edge_from f fs k) more))
    ]

started_same : (below : NodesAt) (n : ℕ) (lo : List ℕ) (es : List Edge) (buffer : List Message) (k : List ℕ) → end_before es ≡ Some [] → IsAtLeast k lo → through below (edge_of (started n lo es) k) buffer k ≡ through below (edge_of es k) buffer k
started_same below n [] es buffer k first least = refl
started_same below n (b ∷ lo) [] buffer k first least = absurd (none-some [] first)
started_same below n (b ∷ lo) (e ∷ es) buffer k first least =
    let at : IsStart (b ∷ lo) e es = start_of (b ∷ lo) e es first in
    ap (λ (l : List Edge). through below (edge_of l k) buffer k) (started_is n b lo e es at)
    ∙ ap (λ (d : Edge). through below (Some d) buffer k) (cond-false (is_lt (key_cmp k (b ∷ lo))) (bare_edge [] n) (edge_from (from_key at.first (b ∷ lo)) at.others k) (not_less_lt (key_cmp k (b ∷ lo)) least))
    ∙ same_from below at.first (b ∷ lo) at.others buffer k
    ∙ sym (ap (λ (d : Edge). through below (Some d) buffer k) (at.from.at k least))

drop_names : (c n : ℕ) (es : List Edge) → edge_count c (drop n es) ≤ edge_count c es
drop_names c zero es = omega arith
drop_names c (suc n) [] = omega arith
drop_names c (suc n) (e ∷ es) = omega (arith, drop_names c n es, edge_count-cons c e es)

begun_names : (c : ℕ) (key : List ℕ) (es : List Edge) → edge_count c (begun key es) ≡ edge_count c es
begun_names c key [] = refl
begun_names c key (e ∷ es) = refl

started_names : (c n : ℕ) (lo : List ℕ) (es : List Edge) → edge_count c (started n lo es) ≤ edge_count c es
started_names c n [] es = omega arith
started_names c n (b ∷ lo) es =
    let less : edge_count c (drop (count_before (b ∷ lo) es) es) ≤ edge_count c es = drop_names c (count_before (b ∷ lo) es) es in
    omega (arith, begun_names c (b ∷ lo) (drop (count_before (b ∷ lo) es) es), edge_count-cons c (bare_edge [] n) (begun (b ∷ lo) (drop (count_before (b ∷ lo) es) es)))

-- ---- the edges below a key

ended_yes : (n : ℕ) (hi : List ℕ) (f : Edge) (fs : List Edge) → is_lt (key_cmp f.pivot hi) ≡ true → ended n (Some hi) (f ∷ fs) ≡ f ∷ ended n (Some hi) fs
ended_yes n hi f fs h =
    ap (λ (i : ℕ). take i (f ∷ fs) ++ bare_edge hi n ∷ []) (cond-true (is_lt (key_cmp f.pivot hi)) (1 + count_below hi fs) 0 h ∙ (let e : 1 + count_below hi fs ≡ suc (count_below hi fs) = omega arith in e))

ended_no : (n : ℕ) (hi : List ℕ) (f : Edge) (fs : List Edge) → is_lt (key_cmp f.pivot hi) ≡ false → ended n (Some hi) (f ∷ fs) ≡ bare_edge hi n ∷ []
ended_no n hi f fs h = ap (λ (i : ℕ). take i (f ∷ fs) ++ bare_edge hi n ∷ []) (cond-false (is_lt (key_cmp f.pivot hi)) (1 + count_below hi fs) 0 h)

-- the edge before others of which those below a key are left
next_end : (n : ℕ) (hi : List ℕ) (e : Edge) (es : List Edge) → IsBelow e.pivot hi → IsEdge n e (end_before es) → IsEdge n e (end_before (ended n (Some hi) es))
next_end n hi e [] below h = end_edge n e None hi h below (λ k less. tt)
next_end n hi e (f ∷ fs) below h =
    elim (cases_Bool (is_lt (key_cmp f.pivot hi))) [
      | inl less ↦ subst (λ (l : List Edge). IsEdge n e (end_before l)) (sym (ended_yes n hi f fs less)) h
      | inr more ↦
          subst (λ (l : List Edge). IsEdge n e (end_before l)) (sym (ended_no n hi f fs more))
          (end_edge n e (Some f.pivot) hi h below (λ k less. below_from k hi f.pivot less (lt_isnt (key_cmp f.pivot hi) more)))
    ]

each_ended : (n : ℕ) (hi : List ℕ) (es : List Edge) → length hi ≤ key_limit → EachEdge (IsEdge n) es → EachEdge (IsEdge n) (ended n (Some hi) es)
each_ended n hi [] short h = (bare_is_edge n hi None short tt, tt)
each_ended n hi (e ∷ es) short h =
    elim (cases_Bool (is_lt (key_cmp e.pivot hi))) [
      | inl less ↦
          subst (λ (l : List Edge). EachEdge (IsEdge n) l) (sym (ended_yes n hi e es less))
          (next_end n hi e es (lt_is (key_cmp e.pivot hi) less) h.0, each_ended n hi es short h.1)
      | inr more ↦
          subst (λ (l : List Edge). EachEdge (IsEdge n) l) (sym (ended_no n hi e es more))
          (bare_is_edge n hi None short tt, tt)
    ]

first_ended : (n : ℕ) (hi p : List ℕ) (es : List Edge) → end_before es ≡ Some p → IsBelow p hi → end_before (ended n (Some hi) es) ≡ Some p
first_ended n hi p [] first below = absurd (none-some p first)
first_ended n hi p (e ∷ es) first below =
    let same : e.pivot ≡ p = same_Some e.pivot p first in
    ap end_before (ended_yes n hi e es (ap (λ (q : List ℕ). is_lt (key_cmp q hi)) same ∙ less_lt (key_cmp p hi) below)) ∙ first

ended_from : (n : ℕ) (hi : List ℕ) (x : Edge) (es : List Edge) (k : List ℕ) → IsBelow k hi → edge_from x (ended n (Some hi) es) k ≡ edge_from x es k
ended_from n hi x [] k below = cond-true (is_lt (key_cmp k hi)) x (bare_edge hi n) (less_lt (key_cmp k hi) below)
ended_from n hi x (f ∷ fs) k below =
    elim (cases_Bool (is_lt (key_cmp f.pivot hi))) [
      | inl less ↦
          ap (λ (l : List Edge). edge_from x l k) (ended_yes n hi f fs less)
          ∙ ap (λ (d : Edge). cond (is_lt (key_cmp k f.pivot)) x d) (ended_from n hi f fs k below)
      | inr more ↦
          let before : IsBelow k f.pivot = below_from k hi f.pivot below (lt_isnt (key_cmp f.pivot hi) more) in
          ap (λ (l : List Edge). edge_from x l k) (ended_no n hi f fs more)
          ∙ cond-true (is_lt (key_cmp k hi)) x (bare_edge hi n) (less_lt (key_cmp k hi) below)
          ∙ sym (cond-true (is_lt (key_cmp k f.pivot)) x (edge_from f fs k) (less_lt (key_cmp k f.pivot) before))
    ]

ended_of : (n : ℕ) (hi p : List ℕ) (es : List Edge) (k : List ℕ) → end_before es ≡ Some p → IsBelow p hi → IsBelow k hi → edge_of (ended n (Some hi) es) k ≡ edge_of es k
ended_of n hi p [] k first some below = absurd (none-some p first)
ended_of n hi p (e ∷ es) k first some below =
    let same : e.pivot ≡ p = same_Some e.pivot p first in
    ap (λ (l : List Edge). edge_of l k) (ended_yes n hi e es (ap (λ (q : List ℕ). is_lt (key_cmp q hi)) same ∙ less_lt (key_cmp p hi) some))
    ∙ ap (λ (d : Edge). Some d) (ended_from n hi e es k below)

ended_names : (c n : ℕ) (hi : List ℕ) (es : List Edge) → edge_count c (ended n (Some hi) es) ≤ edge_count c es
ended_names c n hi [] = omega arith
ended_names c n hi (e ∷ es) =
    elim (cases_Bool (is_lt (key_cmp e.pivot hi))) [
      | inl less ↦
          let more : edge_count c (ended n (Some hi) es) ≤ edge_count c es = ended_names c n hi es in
          omega (arith, ap (edge_count c) (ended_yes n hi e es less), edge_count-cons c e es, edge_count-cons c e (ended n (Some hi) es))
      | inr more ↦
          let none : edge_count c (bare_edge hi n ∷ []) ≡ 0 = refl in
          omega (arith, ap (edge_count c) (ended_no n hi e es more))
    ]

-- ---- both

-- a key below an end isn't the empty one's end
nil_below : (lo hi : List ℕ) → IsBelow lo hi → IsBelow [] hi
nil_below lo [] h = absurd (not_below_nil lo h)
nil_below lo (b ∷ hi) h = refl

each_both : (n : ℕ) (lo : List ℕ) (hi : Option (List ℕ)) (es : List Edge) → IsKey lo → IsSpan lo hi → EachEdge (IsEdge n) es → end_before es ≡ Some [] → EachEdge (IsEdge n) (ended n hi (started n lo es))
each_both n lo None es key span h first = each_started n lo es key span.low h first
each_both n lo (Some hi) es key span h first = each_ended n hi (started n lo es) (span.high hi refl) (each_started n lo es key span.low h first)

first_both : (n : ℕ) (lo : List ℕ) (hi : Option (List ℕ)) (es : List Edge) → IsSpan lo hi → end_before es ≡ Some [] → end_before (ended n hi (started n lo es)) ≡ Some []
first_both n lo None es span first = first_started n lo es first
first_both n lo (Some hi) es span first = first_ended n hi [] (started n lo es) (first_started n lo es first) (nil_below lo hi span.rising)

same_both : (below : NodesAt) (n : ℕ) (lo : List ℕ) (hi : Option (List ℕ)) (es : List Edge) (buffer : List Message) (k : List ℕ) → IsSpan lo hi → end_before es ≡ Some [] → InRange lo hi k → through below (edge_of (ended n hi (started n lo es)) k) buffer k ≡ through below (edge_of es k) buffer k
same_both below n lo None es buffer k span first range = started_same below n lo es buffer k first range.0
same_both below n lo (Some hi) es buffer k span first range =
    ap (λ (o : Option Edge). through below o buffer k) (ended_of n hi [] (started n lo es) k (first_started n lo es first) (nil_below lo hi span.rising) range.1)
    ∙ started_same below n lo es buffer k first range.0

names_both : (c n : ℕ) (lo : List ℕ) (hi : Option (List ℕ)) (es : List Edge) → edge_count c (ended n hi (started n lo es)) ≤ edge_count c es
names_both c n lo None es = started_names c n lo es
names_both c n lo (Some hi) es = (let a : edge_count c (ended n (Some hi) (started n lo es)) ≤ edge_count c (started n lo es) = ended_names c n hi (started n lo es) in omega (arith, started_names c n lo es))

-- what both lists have, if the first isn't too long
few_has : (P : List Edge → Type 0) (made edges : List Edge) → P edges → (length made ≤ edge_limit → P made) → P (few_or made edges)
few_has P made edges all few =
    elim (cases_Bool (nat_lt edge_limit (length made))) [
      | inl more ↦ subst P (sym (cond-true (nat_lt edge_limit (length made)) edges made more)) all
      | inr less ↦ subst P (sym (cond-false (nat_lt edge_limit (length made)) edges made less)) (few (ltb-false edge_limit (length made) less))
    ]

-- ---- leaves

-- the key is one of the range's
in_within : (lo : List ℕ) (hi : Option (List ℕ)) (k : List ℕ) → InRange lo hi k → is_within lo hi k ≡ true
in_within lo hi k range =
    and_from (not (is_lt (key_cmp k lo))) (is_below_end k hi) (ap not (not_less_lt (key_cmp k lo) range.0)) (below_end_holds k hi range.1)

entry_within : (lo : List ℕ) (hi : Option (List ℕ)) (es : List Entry) (k : List ℕ) → InRange lo hi k → entry_at (within lo hi es) k ≡ entry_at es k
entry_within lo hi [] k range = refl
entry_within lo hi (e ∷ es) k range =
    let more : entry_at (within lo hi es) k ≡ entry_at es k = entry_within lo hi es k range in
    elim (cases_Bool (is_within lo hi e.key)) [
      | inl in_it ↦
          ap (λ (l : List Entry). entry_at l k) (cond-true (is_within lo hi e.key) (e ∷ within lo hi es) (within lo hi es) in_it)
          ∙ ap (λ (o : Option (List ℕ)). cond (same_key k e.key) (Some e.value) o) more
      | inr out ↦
          ap (λ (l : List Entry). entry_at l k) (cond-false (is_within lo hi e.key) (e ∷ within lo hi es) (within lo hi es) out)
          ∙ more
          ∙ elim (cases_Bool (same_key k e.key)) [
            | inl same ↦ absurd (not_both (subst (λ (l : List ℕ). is_within lo hi l ≡ true) (same_key-true k e.key same) (in_within lo hi k range)) out)
            | inr other ↦ sym (cond-false (same_key k e.key) (Some e.value) (entry_at es k) other)
          ]
    ]

all_within : (P : Entry → Type 0) (lo : List ℕ) (hi : Option (List ℕ)) (es : List Entry) → AllByRecursion P es → AllByRecursion P (within lo hi es)
all_within P lo hi [] h = tt
all_within P lo hi (e ∷ es) h =
    elim (cases_Bool (is_within lo hi e.key)) [
      | inl in_it ↦ subst (λ (l : List Entry). AllByRecursion P l) (sym (cond-true (is_within lo hi e.key) (e ∷ within lo hi es) (within lo hi es) in_it)) (h.0, all_within P lo hi es h.1)
      | inr out ↦ subst (λ (l : List Entry). AllByRecursion P l) (sym (cond-false (is_within lo hi e.key) (e ∷ within lo hi es) (within lo hi es) out)) (all_within P lo hi es h.1)
    ]

rising_within : (lo : List ℕ) (hi : Option (List ℕ)) (es : List Entry) → IsRising es → IsRising (within lo hi es)
rising_within lo hi [] h = tt
rising_within lo hi (e ∷ es) h =
    elim (cases_Bool (is_within lo hi e.key)) [
      | inl in_it ↦ subst IsRising (sym (cond-true (is_within lo hi e.key) (e ∷ within lo hi es) (within lo hi es) in_it)) (all_within (λ (f : Entry). IsBelow e.key f.key) lo hi es h.0, rising_within lo hi es h.1)
      | inr out ↦ subst IsRising (sym (cond-false (is_within lo hi e.key) (e ∷ within lo hi es) (within lo hi es) out)) (rising_within lo hi es h.1)
    ]

size_within : (lo : List ℕ) (hi : Option (List ℕ)) (es : List Entry) → sum_by entry_size (within lo hi es) ≤ sum_by entry_size es
size_within lo hi [] = omega arith
size_within lo hi (e ∷ es) =
    let more : sum_by entry_size (within lo hi es) ≤ sum_by entry_size es = size_within lo hi es in
    elim (cases_Bool (is_within lo hi e.key)) [
      | inl in_it ↦
          omega (arith, ap (λ (l : List Entry). sum_by entry_size l) (cond-true (is_within lo hi e.key) (e ∷ within lo hi es) (within lo hi es) in_it), sum_by-cons entry_size e es, sum_by-cons entry_size e (within lo hi es))
      | inr out ↦
          omega (arith, ap (λ (l : List Entry). sum_by entry_size l) (cond-false (is_within lo hi e.key) (e ∷ within lo hi es) (within lo hi es) out), sum_by-cons entry_size e es)
    ]

-- ---- nodes

pub narrow_loose : (lo : List ℕ) (hi : Option (List ℕ)) (n : Node) → IsKey lo → IsSpan lo hi → IsLooseNode n → IsLooseNode (narrowed_node lo hi n)
narrow_loose lo hi (Leaf entries) key span h = record {
  each = all_within IsEntry lo hi entries h.each;
  rising = rising_within lo hi entries h.rising;
  size = (let less : sum_by entry_size (within lo hi entries) ≤ sum_by entry_size entries = size_within lo hi entries in let most : sum_by entry_size entries ≤ _ = h.size in omega arith);
}
narrow_loose lo hi (Inner level edges buffer) key span h =
    let made : List Edge = ended (length buffer) hi (started (length buffer) lo edges) in
    record {
      low = h.low;
      high = h.high;
      few = few_has (λ (l : List Edge). length l ≤ edge_limit) made edges h.few (λ few. few);
      first = few_has (λ (l : List Edge). end_before l ≡ Some []) made edges h.first (λ few. first_both (length buffer) lo hi edges span h.first);
      each = few_has (λ (l : List Edge). EachEdge (IsEdge (length buffer)) l) made edges h.each (λ few. each_both (length buffer) lo hi edges key span h.each h.first);
      messages = h.messages;
      size = h.size;
    }

pub narrow_meaning : (below : NodesAt) (lo : List ℕ) (hi : Option (List ℕ)) (n : Node) (k : List ℕ) → IsSpan lo hi → IsLooseNode n → InRange lo hi k → node_at below (narrowed_node lo hi n) k ≡ node_at below n k
narrow_meaning below lo hi (Leaf entries) k span h range = entry_within lo hi entries k range
narrow_meaning below lo hi (Inner level edges buffer) k span h range =
    few_has (λ (l : List Edge). through below (edge_of l k) buffer k ≡ through below (edge_of edges k) buffer k) (ended (length buffer) hi (started (length buffer) lo edges)) edges refl
    (λ few. same_both below (length buffer) lo hi edges buffer k span h.first range)

pub narrow_level : (lo : List ℕ) (hi : Option (List ℕ)) (n : Node) → level_of (narrowed_node lo hi n) ≡ level_of n
narrow_level lo hi (Leaf entries) = refl
narrow_level lo hi (Inner level edges buffer) = refl

pub narrow_times : (lo : List ℕ) (hi : Option (List ℕ)) (n : Node) (c : ℕ) → times (narrowed_node lo hi n) c ≤ times n c
narrow_times lo hi (Leaf entries) c = omega arith
narrow_times lo hi (Inner level edges buffer) c =
    let made : List Edge = ended (length buffer) hi (started (length buffer) lo edges) in
    let less : edge_count c (few_or made edges) ≤ edge_count c edges =
    few_has (λ (l : List Edge). edge_count c l ≤ edge_count c edges) made edges (omega arith) (λ few. names_both c (length buffer) lo hi edges) in
    omega (arith, count_names-append c (flat_map edge_names (few_or made edges)) (flat_map message_names buffer), count_names-append c (flat_map edge_names edges) (flat_map message_names buffer))

-- ---- the parts

size_some : (m : Message) → 1 ≤ size m
size_some (Put key value) = omega arith
size_some (Del key) = omega arith
size_some (Patch key off bytes) = omega arith
size_some (Cut prefix from) = omega arith
size_some (Goto prefix source child) = omega arith

few_messages : (ms : List Message) → length ms ≤ sum_by size ms
few_messages [] = omega arith
few_messages (m ∷ ms) = omega (arith, size_some m, few_messages ms, sum_by-cons size m ms)

pub few_wait : (n : Node) (level : ℕ) (es : List Edge) (buffer : List Message) → n ≡ Inner level es buffer → IsLooseNode n → length buffer < 2 ^ 32
few_wait n level es buffer is h =
    let loose : IsLoose level es buffer = subst IsLooseNode is h in
    let most : sum_by size buffer ≤ buffer_limit = loose.size in
    omega (arith, few_messages buffer)

made_is : (lo : List ℕ) (hi : Option (List ℕ)) (es own made : List Edge) (buffer : List Message) (seen : ℕ) → own ≡ es → seen ≡ length buffer → made ≡ narrowed seen lo hi own → made ≡ narrowed (length buffer) lo hi es
made_is lo hi es own made buffer seen own_is seen_is is =
    is ∙ ap (λ (i : ℕ). narrowed i lo hi own) seen_is ∙ ap (λ (l : List Edge). narrowed (length buffer) lo hi l) own_is

pub parts_loose : (lo : List ℕ) (hi : Option (List ℕ)) (n : Node) (level : ℕ) (es own made : List Edge) (buffer : List Message) (seen : ℕ) → n ≡ Inner level es buffer → IsKey lo → IsSpan lo hi → IsLooseNode n → own ≡ es → seen ≡ length buffer → made ≡ narrowed seen lo hi own → IsLoose level made buffer
parts_loose lo hi n level es own made buffer seen is key span h own_is seen_is read =
    subst (λ (l : List Edge). IsLoose level l buffer) (sym (made_is lo hi es own made buffer seen own_is seen_is read))
    (narrow_loose lo hi (Inner level es buffer) key span (subst IsLooseNode is h))

pub parts_narrowed : {E : Type 0} (lo : List ℕ) (hi : Option (List ℕ)) (n : Node) (level : ℕ) (es own made : List Edge) (buffer : List Message) (seen : ℕ) (r : Result Node E) → n ≡ Inner level es buffer → own ≡ es → seen ≡ length buffer → made ≡ narrowed seen lo hi own
    → IfOk r (λ m. IsSwept level made buffer m) → IfOk r (IsNarrowed lo hi n)
parts_narrowed lo hi n level es own made buffer seen (Ok m) is own_is seen_is read h =
    subst (λ (x : Node). IsNarrowed lo hi x m) (sym is)
    (subst (λ (l : List Edge). IsSwept level l buffer m) (made_is lo hi es own made buffer seen own_is seen_is read) h)
parts_narrowed lo hi n level es own made buffer seen (Err x) is own_is seen_is read h = tt
