-- A child that is split below its parent.
use Rattle.std.proofs.Common.{◌≡◌, ℕ, ◌+◌, ◌-◌, ◌^◌, ◌<◌, ◌≤◌, List, [], ◌∷◌, ◌++◌, length, take, drop, refl, sym, ap, subst, ◌∙◌, Option, None, Some, arith, inl, inr, ◌⊎◌, length-append, length-take}
use Rattle.std.specs.Prelude.{slice_get}
use Rattle.std.specs.List.{AllByRecursion, flat_map}
use Rattle.std.specs.Ordering.{is_lt}
use Rattle.std.specs.Option.{option_to_list}
use Rattle.std.proofs.lemmas.Bool.{cases_eq, cases_Bool, cond-true, cond-false}
use Rattle.std.proofs.lemmas.Option.{same_Some}
use Rattle.std.proofs.lemmas.List.{take-append-drop}
use Rattle.std.proofs.lemmas.Cmp.{nat_list_cmp_total as total}
use Rattle.std.proofs.Math.Seq.{take-append_seam}
use Rattle.bd_limits.specs.Limits.{key_limit}
use Rattle.bd_keys.specs.Keys.{key_cmp, IsKey, IsBelow, IsBelowEnd, IsAtLeast, InRange, IsCommon}
use Rattle.bd_keys.proofs.Order.{none_between, IsKey-drop, key_cmp-front}
use Rattle.bd_message.specs.Effect.{NodesAt, acts}
use Rattle.bd_node.specs.declared.node.Edge.{Edge}
use Rattle.bd_node.specs.declared.node.Node.{Node}
use Rattle.bd_node.specs.declared.node.Node.TheVariants.{Leaf, Inner}
use Rattle.bd_node.specs.Nodes.{level_of, buffer_size, message_names, edge_names, names, times, edge_of, child_at, edge_at, through, node_at}
use Rattle.bd_node.specs.Meaning.{Nodes, at}
use Rattle.bd_node.specs.Shape.{end_before, IsEdge, IsShape}
use Rattle.bd_node.specs.Tables.{Table, IsKept, IsTable, IsLower, IsNodeOf, IsSound, one_if}
use Rattle.bd_node.specs.Private.{IsPrivate}
use Rattle.bd_node.proofs.Lookup.{Agree, each_second, each_named, each_dropped, named_has, acts-same, node_at-same, node_has-key, count-cons_other}
use Rattle.bd_node.proofs.Meanings.{at-meets}
use Rattle.bd_node.proofs.Sound.{sound-levelled, counted}
use Rattle.bd_node.proofs.Edges.{lt_is, lt_isnt, least_over}
use Rattle.bd_node.specs.Compaction.{IsCompacted}
use Rattle.bd_inner.proofs.Fitting.{own_shape, seen_fits}
use Rattle.bd_node.specs.Parts.{edges_of, buffer_of, end_at, IsEdgeAt}
use Rattle.bd_inner.specs.declared.halves.Halves.{Halves}
use Rattle.bd_inner.specs.Halves.{IsHalf, AreHalves}
use Rattle.bd_inner.specs.Batches.{lifted}
use Rattle.bd_inner.specs.Exchanging.{IsKeyOf, FitsAt}
use Rattle.bd_node.specs.Pushes.{exchanged}
use Rattle.bd_node.proofs.Compacting.{count_names, count_names-append, compacted_shape, compacted_level, compacted_meaning, compacted_times}
use Rattle.bd_inner.proofs.Exchanged.{in_range, exchanged_shape, meaning_inside, meaning_outside, meaning_without}
use Rattle.bd_node.proofs.Parts.{some_edge, inner_of}
use Rattle.bd_path.proofs.EdgesAt.{as_edge, child_named, some_next}
use Rattle.bd_inner.proofs.Named.{times_exchanged, exchanged_same, count_own, level_exchanged, compacted_named, exchanged_named, compacted_small}
use Rattle.bd_flush.specs.declared.children.Parts.{Parts}
use Rattle.bd_flush.specs.declared.children.Side.TheVariants.{Lower, Both, Upper}
use Rattle.bd_path.specs.Fetching.{IsEdgeTo, IsWayTo}
use Rattle.bd_flush.specs.Children.{parting, upper_edge, IsInside, IsSplitInto, IsSide, IsOver, AreParts, IsLongPivot}
use Rattle.bd_flush.specs.declared.children.Halving.TheVariants.{Short, Long}
use Rattle.bd_flush.specs.Children.IsSplitInto.{parted, lower, upper}
use Rattle.bd_path.proofs.ChildSteps.{has_below, has_child, has_old, has_new, IsMadeBelow, IsChildChange, IsChildChangeOf}

-- ---- a node's edge at a place

-- ---- how often a node with other edges in place of one names another

edge_apart : (n : Node) (place child : ℕ) (e : Edge) (c : ℕ) → IsShape n → IsEdgeTo n place child e → times n c ≡ times (exchanged n place []) c + count_names c (child ∷ [])
edge_apart n place child e c h way =
    ap (λ (m : Node). times m c) (sym (exchanged_same n place e way.here))
    ∙ times_exchanged n place (e ∷ []) c (inner_of n place e h way.here)
    ∙ ap (λ (o : Option ℕ). times (exchanged n place []) c + count_names c (option_to_list o ++ [])) way.child_is

pub times_apart : (n : Node) (place child : ℕ) (e : Edge) (c : ℕ) → IsShape n → IsWayTo n place child e → times n c ≡ times (exchanged n place []) c + count_names c (child ∷ [])
times_apart n place child e c h way = edge_apart n place child e c h (as_edge n place child e way)

-- ---- what the node has, if what else it names has what it had

-- edges in place of one that stands in place of the node's own
pub edges_keep : (below has : NodesAt) (n : Node) (place : ℕ) (e f : Edge) (list : List Edge) → IsShape n → FitsAt n place e (f ∷ []) → FitsAt n place e list
    → ((k : List ℕ) → IsKey k → IsKeyOf n place e k → through has (edge_of list k) (buffer_of n) k ≡ edge_at below f (buffer_of n) k)
    → AllByRecursion (Agree has below) (names (exchanged n place [])) → (k : List ℕ) → IsKey k → node_at has (exchanged n place list) k ≡ node_at below (exchanged n place (f ∷ [])) k
edges_keep below has n place e f list h one fits inside others k key =
    elim (in_range e.pivot (end_at n place) k) [
      | inl range ↦
          meaning_inside has n place e list h fits k range
          ∙ inside k key range
          ∙ sym (meaning_inside below n place e (f ∷ []) h one k range)
      | inr out ↦
          meaning_outside has n place e list h fits k out
          ∙ sym (meaning_without has n place e h fits.here k out)
          ∙ node_at-same has below (exchanged n place []) k others
          ∙ meaning_without below n place e h fits.here k out
          ∙ sym (meaning_outside below n place e (f ∷ []) h one k out)
    ]

pub gotos_agree : (below has : NodesAt) (n : Node) (place : ℕ) → AllByRecursion (Agree has below) (names (exchanged n place [])) → AllByRecursion (Agree has below) (flat_map message_names (buffer_of n))
gotos_agree below has (Leaf entries) place h = tt
gotos_agree below has (Inner level es buffer) place h = each_second (Agree has below) (flat_map edge_names (take place es ++ drop (place + 1) es)) (flat_map message_names buffer) h

-- an edge that has seen as much, whose child has what the old one's has
pub edge_same : (below has : NodesAt) (n : Node) (place : ℕ) (e f : Edge) (k : List ℕ) → AllByRecursion (Agree has below) (names (exchanged n place [])) → f.seen ≡ e.seen
    → child_at has f.child (f.source ++ drop f.lift k) ≡ child_at below e.child (e.source ++ drop e.lift k) → edge_at has f (buffer_of n) k ≡ edge_at below e (buffer_of n) k
edge_same below has n place e f k others seen child =
    let old : Option (List ℕ) = child_at below e.child (e.source ++ drop e.lift k) in
    ap (λ (i : ℕ). acts has (drop i (buffer_of n)) k (child_at has f.child (f.source ++ drop f.lift k))) seen
    ∙ ap (λ (v : Option (List ℕ)). acts has (drop e.seen (buffer_of n)) k v) child
    ∙ acts-same has below (drop e.seen (buffer_of n)) k old (each_dropped (Agree has below) e.seen (buffer_of n) (gotos_agree below has n place others))

-- ---- a key of the edge, and what the child is asked for it

pub lifted_length : (e : Edge) → e.lift ≤ length e.pivot → length (lifted e) ≡ e.lift
lifted_length e low = omega (arith, length-take e.lift e.pivot)

pub key_parts : (n : ℕ) (e : Edge) (hi : Option (List ℕ)) (k : List ℕ) → IsEdge n e hi → IsKey k → InRange e.pivot hi k → k ≡ lifted e ++ drop e.lift k
key_parts n e hi k h key range =
    let common : take (length (lifted e)) k ≡ lifted e = h.common k key range in
    sym (ap (λ (l : List ℕ). l ++ drop e.lift k) (sym common ∙ ap (λ (i : ℕ). take i k) (lifted_length e h.lift)) ∙ take-append-drop e.lift k)

-- the parts compare as the keys do
pub parts_cmp : (n : ℕ) (e : Edge) (hi : Option (List ℕ)) (k pivot : List ℕ) → IsEdge n e hi → IsKey k → InRange e.pivot hi k → key_cmp k (parting e pivot) ≡ key_cmp (drop e.lift k) pivot
parts_cmp n e hi k pivot h key range =
    ap (λ (l : List ℕ). key_cmp l (parting e pivot)) (key_parts n e hi k h key range) ∙ key_cmp-front (lifted e) (drop e.lift k) pivot

-- ---- the situation

-- the edge, where it has seen so many messages
abbrev pub as_seen : Edge → ℕ → Edge
as_seen e seen = record e { seen = seen }

-- a node, and a child of it to split, whose edge has seen so many messages then, as far as the table
-- tells; what is split may be more than the child was
pub record IsSplittable (t : Table) (p : ℕ) (n : Node) (place c : ℕ) (e : Edge) (seen : ℕ) (m : Node) : Type 0 where
  pub table : IsTable t
  pub kept : IsKept t p
  pub own : IsNodeOf t (t.level p) n
  pub few : length (edges_of n) ≤ 14
  pub way : IsWayTo n place c e
  pub low : seen ≤ length (buffer_of n)
  pub child_level : level_of m ≡ t.level c
  pub child_names : AllByRecursion (IsLower t (t.level c)) (names m)
  pub next : t.next < 2 ^ 64

-- and of known nodes, where `below` tells what the named ones have: the child what is split has, and
-- the others what they had
pub record IsSplittableOf (nodes : Nodes) (t : Table) (p : ℕ) (n : Node) (place c : ℕ) (e : Edge) (seen : ℕ) (m : Node) (below : NodesAt) : Type 0 where
  pub of : IsSplittable t p n place c e seen m
  pub sound : IsSound nodes t
  pub there : nodes p ≡ Some n
  pub private : IsPrivate nodes t p
  pub once : t.count c ≡ 1
  pub child_has : (x : List ℕ) → IsKey x → below c x ≡ node_at (at nodes) m x
  pub others_have : (x : ℕ) → (x ≡ c → ⊥) → x < t.next → (k : List ℕ) → below x k ≡ at nodes x k

-- where nothing has changed yet
pub at_child : (nodes : Nodes) (t : Table) (c : ℕ) (m : Node) → IsSound nodes t → nodes c ≡ Some m → (x : List ℕ) → IsKey x → at nodes c x ≡ node_at (at nodes) m x
at_child nodes t c m sound there x key = (at-meets nodes (sound-levelled nodes t sound)).each c m there x ∙ node_has-key (at nodes) m x key

pub one_fits : (t : Table) (p : ℕ) (n : Node) (place c : ℕ) (e : Edge) (seen : ℕ) (m : Node) → IsSplittable t p n place c e seen m → FitsAt n place e (as_seen e seen ∷ [])
one_fits t p n place c e seen m s = seen_fits n place e seen s.own.shape s.way.here s.low

pub edge_shape : (t : Table) (p : ℕ) (n : Node) (place c : ℕ) (e : Edge) (seen : ℕ) (m : Node) → IsSplittable t p n place c e seen m → IsEdge (length (buffer_of n)) (as_seen e seen) (end_at n place)
edge_shape t p n place c e seen m s = (one_fits t p n place c e seen m s).each.0

pub lower_child : (t : Table) (p : ℕ) (n : Node) (place c : ℕ) (e : Edge) (seen : ℕ) (m : Node) → IsSplittable t p n place c e seen m → IsLower t (t.level p) c
lower_child t p n place c e seen m s = named_has (IsLower t (t.level p)) c (names n) s.own.lower (child_named n place c e s.own.shape s.way)

-- ---- the two edges

pub below_end : (k p : List ℕ) (hi : Option (List ℕ)) → IsBelow k p → IsBelowEnd p hi → IsBelowEnd k hi
below_end k p None below end = tt
below_end k p (Some hi) below end = total.trans k p hi below end

pub lower_edge_shape : (n : ℕ) (e : Edge) (hi : Option (List ℕ)) (p : List ℕ) → IsEdge n e hi → IsBelow e.pivot p → IsBelowEnd p hi → IsEdge n e (Some p)
lower_edge_shape n e hi p h above below = record {
  pivot = h.pivot;
  rising = above;
  lift = h.lift;
  common = λ k key range. h.common k key (range.0, below_end k p hi range.1 below);
  source = h.source;
  child = h.child;
  seen = h.seen;
}

pub upper_edge_shape : (n : ℕ) (e : Edge) (hi : Option (List ℕ)) (pivot : List ℕ) (child : ℕ) → IsEdge n e hi → IsBelow e.pivot (parting e pivot) → IsBelowEnd (parting e pivot) hi → length (parting e pivot) ≤ key_limit → 1 ≤ child → child < 2 ^ 64
    → IsEdge n (upper_edge e (parting e pivot) child) hi
upper_edge_shape n e hi pivot child h above below short some small =
    let long : length (lifted e) ≡ e.lift = lifted_length e h.lift in
    let same : take e.lift (parting e pivot) ≡ lifted e = ap (λ (i : ℕ). take i (parting e pivot)) (sym long) ∙ take-append_seam (lifted e) pivot in
    record {
      pivot = short;
      rising = below;
      lift = omega (arith, length-append (lifted e) pivot);
      common = subst (λ (l : List ℕ). IsCommon (parting e pivot) hi l) (sym same) (λ k key range. h.common k key (least_over k e.pivot (parting e pivot) range.0 above, range.1));
      source = h.source;
      child = (some, small);
      seen = h.seen;
    }

abbrev pub both : Edge → List ℕ → ℕ → List Edge
both e pivot next = e ∷ upper_edge e (parting e pivot) next ∷ []

pub both_fit_in : (n : Node) (place : ℕ) (e f : Edge) (pivot : List ℕ) (next : ℕ) → FitsAt n place e (f ∷ []) → length (edges_of n) ≤ 14 → 1 ≤ next → next < 2 ^ 64 → IsInside n place f (parting f pivot) → length (parting f pivot) ≤ key_limit
    → FitsAt n place e (both f pivot next)
both_fit_in n place e f pivot next one few some small inside short =
    let own : IsEdge (length (buffer_of n)) f (end_at n place) = one.each.0 in
    record {
      here = one.here;
      few = omega arith;
      first = one.first;
      each = (
        lower_edge_shape (length (buffer_of n)) f (end_at n place) (parting f pivot) own inside.0 inside.1,
        (upper_edge_shape (length (buffer_of n)) f (end_at n place) pivot next own inside.0 inside.1 short some small, tt),
      );
    }

pub both_fit : (t : Table) (p : ℕ) (n : Node) (place c : ℕ) (e : Edge) (seen : ℕ) (m : Node) (pivot : List ℕ) → IsSplittable t p n place c e seen m → IsInside n place e (parting e pivot) → length (parting e pivot) ≤ key_limit
    → FitsAt n place e (both (as_seen e seen) pivot t.next)
both_fit t p n place c e seen m pivot s inside short = both_fit_in n place e (as_seen e seen) pivot t.next (one_fits t p n place c e seen m s) s.few (some_next t s.table) s.next inside short

-- ---- names

pub count_two : (x a b : ℕ) → count_names x (a ∷ b ∷ []) ≡ count_names x (a ∷ []) + count_names x (b ∷ [])
count_two x a b = count_names-append x (a ∷ []) (b ∷ [])

pub both_names : (e : Edge) (pivot : List ℕ) (c next : ℕ) → e.child ≡ Some c → flat_map edge_names (both e pivot next) ≡ c ∷ next ∷ []
both_names e pivot c next is = ap (λ (o : Option ℕ). option_to_list o ++ (next ∷ [])) is

-- what the parent names then
pub parent_named : (t : Table) (p : ℕ) (n : Node) (place c : ℕ) (e : Edge) (seen : ℕ) (m : Node) (pivot : List ℕ) (parent : Node) → IsSplittable t p n place c e seen m → IsCompacted (exchanged n place (both (as_seen e seen) pivot t.next)) parent → (x : ℕ) → 1 ≤ times parent x
    → IsLower t (t.level p) x ⊎ ((t.next ≤ x) × (x < t.next + 1))
parent_named t p n place c e seen m pivot parent s compacted x one =
    let f : Edge = as_seen e seen in
    elim (cases_eq t.next x) [
      | inl same ↦ inr (omega arith, omega arith)
      | inr other ↦ (let less : times parent x ≤ times (exchanged n place (both f pivot t.next)) x = compacted_times (exchanged n place (both f pivot t.next)) parent compacted x in
          let none : count_names x (t.next ∷ []) ≡ 0 = count-cons_other t.next x [] other in
          let named : 1 ≤ times n x = omega (arith, times_exchanged n place (both f pivot t.next) x (inner_of n place e s.own.shape s.way.here), ap (count_names x) (both_names f pivot c t.next s.way.child_is), count_two x c t.next, times_apart n place c e x s.own.shape s.way) in
          inl (named_has (IsLower t (t.level p)) x (names n) s.own.lower named))
    ]

pub parent_names : (t : Table) (p : ℕ) (n : Node) (place c : ℕ) (e : Edge) (seen : ℕ) (m : Node) (pivot : List ℕ) (parent : Node) → IsSplittable t p n place c e seen m → IsCompacted (exchanged n place (both (as_seen e seen) pivot t.next)) parent → (x : ℕ) → count_names x (c ∷ t.next ∷ []) ≤ times parent x
parent_names t p n place c e seen m pivot parent s compacted x =
    let f : Edge = as_seen e seen in
    omega (arith, compacted_named (exchanged n place (both f pivot t.next)) parent compacted x, exchanged_named n place (both f pivot t.next) x (inner_of n place e s.own.shape s.way.here), ap (count_names x) (both_names f pivot c t.next s.way.child_is))

-- where one edge stands in its place
pub one_times : (n : Node) (place : ℕ) (e : Edge) (seen : ℕ) (parent : Node) → IsShape n → IsEdgeAt n place e → IsCompacted (exchanged n place (as_seen e seen ∷ [])) parent → (x : ℕ) → times parent x ≤ times n x
one_times n place e seen parent h here r x =
    let f : Edge = as_seen e seen in
    let less : times parent x ≤ times (exchanged n place (f ∷ [])) x = compacted_times (exchanged n place (f ∷ [])) parent r x in
    let same : times (exchanged n place (f ∷ [])) x ≡ times n x =
    times_exchanged n place (f ∷ []) x (inner_of n place e h here)
    ∙ sym (times_exchanged n place (e ∷ []) x (inner_of n place e h here))
    ∙ ap (λ (m : Node). times m x) (exchanged_same n place e here) in
    omega arith

half_named : (t : Table) (c : ℕ) (m : Node) (own : List ℕ → Type 0) (half : Node) → AllByRecursion (IsLower t (t.level c)) (names m) → IsHalf m own half → (x : ℕ) → 1 ≤ times half x → IsLower t (t.level c) x
half_named t c m own half below is x one =
    named_has (IsLower t (t.level c)) x (names m) below (let less : times half x ≤ times m x = is.names x in omega arith)

half_made : (t : Table) (c : ℕ) (m : Node) (own : List ℕ → Type 0) (half : Node) → level_of m ≡ t.level c → AllByRecursion (IsLower t (t.level c)) (names m) → IsHalf m own half → IsMadeBelow t (t.level c) half
half_made t c m own half level below is =
    let same : level_of half ≡ t.level c = is.level_is ∙ level in
    record {
      shape = is.shape;
      low = omega arith;
      named = λ x one. subst (λ (l : ℕ). IsLower t l x) (sym same) (half_named t c m own half below is x one);
    }

-- ---- the change

parted_change : (t : Table) (p : ℕ) (n : Node) (place c : ℕ) (e : Edge) (seen : ℕ) (m : Node) (halves : Halves) (parent : Node) → IsSplittable t p n place c e seen m → AreHalves m halves → IsInside n place e (parting e halves.pivot) → length (parting e halves.pivot) ≤ key_limit
    → IsCompacted (exchanged n place (both (as_seen e seen) halves.pivot t.next)) parent → IsChildChange t p parent c halves.first (halves.second ∷ [])
parted_change t p n place c e seen m halves parent s are inside short compacted =
    let list : List Edge = both (as_seen e seen) halves.pivot t.next in
    record {
      table = s.table;
      parent = s.kept;
      child = lower_child t p n place c e seen m s;
      shape = compacted_shape (exchanged n place list) parent (exchanged_shape n place e list s.own.shape (both_fit t p n place c e seen m halves.pivot s inside short)) compacted;
      level = compacted_level (exchanged n place list) parent compacted ∙ level_exchanged n place list ∙ s.own.level_is;
      named = λ x one. parent_named t p n place c e seen m halves.pivot parent s compacted x one;
      child_shape = are.lower.shape;
      child_level = are.lower.level_is ∙ s.child_level;
      child_named = half_named t c m (λ k. IsBelow k halves.pivot) halves.first s.child_names are.lower;
      each = (half_made t c m (λ k. IsAtLeast k halves.pivot) halves.second s.child_level s.child_names are.upper, tt);
      used = λ x high low.
          let same : t.next ≡ x = omega arith in
          subst (λ (i : ℕ). 1 ≤ times parent i) same
          (omega (arith, parent_names t p n place c e seen m halves.pivot parent s compacted t.next, count_two t.next c t.next, count_own t.next));
    }

-- where nothing is made
pub one_change : (t : Table) (p : ℕ) (n : Node) (place c : ℕ) (e : Edge) (seen : ℕ) (m parent low : Node) → IsSplittable t p n place c e seen m → IsCompacted (exchanged n place (as_seen e seen ∷ [])) parent
    → IsShape low → level_of low ≡ t.level c → ((x : ℕ) → 1 ≤ times low x → IsLower t (t.level c) x) → IsChildChange t p parent c low []
one_change t p n place c e seen m parent low s r shape level named =
    let list : List Edge = as_seen e seen ∷ [] in
    record {
      table = s.table;
      parent = s.kept;
      child = lower_child t p n place c e seen m s;
      shape = compacted_shape (exchanged n place list) parent (exchanged_shape n place e list s.own.shape (one_fits t p n place c e seen m s)) r;
      level = compacted_level (exchanged n place list) parent r ∙ level_exchanged n place list ∙ s.own.level_is;
      named = λ x one. inl (named_has (IsLower t (t.level p)) x (names n) s.own.lower (let less : times parent x ≤ times n x = one_times n place e seen parent s.own.shape s.way.here r x in omega arith));
      child_shape = shape;
      child_level = level;
      child_named = named;
      each = tt;
      used = λ x high below. absurd (let l : x < t.next + 0 = below in omega arith);
    }

halved_change : (t : Table) (p : ℕ) (n : Node) (place c : ℕ) (e : Edge) (seen : ℕ) (m : Node) (own : List ℕ → Type 0) (half parent : Node) → IsSplittable t p n place c e seen m → IsHalf m own half → IsCompacted (exchanged n place (as_seen e seen ∷ [])) parent → IsChildChange t p parent c half []
halved_change t p n place c e seen m own half parent s is r =
    one_change t p n place c e seen m parent half s r is.shape (is.level_is ∙ s.child_level) (half_named t c m own half s.child_names is)

pub split_change : (t : Table) (p : ℕ) (n : Node) (place c : ℕ) (e : Edge) (seen : ℕ) (m parent half : Node) (made : List Node) → IsSplittable t p n place c e seen m → IsSplitInto n place (as_seen e seen) m t.next parent half made → IsChildChange t p parent c half made
split_change t p n place c e seen m _ _ _ s (parted halves parent are inside short compacted) = parted_change t p n place c e seen m halves parent s are inside short compacted
split_change t p n place c e seen m _ _ _ s (lower halves parent are outside compacted) = halved_change t p n place c e seen m (λ k. IsBelow k halves.pivot) halves.first parent s are.lower compacted
split_change t p n place c e seen m _ _ _ s (upper halves parent are outside compacted) = halved_change t p n place c e seen m (λ k. IsAtLeast k halves.pivot) halves.second parent s are.upper compacted

-- ---- what the parent has

-- what else the parent names is old, and not the child
pub other_names : (nodes : Nodes) (t : Table) (p : ℕ) (n : Node) (place c : ℕ) (e : Edge) (seen : ℕ) (m : Node) (below : NodesAt) → IsSplittableOf nodes t p n place c e seen m below → (x : ℕ) → 1 ≤ times (exchanged n place []) x → (x ≡ c → ⊥) × (x < t.next)
other_names nodes t p n place c e seen m below s x one =
    let named : 1 ≤ times n x = omega (arith, times_apart n place c e x s.of.own.shape s.of.way) in (
      λ same. (let once : t.count c ≡ 1 = s.once in
          let most : times n c + one_if t.root c ≤ t.count c = counted nodes t s.sound p n s.there c in
          let here : 1 ≤ times (exchanged n place []) c = subst (λ (i : ℕ). 1 ≤ times (exchanged n place []) i) same one in
          omega (arith, times_apart n place c e c s.of.own.shape s.of.way, count_own c)),
      s.of.table.below x (named_has (IsLower t (t.level p)) x (names n) s.of.own.lower named).kept,
    )

-- so it has what it had
pub others_agree : (nodes : Nodes) (t : Table) (p : ℕ) (n : Node) (place c : ℕ) (e : Edge) (seen : ℕ) (m : Node) (below : NodesAt) (half : Node) (made : List Node) → IsSplittableOf nodes t p n place c e seen m below → AllByRecursion (Agree (has_below nodes t.next c half made) below) (names (exchanged n place []))
others_agree nodes t p n place c e seen m below half made s =
    each_named (Agree (has_below nodes t.next c half made) below) (names (exchanged n place [])) (λ x one k.
    let other = other_names nodes t p n place c e seen m below s x one in
    has_old nodes t.next c half made x other.0 other.1 k ∙ sym (s.others_have x other.0 other.1 k))

-- what the edge asks, and what a half has there
abbrev pub asks : NodesAt → Edge → List ℕ → Option (List ℕ)
asks below e k = child_at below e.child (e.source ++ drop e.lift k)

pub asks_at : (below : NodesAt) (e : Edge) (c : ℕ) (k : List ℕ) → e.child ≡ Some c → e.source ≡ [] → asks below e k ≡ below c (drop e.lift k)
asks_at below e c k child plain =
    ap (λ (o : Option ℕ). child_at below o (e.source ++ drop e.lift k)) child ∙ ap (λ (l : List ℕ). below c (l ++ drop e.lift k)) plain

-- the child's half is asked for a key of its own
child_value : (nodes : Nodes) (t : Table) (p : ℕ) (n : Node) (place c : ℕ) (e : Edge) (seen : ℕ) (m : Node) (below : NodesAt) (own : List ℕ → Type 0) (half : Node) (made : List Node) → IsSplittableOf nodes t p n place c e seen m below → IsHalf m own half
    → (k : List ℕ) → IsKey k → own (drop e.lift k) → asks (has_below nodes t.next c half made) e k ≡ asks below e k
child_value nodes t p n place c e seen m below own half made s is k key mine =
    let x : List ℕ = drop e.lift k in
    asks_at (has_below nodes t.next c half made) e c k s.of.way.child_is s.of.way.plain
    ∙ has_child nodes t.next c half made x
    ∙ node_has-key (at nodes) half x (IsKey-drop e.lift k key)
    ∙ is.meaning (at nodes) x mine
    ∙ sym (s.child_has x (IsKey-drop e.lift k key))
    ∙ sym (asks_at below e c k s.of.way.child_is s.of.way.plain)

-- the made half is asked
made_value : (nodes : Nodes) (t : Table) (p : ℕ) (n : Node) (place c : ℕ) (e : Edge) (seen : ℕ) (m : Node) (below : NodesAt) (own : List ℕ → Type 0) (first second : Node) (pivot : List ℕ) → IsSplittableOf nodes t p n place c e seen m below → IsHalf m own second
    → (k : List ℕ) → IsKey k → own (drop e.lift k) → asks (has_below nodes t.next c first (second ∷ [])) (upper_edge e pivot t.next) k ≡ asks below e k
made_value nodes t p n place c e seen m below own first second pivot s is k key mine =
    let x : List ℕ = drop e.lift k in
    let low : c < t.next = s.of.table.below c (lower_child t p n place c e seen m s.of).kept in
    asks_at (has_below nodes t.next c first (second ∷ [])) (upper_edge e pivot t.next) t.next k refl s.of.way.plain
    ∙ has_new nodes t.next c first (second ∷ []) t.next second low (omega arith) (ap (λ (i : ℕ). slice_get (second ∷ []) i) (let z : t.next - t.next ≡ 0 = omega arith in z)) x
    ∙ node_has-key (at nodes) second x (IsKey-drop e.lift k key)
    ∙ is.meaning (at nodes) x mine
    ∙ sym (s.child_has x (IsKey-drop e.lift k key))
    ∙ sym (asks_at below e c k s.of.way.child_is s.of.way.plain)

-- the two edges together have what the one had
both_have : (nodes : Nodes) (t : Table) (p : ℕ) (n : Node) (place c : ℕ) (e : Edge) (seen : ℕ) (m : Node) (below : NodesAt) (halves : Halves) → IsSplittableOf nodes t p n place c e seen m below → AreHalves m halves → (k : List ℕ) → IsKey k → IsKeyOf n place e k
    → through (has_below nodes t.next c halves.first (halves.second ∷ [])) (edge_of (both (as_seen e seen) halves.pivot t.next) k) (buffer_of n) k ≡ edge_at below (as_seen e seen) (buffer_of n) k
both_have nodes t p n place c e seen m below halves s are k key range =
    let has : NodesAt = has_below nodes t.next c halves.first (halves.second ∷ []) in
    let f : Edge = as_seen e seen in
    let g : Edge = upper_edge f (parting f halves.pivot) t.next in
    let own : IsEdge (length (buffer_of n)) f (end_at n place) = edge_shape t p n place c e seen m s.of in
    let same : key_cmp k (parting e halves.pivot) ≡ key_cmp (drop e.lift k) halves.pivot = parts_cmp (length (buffer_of n)) f (end_at n place) k halves.pivot own key range in
    elim (cases_Bool (is_lt (key_cmp k (parting e halves.pivot)))) [
      | inl less ↦
          ap (λ (d : Edge). through has (Some d) (buffer_of n) k) (cond-true (is_lt (key_cmp k (parting e halves.pivot))) f g less)
          ∙ edge_same below has n place f f k (others_agree nodes t p n place c e seen m below halves.first (halves.second ∷ []) s) refl
          (child_value nodes t p n place c e seen m below (λ l. IsBelow l halves.pivot) halves.first (halves.second ∷ []) s are.lower k key (sym same ∙ lt_is (key_cmp k (parting e halves.pivot)) less))
      | inr above ↦
          ap (λ (d : Edge). through has (Some d) (buffer_of n) k) (cond-false (is_lt (key_cmp k (parting e halves.pivot))) f g above)
          ∙ edge_same below has n place f g k (others_agree nodes t p n place c e seen m below halves.first (halves.second ∷ []) s) refl
          (made_value nodes t p n place c e seen m below (λ l. IsAtLeast l halves.pivot) halves.first halves.second (parting e halves.pivot) s are.upper k key (λ less. lt_isnt (key_cmp k (parting e halves.pivot)) above (same ∙ less)))
    ]

-- the one half that has keys of the edge
half_has : (nodes : Nodes) (t : Table) (p : ℕ) (n : Node) (place c : ℕ) (e : Edge) (seen : ℕ) (m : Node) (below : NodesAt) (own : List ℕ → Type 0) (half parent : Node) → IsSplittableOf nodes t p n place c e seen m below → IsHalf m own half → IsCompacted (exchanged n place (as_seen e seen ∷ [])) parent
    → ((k : List ℕ) → IsKey k → IsKeyOf n place e k → own (drop e.lift k)) → (k : List ℕ) → IsKey k → node_at (has_below nodes t.next c half []) parent k ≡ node_at below (exchanged n place (as_seen e seen ∷ [])) k
half_has nodes t p n place c e seen m below own half parent s is compacted mine k key =
    let has : NodesAt = has_below nodes t.next c half [] in
    let f : Edge = as_seen e seen in
    let fits : FitsAt n place e (f ∷ []) = one_fits t p n place c e seen m s.of in
    compacted_meaning has (exchanged n place (f ∷ [])) parent (exchanged_shape n place e (f ∷ []) s.of.own.shape fits) compacted k
    ∙ edges_keep below has n place e f (f ∷ []) s.of.own.shape fits fits
    (λ l at_l range.
    edge_same below has n place f f l (others_agree nodes t p n place c e seen m below half [] s) refl (child_value nodes t p n place c e seen m below own half [] s is l at_l (mine l at_l range)))
    (others_agree nodes t p n place c e seen m below half [] s) k key

-- how a key of the edge compares
split_cmp : (nodes : Nodes) (t : Table) (p : ℕ) (n : Node) (place c : ℕ) (e : Edge) (seen : ℕ) (m : Node) (below : NodesAt) (pivot : List ℕ) → IsSplittableOf nodes t p n place c e seen m below → (k : List ℕ) → IsKey k → IsKeyOf n place e k → key_cmp k (parting e pivot) ≡ key_cmp (drop e.lift k) pivot
split_cmp nodes t p n place c e seen m below pivot s k key range =
    parts_cmp (length (buffer_of n)) (as_seen e seen) (end_at n place) k pivot (edge_shape t p n place c e seen m s.of) key range

pub split_meaning : (nodes : Nodes) (t : Table) (p : ℕ) (n : Node) (place c : ℕ) (e : Edge) (seen : ℕ) (m : Node) (below : NodesAt) (parent half : Node) (made : List Node) → IsSplittableOf nodes t p n place c e seen m below → IsSplitInto n place (as_seen e seen) m t.next parent half made
    → (k : List ℕ) → IsKey k → node_at (has_below nodes t.next c half made) parent k ≡ node_at below (exchanged n place (as_seen e seen ∷ [])) k
split_meaning nodes t p n place c e seen m below _ _ _ s (parted halves parent are inside short compacted) = λ k key.
    let has : NodesAt = has_below nodes t.next c halves.first (halves.second ∷ []) in
    let f : Edge = as_seen e seen in
    let list : List Edge = both f halves.pivot t.next in
    let fits : FitsAt n place e list = both_fit t p n place c e seen m halves.pivot s.of inside short in
    compacted_meaning has (exchanged n place list) parent (exchanged_shape n place e list s.of.own.shape fits) compacted k
    ∙ edges_keep below has n place e f list s.of.own.shape (one_fits t p n place c e seen m s.of) fits (both_have nodes t p n place c e seen m below halves s are)
    (others_agree nodes t p n place c e seen m below halves.first (halves.second ∷ []) s) k key
split_meaning nodes t p n place c e seen m below _ _ _ s (lower halves parent are outside compacted) =
    half_has nodes t p n place c e seen m below (λ k. IsBelow k halves.pivot) halves.first parent s are.lower compacted (λ k key range.
    elim (cases_Bool (is_lt (key_cmp k (parting e halves.pivot)))) [
      | inl less ↦ sym (split_cmp nodes t p n place c e seen m below halves.pivot s k key range) ∙ lt_is (key_cmp k (parting e halves.pivot)) less
      | inr above ↦ absurd (none_between (parting e halves.pivot) (end_at n place) k outside (lt_isnt (key_cmp k (parting e halves.pivot)) above) range.1)
    ])
split_meaning nodes t p n place c e seen m below _ _ _ s (upper halves parent are outside compacted) =
    half_has nodes t p n place c e seen m below (λ k. IsAtLeast k halves.pivot) halves.second parent s are.upper compacted (λ k key range less.
    none_between e.pivot (Some (parting e halves.pivot)) k outside range.0 (split_cmp nodes t p n place c e seen m below halves.pivot s k key range ∙ less))

-- a child as it is
pub split_change_of : (nodes : Nodes) (t : Table) (p : ℕ) (n : Node) (place c : ℕ) (e : Edge) (m parent half : Node) (made : List Node) → IsSplittableOf nodes t p n place c e e.seen m (at nodes) → IsSplitInto n place e m t.next parent half made → IsChildChangeOf nodes t p n parent c half made
split_change_of nodes t p n place c e m parent half made s into = record {
  step = split_change t p n place c e e.seen m parent half made s.of into;
  sound = s.sound;
  there = s.there;
  private = s.private;
  once = s.once;
  names_it = child_named n place c e s.of.own.shape s.of.way;
  meaning = λ k key. split_meaning nodes t p n place c e e.seen m (at nodes) parent half made s into k key ∙ ap (λ (d : Node). node_at (at nodes) d k) (exchanged_same n place e s.of.way.here);
}

-- ---- what is needed besides

pub split_few : (n : Node) (place : ℕ) (e : Edge) (m : Node) (next : ℕ) (parent half : Node) (made : List Node) → IsSplitInto n place e m next parent half made → length made ≤ 1
split_few n place e m next _ _ _ (parted halves parent are inside short compacted) = omega arith
split_few n place e m next _ _ _ (lower halves parent are outside compacted) = omega arith
split_few n place e m next _ _ _ (upper halves parent are outside compacted) = omega arith

pub split_size : (n : Node) (place : ℕ) (e : Edge) (m : Node) (next : ℕ) (parent half : Node) (made : List Node) → IsSplitInto n place e m next parent half made → (buffer_size parent ≤ buffer_size n) × (buffer_size half ≤ buffer_size m)
split_size n place e m next _ _ _ (parted halves parent are inside short compacted) = (compacted_small n place (both e halves.pivot next) parent compacted, are.lower.size)
split_size n place e m next _ _ _ (lower halves parent are outside compacted) = (compacted_small n place (e ∷ []) parent compacted, are.lower.size)
split_size n place e m next _ _ _ (upper halves parent are outside compacted) = (compacted_small n place (e ∷ []) parent compacted, are.upper.size)

-- ---- the parts as the code finds them

pub fits_here : (n : Node) (place : ℕ) (e : Edge) (list : List Edge) → FitsAt n place e list → (d : Edge) → IsEdgeAt n place d → FitsAt n place d list
fits_here n place e list fits d there = subst (λ (x : Edge). FitsAt n place x list) (same_Some e d (sym fits.here ∙ there)) fits

-- the edge in its own place
pub own_fits : (n : Node) (place : ℕ) (e : Edge) → IsShape n → IsEdgeAt n place e → (d : Edge) → IsEdgeAt n place d → FitsAt n place d (e ∷ [])
own_fits n place e h here = fits_here n place e (e ∷ []) (seen_fits n place e e.seen h here (own_shape n place e h here).seen)

-- an edge that fits in place of the node's own, and the key at which the halves part there
pub record IsParting (n : Node) (place : ℕ) (f : Edge) (hi : Option (List ℕ)) (pivot key : List ℕ) : Type 0 where
  pub own : Edge
  pub fits : FitsAt n place own (f ∷ [])
  pub end : hi ≡ end_at n place
  pub key_is : key ≡ parting f pivot

pub is_parting : (n : Node) (place : ℕ) (f : Edge) (es : List Edge) (hi : Option (List ℕ)) (pivot key : List ℕ) → place < length (edges_of n) → ((e : Edge) → IsEdgeAt n place e → FitsAt n place e (f ∷ [])) → es ≡ edges_of n → hi ≡ end_before (drop (place + 1) es) → key ≡ parting f pivot
    → IsParting n place f hi pivot key
is_parting n place f es hi pivot key low fits same end key_is =
    let found = some_edge n place low in
    record {
      own = found.0;
      fits = fits found.0 found.1;
      end = end ∙ ap (λ (l : List Edge). end_before (drop (place + 1) l)) same;
      key_is = key_is;
    }

pub edge_lift : (n : Node) (place : ℕ) (f : Edge) → place < length (edges_of n) → ((e : Edge) → IsEdgeAt n place e → FitsAt n place e (f ∷ [])) → f.lift ≤ length f.pivot
edge_lift n place f low fits = let found = some_edge n place low in (fits found.0 found.1).each.0.lift

pub at_parting : (n : Node) (place : ℕ) (f : Edge) (hi : Option (List ℕ)) (pivot key : List ℕ) → IsParting n place f hi pivot key → IsSide f hi key Both → IsInside n place f (parting f pivot)
at_parting n place f hi pivot key h side =
    (subst (λ (l : List ℕ). IsBelow f.pivot l) h.key_is side.0, subst (λ (l : List ℕ). IsBelowEnd l (end_at n place)) h.key_is (subst (λ (o : Option (List ℕ)). IsBelowEnd key o) h.end side.1))

pub parting_fits : (n : Node) (place : ℕ) (f : Edge) (hi : Option (List ℕ)) (pivot key : List ℕ) (next : ℕ) → IsParting n place f hi pivot key → IsSide f hi key Both → length key ≤ key_limit → length (edges_of n) ≤ 14 → 1 ≤ next → next < 2 ^ 64
    → (d : Edge) → IsEdgeAt n place d → FitsAt n place d (f ∷ upper_edge f key next ∷ [])
parting_fits n place f hi pivot key next h side short few some small =
    fits_here n place h.own (f ∷ upper_edge f key next ∷ [])
    (subst (λ (l : List ℕ). FitsAt n place h.own (f ∷ upper_edge f l next ∷ [])) (sym h.key_is)
    (both_fit_in n place h.own f pivot next h.fits few some small (at_parting n place f hi pivot key h side) (subst (λ (l : List ℕ). length l ≤ key_limit) h.key_is short)))

pub parting_both : (n : Node) (place : ℕ) (f : Edge) (hi : Option (List ℕ)) (halves : Halves) (key : List ℕ) (next : ℕ) (parts : Parts) → IsParting n place f hi halves.pivot key → IsSide f hi key Both → length key ≤ key_limit
    → IsCompacted (exchanged n place (f ∷ upper_edge f key next ∷ [])) parts.node → parts.half ≡ halves.first → parts.made.items ≡ halves.second ∷ [] → (m : Node) → AreHalves m halves → IsSplitInto n place f m next parts.node parts.half parts.made.items
parting_both n place f hi halves key next parts h side short compacted half made m are =
    subst (λ (d : Node). IsSplitInto n place f m next parts.node d parts.made.items) (sym half)
    (subst (λ (l : List Node). IsSplitInto n place f m next parts.node halves.first l) (sym made)
    (parted halves parts.node are (at_parting n place f hi halves.pivot key h side) (subst (λ (l : List ℕ). length l ≤ key_limit) h.key_is short)
    (subst (λ (l : List ℕ). IsCompacted (exchanged n place (f ∷ upper_edge f l next ∷ [])) parts.node) h.key_is compacted)))

-- one half below the edge
abbrev pub IsOneHalf : Node → ℕ → Edge → Node → Parts → Type 0
IsOneHalf n place f half parts = IsCompacted (exchanged n place (f ∷ [])) parts.node × (parts.half ≡ half) × (parts.made.items ≡ [])

one_into : (n : Node) (place : ℕ) (f : Edge) (m : Node) (next : ℕ) (half : Node) (parts : Parts) → IsSplitInto n place f m next parts.node half [] → IsOneHalf n place f half parts → IsSplitInto n place f m next parts.node parts.half parts.made.items
one_into n place f m next half parts h one =
    subst (λ (d : Node). IsSplitInto n place f m next parts.node d parts.made.items) (sym one.1)
    (subst (λ (l : List Node). IsSplitInto n place f m next parts.node half l) (sym one.2) h)

pub parting_lower : (n : Node) (place : ℕ) (f : Edge) (hi : Option (List ℕ)) (halves : Halves) (key : List ℕ) (next : ℕ) (parts : Parts) → IsParting n place f hi halves.pivot key → IsSide f hi key Lower → IsOneHalf n place f halves.first parts
    → (m : Node) → AreHalves m halves → IsSplitInto n place f m next parts.node parts.half parts.made.items
parting_lower n place f hi halves key next parts h side one m are =
    one_into n place f m next halves.first parts
    (lower halves parts.node are (λ below. side (subst (λ (o : Option (List ℕ)). IsBelowEnd key o) (sym h.end) (subst (λ (l : List ℕ). IsBelowEnd l (end_at n place)) (sym h.key_is) below))) one.0) one

pub parting_upper : (n : Node) (place : ℕ) (f : Edge) (hi : Option (List ℕ)) (halves : Halves) (key : List ℕ) (next : ℕ) (parts : Parts) → IsParting n place f hi halves.pivot key → IsSide f hi key Upper → IsOneHalf n place f halves.second parts
    → (m : Node) → AreHalves m halves → IsSplitInto n place f m next parts.node parts.half parts.made.items
parting_upper n place f hi halves key next parts h side one m are =
    one_into n place f m next halves.second parts (upper halves parts.node are (λ below. side (subst (λ (l : List ℕ). IsBelow f.pivot l) (sym h.key_is) below)) one.0) one

-- what of a child's split follows
pub short_is : (n : Node) (place : ℕ) (e : Edge) (m : Node) (next : ℕ) (halves : Halves) (parts : Parts) → IsEdgeAt n place e → AreHalves m halves → IsOver n place e halves next (Short parts) → AreParts n place m next parts
short_is n place e m next halves parts here are is = record { edge = e; here = here; into = is m are }

pub long_is : (n : Node) (place : ℕ) (e : Edge) (m : Node) (next : ℕ) (halves : Halves) (f : Edge) (own : Halves) → IsEdgeAt n place e → AreHalves m halves → IsOver n place e halves next (Long f own) → IsLongPivot n place m
long_is n place e m next halves f own here are is = record { edge = e; here = here; halves = halves; are = are; long = is.2 }
