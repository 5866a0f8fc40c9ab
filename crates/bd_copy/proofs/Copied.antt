-- A child's copy.
use Rattle.std.proofs.Common.{◌≡◌, ℕ, zero, suc, ◌+◌, ◌*◌, ◌<◌, ◌≤◌, Bool, true, false, cond, List, [], ◌∷◌, ◌++◌, length, take, drop, refl, sym, ap, subst, ◌∙◌, Option, None, Some, Result, Ok, Err, OnOk, OnErr, arith, inl, inr, get_or, length-drop, length-take}
use Rattle.std.specs.Prelude.{nat_lt, ⊤}
use Rattle.std.specs.List.{AllByRecursion, flat_map, sum_by}
use Rattle.std.proofs.lemmas.Bool.{cases_Bool, cond-true, cond-false, le-ltb}
use Rattle.std.proofs.lemmas.List.{take-append-drop}
use Rattle.std.proofs.lemmas.List.Sums.{sum_by-cons}
use Rattle.std.proofs.lemmas.Option.{same_Some, none-some, slice_get_within}
use Rattle.bd_limits.specs.Limits.{key_limit, edge_limit}
use Rattle.bd_keys.specs.Keys.{key_cmp, IsKey, IsBelowEnd, InRange, Begins}
use Rattle.bd_keys.proofs.Order.{IsKey-cons, IsKey-rest, IsKey-drop, key_cmp-front}
use Rattle.bd_message.specs.declared.fault.MapFault.{MapFault}
use Rattle.bd_message.specs.KeyMaps.{HasMapCause}
use Rattle.bd_message.proofs.Causes.{cause_after}
use Rattle.bd_message.specs.declared.message.Message.{Message}
use Rattle.bd_message.specs.declared.message.Message.TheVariants.{Put, Del, Patch, Cut, Goto}
use Rattle.bd_message.specs.Effect.{begins}
use Rattle.bd_message.specs.Freeing.{source_of}
use Rattle.bd_message.proofs.Finds.{begins-is}
use Rattle.bd_node.specs.declared.node.Edge.{Edge}
use Rattle.bd_node.specs.declared.node.Node.{Node}
use Rattle.bd_node.specs.declared.node.Step.{Step}
use Rattle.bd_node.specs.declared.node.Node.TheVariants.{Leaf, Inner}
use Rattle.bd_node.specs.Nodes.{level_of, message_names, edge_names, names, times, node_at}
use Rattle.bd_node.specs.Meaning.{Nodes, at}
use Rattle.bd_node.specs.Tables.{Table, IsKept, IsLower, IsNodeOf, IsSound}
use Rattle.bd_node.specs.Stores.{visited}
use Rattle.bd_node.proofs.Lookup.{named_has, each_named, each_first, each_second, node_has-key}
use Rattle.bd_node.proofs.Meanings.{at-meets}
use Rattle.bd_node.proofs.Sound.{sound-levelled}
use Rattle.bd_inner.specs.Clipping.{IsClipped}
use Rattle.bd_node.specs.Compaction.{IsLooseNode}
use Rattle.bd_node.specs.Parts.{IsEdgeAt, edges_of, buffer_of, end_at}
use Rattle.bd_node.specs.Shape.{end_before, EachEdge, IsEdge, IsShape}
use Rattle.bd_node.proofs.Compacting.{compacted_shape, compacted_level, compacted_meaning, compacted_times}
use Rattle.bd_inner.proofs.Fitting.{own_shape}
use Rattle.bd_resolve.specs.declared.following.Target.{Target}
use Rattle.bd_resolve.specs.Following.{IsLowerTarget}
use Rattle.bd_path.specs.declared.fetching.Fetched.{Fetched}
use Rattle.bd_path.specs.Fetching.{IsFetched}
use Rattle.bd_copy.specs.Copying.{CanPutCopy, IsCopyFor, IsCopyAt, IsCopyStep}
use Rattle.bd_node.proofs.Parts.{edge_here}
use Rattle.bd_path.proofs.EdgesAt.{child_lower}
use Rattle.bd_path.specs.Made.{IsMadeBy, IsWornFor}
use Rattle.bd_path.proofs.Made.{made_wider, worn_wider}
use Rattle.bd_copy.specs.Shortening.{edge_way, goto_way, way_visits, CanShorten, IsShortened}
use Rattle.bd_copy.specs.Narrowing.{asked_from, asked_end, IsSpan, IsAsking, narrowed_node, IsNarrowed}
use Rattle.bd_copy.specs.Privatising.{IsCopyOf, HasChild, IsPrivatiseStep}
use Rattle.bd_copy.proofs.Narrowed.{narrow_loose, narrow_level, narrow_meaning, narrow_times}
use Rattle.bd_copy.proofs.Shortened.{option_lower, goto_lower}

-- ---- a clipped node

clipped_lower : (t : Table) (n m : Node) (s : List ℕ) → IsNodeOf t (level_of n) n → IsClipped n s m → AllByRecursion (IsLower t (level_of n)) (names m)
clipped_lower t n m s own h =
    each_named (IsLower t (level_of n)) (names m) (λ x one.
    let less : times m x ≤ times n x = h.names x in
    named_has (IsLower t (level_of n)) x (names n) own.lower (omega arith))

pub can_shorten : (t : Table) (n m : Node) (s : List ℕ) → IsNodeOf t (level_of n) n → IsClipped n s m → CanShorten t m
can_shorten t n m s own h = record {
  shape = h.shape;
  lower = subst (λ (l : ℕ). AllByRecursion (IsLower t l) (names m)) (sym h.level_is) (clipped_lower t n m s own h);
}

-- ---- how many nodes are looked through

either_few : (b : Bool) (l level : ℕ) → l ≤ level → cond b l 0 ≤ level
either_few true l level h = h
either_few false l level h = omega arith

way_few : (t : Table) (level : ℕ) (target : Option Target) → IsLowerTarget t level target → way_visits t target ≤ level
way_few t level None h = omega arith
way_few t level (Some target) h =
    either_few (nat_lt key_limit (length target.source)) (t.level target.child) level (let low : t.level target.child < level = h.lower in omega arith)

edges_few : (t : Table) (level n : ℕ) (es : List Edge) → length es ≤ n → AllByRecursion (IsLower t level) (flat_map edge_names es) → sum_by (λ e. way_visits t (edge_way e)) es ≤ n * level
edges_few t level n [] few h = omega arith
edges_few t level zero (e ∷ es) few h = absurd (omega arith)
edges_few t level (suc n) (e ∷ es) few h =
    let first : way_visits t (edge_way e) ≤ level = way_few t level (edge_way e) (option_lower t level e.child e.source (each_first (IsLower t level) (edge_names e) (flat_map edge_names es) h)) in
    let others : sum_by (λ (d : Edge). way_visits t (edge_way d)) es ≤ n * level = edges_few t level n es (omega arith) (each_second (IsLower t level) (edge_names e) (flat_map edge_names es) h) in
    omega (arith, sum_by-cons (λ (d : Edge). way_visits t (edge_way d)) e es)

none_short : (t : Table) (m : Message) → length (source_of m) ≤ key_limit → way_visits t (goto_way m) ≡ 0
none_short t (Put key value) h = refl
none_short t (Del key) h = refl
none_short t (Patch key off bytes) h = refl
none_short t (Cut prefix from) h = refl
none_short t (Goto prefix source child) h = ap (λ (b : Bool). cond b (t.level child) 0) (le-ltb key_limit (length source) h)

all_none : (t : Table) (ms : List Message) → AllByRecursion (λ (m : Message). length (source_of m) ≤ key_limit) ms → sum_by (λ m. way_visits t (goto_way m)) ms ≡ 0
all_none t [] h = refl
all_none t (m ∷ ms) h = omega (arith, sum_by-cons (λ (l : Message). way_visits t (goto_way l)) m ms, none_short t m h.0, all_none t ms h.1)

messages_few : (t : Table) (level : ℕ) (ms : List Message) → AllByRecursion (λ (m : Message). length (source_of m) ≤ key_limit) (drop 1 ms) → AllByRecursion (IsLower t level) (flat_map message_names ms) → sum_by (λ m. way_visits t (goto_way m)) ms ≤ level
messages_few t level [] later h = omega arith
messages_few t level (m ∷ ms) later h =
    let first : way_visits t (goto_way m) ≤ level = way_few t level (goto_way m) (goto_lower t level m (each_first (IsLower t level) (message_names m) (flat_map message_names ms) h)) in
    omega (arith, sum_by-cons (λ (l : Message). way_visits t (goto_way l)) m ms, all_none t ms later)

few_in : (t : Table) (level : ℕ) (m : Node) → length (edges_of m) ≤ edge_limit → AllByRecursion (λ (l : Message). length (source_of l) ≤ key_limit) (drop 1 (buffer_of m)) → AllByRecursion (IsLower t level) (names m)
    → sum_by (λ e. way_visits t (edge_way e)) (edges_of m) + sum_by (λ l. way_visits t (goto_way l)) (buffer_of m) ≤ 17 * level
few_in t level (Leaf entries) few later h = omega arith
few_in t level (Inner own es ms) few later h =
    let a : sum_by (λ (e : Edge). way_visits t (edge_way e)) es ≤ 16 * level = edges_few t level 16 es few (each_first (IsLower t level) (flat_map edge_names es) (flat_map message_names ms) h) in
    let b : sum_by (λ (l : Message). way_visits t (goto_way l)) ms ≤ level = messages_few t level ms later (each_second (IsLower t level) (flat_map edge_names es) (flat_map message_names ms) h) in
    omega arith

pub few_long : (t : Table) (n m : Node) (s : List ℕ) → IsNodeOf t (level_of n) n → IsClipped n s m → sum_by (λ e. way_visits t (edge_way e)) (edges_of m) + sum_by (λ l. way_visits t (goto_way l)) (buffer_of m) ≤ 17 * level_of n
few_long t n m s own h = few_in t (level_of n) m h.shape.few h.later (clipped_lower t n m s own h)

-- ---- a node freed of a prefix

pub freed_lower : (t : Table) (n clipped whole : Node) (s : List ℕ) → IsClipped n s clipped → IsShortened t clipped whole → AllByRecursion (IsLower t (level_of n)) (names whole)
freed_lower t n clipped whole s clip short = subst (λ (l : ℕ). AllByRecursion (IsLower t l) (names whole)) (short.level_is ∙ clip.level_is) short.lower

pub freed_has : (nodes : Nodes) (n clipped whole : Node) (s : List ℕ) → IsClipped n s clipped → ((k : List ℕ) → IsKey k → node_at (at nodes) whole k ≡ node_at (at nodes) clipped k) → (k : List ℕ) → IsKey k → node_at (at nodes) whole k ≡ node_at (at nodes) n (s ++ k)
freed_has nodes n clipped whole s clip same k key = same k key ∙ clip.meaning (at nodes) k

-- ---- the keys that are asked for

-- an end that is given where a key begins with what is left out, and none where it doesn't
asked_has : (P : Option (List ℕ) → Type 0) (e : Edge) (h : List ℕ) → (begins h (take e.lift e.pivot) ≡ true → P (Some (drop e.lift h))) → P None → P (asked_end e (Some h))
asked_has P e h some none =
    elim (cases_Bool (begins h (take e.lift e.pivot))) [
      | inl in_it ↦ subst P (sym (cond-true (begins h (take e.lift e.pivot)) (Some (drop e.lift h)) None in_it)) (some in_it)
      | inr out ↦ subst P (sym (cond-false (begins h (take e.lift e.pivot)) (Some (drop e.lift h)) None out)) none
    ]

lifted : (e : Edge) → e.lift ≤ length e.pivot → length (take e.lift e.pivot) ≡ e.lift
lifted e low = omega (arith, length-take e.lift e.pivot)

-- a key that begins with what is left out
front_is : (e : Edge) (k : List ℕ) → e.lift ≤ length e.pivot → Begins k (take e.lift e.pivot) → k ≡ take e.lift e.pivot ++ drop e.lift k
front_is e k low begin =
    sym (take-append-drop e.lift k)
    ∙ ap (λ (l : List ℕ). l ++ drop e.lift k) (ap (λ (i : ℕ). take i k) (sym (lifted e low)) ∙ begin)

end_is : (e : Edge) (h : List ℕ) → e.lift ≤ length e.pivot → begins h (take e.lift e.pivot) ≡ true → h ≡ take e.lift e.pivot ++ drop e.lift h
end_is e h low begun = begins-is h (take e.lift e.pivot) begun ∙ ap (λ (i : ℕ). take e.lift e.pivot ++ drop i h) (lifted e low)

cmp_rest : (p k l x y : List ℕ) → k ≡ p ++ x → l ≡ p ++ y → key_cmp k l ≡ key_cmp x y
cmp_rest p k l x y k_is l_is = ap (λ (z : List ℕ). key_cmp z l) k_is ∙ ap (λ (z : List ℕ). key_cmp (p ++ x) z) l_is ∙ key_cmp-front p x y

-- what is left of a key is below the end, if the key is
below_asked : (e : Edge) (hi : Option (List ℕ)) (k : List ℕ) → e.lift ≤ length e.pivot → k ≡ take e.lift e.pivot ++ drop e.lift k → IsBelowEnd k hi → IsBelowEnd (drop e.lift k) (asked_end e hi)
below_asked e None k low k_is below = tt
below_asked e (Some h) k low k_is below =
    asked_has (λ (o : Option (List ℕ)). IsBelowEnd (drop e.lift k) o) e h
    (λ begun. sym (cmp_rest (take e.lift e.pivot) k h (drop e.lift k) (drop e.lift h) k_is (end_is e h low begun)) ∙ below) tt

short_asked : (e : Edge) (hi : Option (List ℕ)) → ((key : List ℕ) → hi ≡ Some key → length key ≤ key_limit) → (key : List ℕ) → asked_end e hi ≡ Some key → length key ≤ key_limit
short_asked e None short key is = absurd (none-some key is)
short_asked e (Some h) short key is =
    asked_has (λ (o : Option (List ℕ)). (l : List ℕ) → o ≡ Some l → length l ≤ key_limit) e h
    (λ begun l at. let most : length h ≤ key_limit = short h refl in omega (arith, length-drop e.lift h, ap (λ (x : List ℕ). length x) (same_Some (drop e.lift h) l at)))
    (λ l at. absurd (none-some l at)) key is

asked_span : (e : Edge) (hi : Option (List ℕ)) → IsAsking e hi → IsSpan (asked_from e) (asked_end e hi)
asked_span e hi h = record {
  low = (let most : length e.pivot ≤ key_limit = h.span.low in omega (arith, length-drop e.lift e.pivot));
  high = short_asked e hi h.span.high;
  rising = below_asked e hi e.pivot h.lift (sym (take-append-drop e.lift e.pivot)) h.span.rising;
}

asked_range : (e : Edge) (hi : Option (List ℕ)) (k : List ℕ) → IsAsking e hi → IsKey k → InRange e.pivot hi k → InRange (asked_from e) (asked_end e hi) (drop e.lift k)
asked_range e hi k h key range =
    let k_is : k ≡ take e.lift e.pivot ++ drop e.lift k = front_is e k h.lift (h.common k key range) in (
      (λ less. range.0 (cmp_rest (take e.lift e.pivot) k e.pivot (drop e.lift k) (drop e.lift e.pivot) k_is (sym (take-append-drop e.lift e.pivot)) ∙ less)),
      below_asked e hi k h.lift k_is range.1,
    )

-- ---- what the copy is

-- a node freed of an edge's source, and what the edge asks of it
pub record IsAskedOf (t : Table) (n : Node) (e : Edge) (hi : Option (List ℕ)) (whole copy : Node) : Type 0 where
  pub asking : IsAsking e hi
  pub key : IsKey (asked_from e)
  pub loose : IsLooseNode whole
  pub level : level_of whole ≡ level_of n
  pub lower : AllByRecursion (IsLower t (level_of n)) (names whole)
  pub narrow : IsNarrowed (asked_from e) (asked_end e hi) whole copy

-- how an edge was asked of a node
pub is_asked_of : (t : Table) (n : Node) (e : Edge) (hi : Option (List ℕ)) (whole copy : Node) (lo : List ℕ) (end : Option (List ℕ)) → IsAsking e hi → IsKey lo → lo ≡ asked_from e → end ≡ asked_end e hi → IsLooseNode whole → level_of whole ≡ level_of n
    → AllByRecursion (IsLower t (level_of n)) (names whole) → IsNarrowed lo end whole copy → IsAskedOf t n e hi whole copy
is_asked_of t n e hi whole copy lo end asking key lo_is end_is loose level lower narrow = record {
  asking = asking;
  key = subst IsKey lo_is key;
  loose = loose;
  level = level;
  lower = lower;
  narrow = subst (λ (o : Option (List ℕ)). IsNarrowed (asked_from e) o whole copy) end_is (subst (λ (l : List ℕ). IsNarrowed l end whole copy) lo_is narrow);
}

pub whole_has : (nodes : Nodes) (n whole : Node) (e : Edge) (s : List ℕ) → s ≡ e.source → ((k : List ℕ) → IsKey k → node_at (at nodes) whole k ≡ node_at (at nodes) n (s ++ k)) → (k : List ℕ) → IsKey k → node_at (at nodes) whole k ≡ node_at (at nodes) n (e.source ++ k)
whole_has nodes n whole e s source_is has k key = has k key ∙ ap (λ (l : List ℕ). node_at (at nodes) n (l ++ k)) source_is

pub span_again : (e : Edge) (hi : Option (List ℕ)) (lo : List ℕ) (end : Option (List ℕ)) → IsAsking e hi → lo ≡ asked_from e → end ≡ asked_end e hi → IsSpan lo end
span_again e hi lo end asking lo_is end_is =
    subst (λ (o : Option (List ℕ)). IsSpan lo o) (sym end_is) (subst (λ (l : List ℕ). IsSpan l (asked_end e hi)) (sym lo_is) (asked_span e hi asking))

still_loose : (t : Table) (n : Node) (e : Edge) (hi : Option (List ℕ)) (whole copy : Node) → IsAskedOf t n e hi whole copy → IsLooseNode (narrowed_node (asked_from e) (asked_end e hi) whole)
still_loose t n e hi whole copy h = narrow_loose (asked_from e) (asked_end e hi) whole h.key (asked_span e hi h.asking) h.loose

pub copy_own : (t : Table) (n : Node) (e : Edge) (hi : Option (List ℕ)) (whole copy : Node) → IsAskedOf t n e hi whole copy → IsNodeOf t (level_of n) copy
copy_own t n e hi whole copy h =
    let cut : Node = narrowed_node (asked_from e) (asked_end e hi) whole in
    record {
      shape = compacted_shape cut copy (still_loose t n e hi whole copy h) h.narrow;
      level_is = compacted_level cut copy h.narrow ∙ narrow_level (asked_from e) (asked_end e hi) whole ∙ h.level;
      lower = each_named (IsLower t (level_of n)) (names copy) (λ x one.
          let less : times copy x ≤ times cut x = compacted_times cut copy h.narrow x in
          let fewer : times cut x ≤ times whole x = narrow_times (asked_from e) (asked_end e hi) whole x in
          named_has (IsLower t (level_of n)) x (names whole) h.lower (omega arith));
    }

pub copy_has : (nodes : Nodes) (t : Table) (n : Node) (e : Edge) (hi : Option (List ℕ)) (whole copy : Node) → IsAskedOf t n e hi whole copy → ((k : List ℕ) → IsKey k → node_at (at nodes) whole k ≡ node_at (at nodes) n (e.source ++ k))
    → (k : List ℕ) → IsKey k → InRange e.pivot hi k → node_at (at nodes) copy (drop e.lift k) ≡ node_at (at nodes) n (e.source ++ drop e.lift k)
copy_has nodes t n e hi whole copy h has k key range =
    compacted_meaning (at nodes) (narrowed_node (asked_from e) (asked_end e hi) whole) copy (still_loose t n e hi whole copy h) h.narrow (drop e.lift k)
    ∙ narrow_meaning (at nodes) (asked_from e) (asked_end e hi) whole (drop e.lift k) (asked_span e hi h.asking) h.loose (asked_range e hi k h.asking key range)
    ∙ has (drop e.lift k) (IsKey-drop e.lift k key)

-- ---- the child

-- an edge of a fetched node, as it is read, and its child
pub record IsChildRead (t : Table) (parent : Fetched) (place : ℕ) (e : Edge) (id : ℕ) : Type 0 where
  pub parent_is : IsFetched t parent
  pub here : IsEdgeAt parent.node.value place e
  pub child_is : e.child ≡ Some id

pub child_read : (t : Table) (parent : Fetched) (place id : ℕ) (shown : Node) (es : List Edge) (e : Edge) → HasChild t parent place → shown ≡ parent.node.value → es ≡ edges_of shown → e ≡ get_or es place e → e.child ≡ Some id → IsChildRead t parent place e id
child_read t parent place id shown es e can same es_is read child = record {
  parent_is = can.parent_is;
  here = edge_here es parent.node.value place e (es_is ∙ ap edges_of same) (slice_get_within (edges_of parent.node.value) place can.edge can.here) read;
  child_is = child;
}

pub kept_child : (t : Table) (parent : Fetched) (place id : ℕ) (e : Edge) → IsChildRead t parent place e id → IsKept t id
kept_child t parent place id e h = (child_lower t parent place id e h.parent_is h.here h.child_is).kept

-- where the keys of an edge end can be stored
end_short : (n i : ℕ) (es : List Edge) (key : List ℕ) → EachEdge (IsEdge n) es → end_before (drop i es) ≡ Some key → length key ≤ key_limit
end_short n zero [] key h is = absurd (none-some key is)
end_short n zero (e ∷ es) key h is = subst (λ (l : List ℕ). length l ≤ key_limit) (same_Some e.pivot key is) h.0.pivot
end_short n (suc i) [] key h is = absurd (none-some key is)
end_short n (suc i) (e ∷ es) key h is = end_short n i es key h.1 is

end_at_short : (n : Node) (place : ℕ) (e : Edge) (key : List ℕ) → IsShape n → IsEdgeAt n place e → end_at n place ≡ Some key → length key ≤ key_limit
end_at_short (Leaf entries) place e key h here is = absurd (none-some e here)
end_at_short (Inner level es buffer) place e key h here is = end_short (length buffer) (place + 1) es key h.each is

pub is_asking : (t : Table) (parent : Fetched) (place id : ℕ) (e : Edge) (hi : Option (List ℕ)) → IsChildRead t parent place e id → hi ≡ end_at parent.node.value place → IsAsking e hi
is_asking t parent place id e hi h is =
    let own : IsEdge (length (buffer_of parent.node.value)) e (end_at parent.node.value place) = own_shape parent.node.value place e h.parent_is.own.shape h.here in
    subst (λ (o : Option (List ℕ)). IsAsking e o) (sym is)
    (record {
      span = record { low = own.pivot; high = λ key at. end_at_short parent.node.value place e key h.parent_is.own.shape h.here at; rising = own.rising };
      lift = own.lift;
      common = own.common;
      source = own.source;
    })

-- where the keys of an edge end that was read
pub end_read : (n shown : Node) (place : ℕ) (es : List Edge) (hi : Option (List ℕ)) → shown ≡ n → es ≡ edges_of shown → hi ≡ end_before (drop (place + 1) es) → hi ≡ end_at n place
end_read n shown place es hi same es_is is = is ∙ ap (λ (l : List Edge). end_before (drop (place + 1) l)) (es_is ∙ ap edges_of same)

-- ---- the copy of a fetched child

-- a child that was fetched, and its copy
pub record IsCopyRead (t : Table) (parent : Fetched) (place : ℕ) (e : Edge) (child : Fetched) (copy : Node) : Type 0 where
  pub read : IsChildRead t parent place e child.id
  pub fetched : IsFetched t child
  pub copied : IsCopyOf t child.node.value e (end_at parent.node.value place) copy
  pub own : IsNodeOf t (level_of child.node.value) copy

-- how an edge's child was fetched and copied
pub record IsCopying (t v : Table) (parent : Fetched) (place : ℕ) (e : Edge) (id : ℕ) (child : Fetched) (shown : Node) (hi : Option (List ℕ)) (copy : Node) : Type 0 where
  pub read : IsChildRead t parent place e id
  pub id_is : child.id ≡ id
  pub fetched : IsFetched t child
  pub table_is : v ≡ t
  pub shown_is : shown ≡ child.node.value
  pub end_is : hi ≡ end_at parent.node.value place
  pub copied : IsCopyOf v shown e hi copy
  pub own : IsNodeOf v (level_of shown) copy
  pub bytes : IsKey e.source

copy_read : (t v : Table) (parent : Fetched) (place : ℕ) (e : Edge) (id : ℕ) (child : Fetched) (shown : Node) (hi : Option (List ℕ)) (copy : Node) → IsCopying t v parent place e id child shown hi copy → IsCopyRead t parent place e child copy
copy_read t v parent place e id child shown hi copy h = record {
  read = subst (λ (i : ℕ). IsChildRead t parent place e i) (sym h.id_is) h.read;
  fetched = h.fetched;
  copied = subst (λ (o : Option (List ℕ)). IsCopyOf t child.node.value e o copy) h.end_is
      (subst (λ (n : Node). IsCopyOf t n e hi copy) h.shown_is (subst (λ (u : Table). IsCopyOf u shown e hi copy) h.table_is h.copied));
  own = subst (λ (n : Node). IsNodeOf t (level_of n) copy) h.shown_is (subst (λ (u : Table). IsNodeOf u (level_of shown) copy) h.table_is h.own);
}

can_put : (t : Table) (parent : Fetched) (place : ℕ) (e : Edge) (child : Fetched) (copy : Node) → IsCopyRead t parent place e child copy → CanPutCopy t parent place copy
can_put t parent place e child copy h =
    let level : level_of copy ≡ level_of child.node.value = h.own.level_is in
    let at : level_of child.node.value ≡ t.level child.id = h.fetched.own.level_is in
    let above : level_of parent.node.value ≡ t.level parent.id = h.read.parent_is.own.level_is in
    let down : t.level child.id < t.level parent.id = (child_lower t parent place child.id e h.read.parent_is h.read.here h.read.child_is).lower in
    record {
      parent_is = h.read.parent_is;
      edge = e;
      here = h.read.here;
      child = child.id;
      child_is = h.read.child_is;
      own = record {
        shape = h.own.shape;
        level_is = refl;
        lower = subst (λ (l : ℕ). AllByRecursion (IsLower t l) (names copy)) (sym level) h.own.lower;
      };
      lower = omega arith;
    }

pub put_again : (t v w : Table) (parent : Fetched) (place : ℕ) (e : Edge) (id : ℕ) (child : Fetched) (shown : Node) (hi : Option (List ℕ)) (copy : Node) → IsCopying t v parent place e id child shown hi copy → w ≡ t → CanPutCopy w parent place copy
put_again t v w parent place e id child shown hi copy h same =
    subst (λ (u : Table). CanPutCopy u parent place copy) (sym same) (can_put t parent place e child copy (copy_read t v parent place e id child shown hi copy h))

-- bytes after bytes are bytes
IsKey-append : (s k : List ℕ) → IsKey s → IsKey k → IsKey (s ++ k)
IsKey-append [] k hs hk = hk
IsKey-append (b ∷ s) k hs hk = IsKey-cons b (s ++ k) (hs 0) (IsKey-append s k (IsKey-rest b s hs) hk)

copy_for : (nodes : Nodes) (t : Table) (e : Edge) (hi : Option (List ℕ)) (c : ℕ) (n copy : Node) → IsSound nodes t → e.child ≡ Some c → nodes c ≡ Some n → IsKey e.source
    → ((k : List ℕ) → IsKey k → InRange e.pivot hi k → node_at (at nodes) copy (drop e.lift k) ≡ node_at (at nodes) n (e.source ++ drop e.lift k)) → IsCopyFor nodes e hi copy
copy_for nodes t e hi c n copy sound child there bytes has x child_x k key range =
    let same : c ≡ x = same_Some c x (sym child ∙ child_x) in
    let left : List ℕ = drop e.lift k in
    subst (λ (i : ℕ). node_at (at nodes) copy left ≡ at nodes i (e.source ++ left)) same
    (has k key range
    ∙ sym (node_has-key (at nodes) n (e.source ++ left) (IsKey-append e.source left bytes (IsKey-drop e.lift k key)))
    ∙ sym ((at-meets nodes (sound-levelled nodes t sound)).each c n there (e.source ++ left)))

-- a child in sound nodes, and its copy
pub record IsCopyThere (nodes : Nodes) (t : Table) (parent : Fetched) (place : ℕ) (e : Edge) (child : Fetched) (copy : Node) : Type 0 where
  pub read : IsCopyRead t parent place e child copy
  pub sound : IsSound nodes t
  pub there : nodes child.id ≡ Some child.node.value
  pub bytes : IsKey e.source
  pub has : (k : List ℕ) → IsKey k → InRange e.pivot (end_at parent.node.value place) k → node_at (at nodes) copy (drop e.lift k) ≡ node_at (at nodes) child.node.value (e.source ++ drop e.lift k)

pub copy_there : (nodes mid : Nodes) (t v : Table) (parent : Fetched) (place : ℕ) (e : Edge) (id : ℕ) (child : Fetched) (shown : Node) (hi : Option (List ℕ)) (copy : Node) → IsCopying t v parent place e id child shown hi copy → IsSound nodes t → mid ≡ nodes → nodes id ≡ Some child.node.value
    → ((k : List ℕ) → IsKey k → InRange e.pivot hi k → node_at (at mid) copy (drop e.lift k) ≡ node_at (at mid) shown (e.source ++ drop e.lift k)) → IsCopyThere nodes t parent place e child copy
copy_there nodes mid t v parent place e id child shown hi copy h sound same there has = record {
  read = copy_read t v parent place e id child shown hi copy h;
  sound = sound;
  there = ap nodes h.id_is ∙ there;
  bytes = h.bytes;
  has = λ k key range.
      ap (λ (f : Nodes). node_at (at f) copy (drop e.lift k)) (sym same)
      ∙ has k key (subst (λ (o : Option (List ℕ)). InRange e.pivot o k) (sym h.end_is) range)
      ∙ ap (λ (f : Nodes). node_at (at f) shown (e.source ++ drop e.lift k)) same
      ∙ ap (λ (n : Node). node_at (at nodes) n (e.source ++ drop e.lift k)) h.shown_is;
}

is_copy_for : (nodes : Nodes) (t : Table) (parent : Fetched) (place : ℕ) (e : Edge) (child : Fetched) (copy : Node) → IsCopyThere nodes t parent place e child copy → IsCopyFor nodes e (end_at parent.node.value place) copy
is_copy_for nodes t parent place e child copy h = copy_for nodes t e (end_at parent.node.value place) child.id child.node.value copy h.sound h.read.read.child_is h.there h.bytes h.has

copied_at : (nodes : Nodes) (t : Table) (parent : Fetched) (place : ℕ) (e : Edge) (child : Fetched) (copy : Node) → IsCopyThere nodes t parent place e child copy → IsCopyAt nodes parent.node.value place copy
copied_at nodes t parent place e child copy h d here_d =
    subst (λ (x : Edge). IsCopyFor nodes x (end_at parent.node.value place) copy) (same_Some e d (sym h.read.read.here ∙ here_d)) (is_copy_for nodes t parent place e child copy h)

pub copied_again : (nodes mid : Nodes) (t : Table) (parent : Fetched) (place : ℕ) (e : Edge) (child : Fetched) (copy : Node) → mid ≡ nodes → IsCopyThere nodes t parent place e child copy → IsCopyAt mid parent.node.value place copy
copied_again nodes mid t parent place e child copy same h = subst (λ (f : Nodes). IsCopyAt f parent.node.value place copy) (sym same) (copied_at nodes t parent place e child copy h)

privatise_step : (known : Type 0) (nodes : Nodes) (t : Table) (parent : Fetched) (place : ℕ) (e : Edge) (child : Fetched) (copy : Node) (step : Step) → IsCopyRead t parent place e child copy → (known → IsCopyThere nodes t parent place e child copy) → IsCopyStep t.root t.next parent place copy step
    → IsPrivatiseStep known nodes t parent place step
privatise_step known nodes t parent place e child copy step h there is = record {
  edge = e;
  here = h.read.here;
  child = child.id;
  child_is = h.read.child_is;
  old = child.node.value;
  own = h.fetched.own;
  there = λ k. (there k).there;
  copy = copy;
  copied = h.copied;
  level_is = h.own.level_is;
  has = λ k. is_copy_for nodes t parent place e child copy (there k);
  step_is = is;
}

pub on_privatised : {T E : Type 0} (nodes mid : Nodes) (t w : Table) (parent : Fetched) (place : ℕ) (e : Edge) (child : Fetched) (copy : Node) (new : Nodes) (u : Table) (r : Result T E) → IsCopyThere nodes t parent place e child copy → mid ≡ nodes → w ≡ t
    → OnOk r (IsMadeBy (IsCopyStep w.root w.next parent place copy) mid w new u) → OnOk r (IsMadeBy (IsPrivatiseStep ⊤ nodes t parent place) nodes t new u)
on_privatised nodes mid t w parent place e child copy new u r h same table made =
    made_wider (IsCopyStep t.root t.next parent place copy) (IsPrivatiseStep ⊤ nodes t parent place) nodes t new u r
    (λ step is. privatise_step ⊤ nodes t parent place e child copy step h.read (λ k. h) is)
    (subst (λ (v : Table). OnOk r (IsMadeBy (IsCopyStep v.root v.next parent place copy) nodes v new u)) table
    (subst (λ (f : Nodes). OnOk r (IsMadeBy (IsCopyStep w.root w.next parent place copy) f w new u)) same made))

pub copy_cause : {T : Type 0} (before mid now : ℕ) (last : Bool) (bad : ℕ → Type 0) (known : Type 0) (nodes : Nodes) (t v w : Table) (parent : Fetched) (place : ℕ) (e : Edge) (id : ℕ) (child : Fetched) (shown : Node) (hi : Option (List ℕ)) (copy : Node) (r : Result T MapFault) → mid ≡ before → IsCopying t v parent place e id child shown hi copy
    → (known → IsCopyThere nodes t parent place e child copy) → w ≡ t → HasMapCause mid now last bad (IsWornFor (IsCopyStep w.root w.next parent place copy) ⊥ w) r → HasMapCause before now last bad (IsWornFor (IsPrivatiseStep known nodes t parent place) ⊥ t) r
copy_cause before mid now last bad known nodes t v w parent place e id child shown hi copy r same h there table cause =
    worn_wider before now last bad (IsCopyStep t.root t.next parent place copy) (IsPrivatiseStep known nodes t parent place) ⊥ ⊥ t r
    (λ step is. privatise_step known nodes t parent place e child copy step (copy_read t v parent place e id child shown hi copy h) there is) (λ no. no)
    (cause_after before mid now last bad (IsWornFor (IsCopyStep t.root t.next parent place copy) ⊥ t) r same
    (subst (λ (x : Table). HasMapCause mid now last bad (IsWornFor (IsCopyStep x.root x.next parent place copy) ⊥ x) r) table cause))

-- ---- visits

pub visits_few : (before now most few : ℕ) → now ≤ before + most → most ≤ few → now ≤ before + few
visits_few before now most few h less = omega arith

-- a node is made, or none
pub put_few : {T E : Type 0} (before now : ℕ) (r : Result T E) → OnOk r (now ≡ visited before 1) → OnErr r (now ≡ before) → now ≤ before + 1
put_few before now (Ok x) made none = omega arith
put_few before now (Err x) made none = omega arith

pub copy_visits : (t : Table) (parent : Fetched) (place : ℕ) (e : Edge) (id : ℕ) (child : Fetched) (shown : Node) (before now : ℕ) → IsChildRead t parent place e id → child.id ≡ id → IsFetched t child → shown ≡ child.node.value → now ≤ before + (2 + 17 * level_of shown)
    → (d : Edge) (c : ℕ) → IsEdgeAt parent.node.value place d → d.child ≡ Some c → now ≤ before + (2 + 17 * t.level c)
copy_visits t parent place e id child shown before now h id_is fetched is few d c here child_d =
    let same : e ≡ d = same_Some e d (sym h.here ∙ here) in
    let same_c : child.id ≡ c = id_is ∙ same_Some id c (sym h.child_is ∙ ap (λ (x : Edge). x.child) same ∙ child_d) in
    let level : level_of shown ≡ t.level c = ap level_of is ∙ fetched.own.level_is ∙ ap t.level same_c in
    omega arith
