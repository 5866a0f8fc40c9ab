-- Nodes with what a message makes of an edge all of whose keys it decides.
use Rattle.std.proofs.Common.{◌≡◌, ℕ, zero, suc, ◌+◌, ◌^◌, ◌<◌, ◌≤◌, List, [], ◌∷◌, length, take, drop, get_or, refl, sym, ap, subst, ◌∙◌, Option, None, Some, true, ◌++◌, arith, inl, inr, add-one, Result, Ok, Err}
use Rattle.std.specs.Prelude.{slice_get, IfOk}
use Rattle.std.specs.List.{flat_map}
use Rattle.std.proofs.lemmas.Bool.{cases_eq, cond-true}
use Rattle.std.proofs.lemmas.List.{length-append, take-append-drop}
use Rattle.std.proofs.lemmas.List.Concat.{flat_map-append}
use Rattle.std.proofs.lemmas.Option.{same_Some, none-some, slice_get_within, get_or_from_slice_get}
use Rattle.bd_limits.specs.Limits.{key_limit, edge_limit}
use Rattle.bd_keys.specs.Keys.{IsKey, IsBelowEnd, IsCommon}
use Rattle.bd_message.specs.declared.message.Message.{Message}
use Rattle.bd_message.specs.declared.message.Message.TheVariants.{Put, Del, Patch, Cut, Goto}
use Rattle.bd_message.specs.Messages.{IsMessage}
use Rattle.bd_message.specs.Effect.{NodesAt, begins, rest, is_cut, act, acts}
use Rattle.bd_message.proofs.Finds.{begins-is}
use Rattle.bd_node.specs.declared.node.Edge.{Edge}
use Rattle.bd_node.specs.declared.node.Node.{Node}
use Rattle.bd_node.specs.declared.node.Node.TheVariants.{Leaf, Inner}
use Rattle.bd_node.specs.Touching.{touches}
use Rattle.bd_node.specs.Nodes.{level_of, buffer_size, message_names, edge_names, times, child_at, edge_at, node_at}
use Rattle.bd_node.specs.Shape.{end_before, EachEdge, AreRising, IsEdge, IsInner, IsShape}
use Rattle.bd_node.proofs.Edges.{IsRisingEdge}
use Rattle.bd_node.proofs.Lookup.{count-cons_other}
use Rattle.bd_node.specs.Compaction.{IsLoose, IsLooseNode, IsCompacted}
use Rattle.bd_node.specs.Parts.{edges_of, buffer_of, end_at, IsEdgeAt}
use Rattle.bd_inner.proofs.CarvingOwned.{begins_front}
use Rattle.bd_node.proofs.Compacting.{few_wait, count_names, count_names-append, compacted_shape, compacted_level, compacted_meaning, compacted_size, compacted_times}
use Rattle.bd_inner.proofs.Exchanged.{at_place}
use Rattle.bd_inner.proofs.Moved.{each_at}
use Rattle.bd_inner.proofs.Named.{count_own}
use Rattle.bd_inner.proofs.Splitting.{end_before-front, EachEdge-front, EachEdge-back, rising}
use Rattle.bd_node.proofs.Parts.{edge_within, edge_here}
use Rattle.bd_cover.specs.declared.covering.Cover.{Cover}
use Rattle.bd_cover.specs.declared.covering.Cover.TheVariants.{Gone, Elsewhere}
use Rattle.bd_cover.specs.Covering.{Says, TouchesAll, Decides, IsCovered, decided_edge, IsRun, edges_after, joined, IsDecided}
use Rattle.bd_cover.proofs.Covers.{all_common}
use Rattle.bd_cover.proofs.Joins.{AreUndone, run_undone, all_of_run, run_rising, HasAsUndone, joined_has}

-- ---- messages of a node

pub message_of : (n : Node) (at : ℕ) (m : Message) → IsShape n → slice_get (buffer_of n) at ≡ Some m → IsMessage m
message_of (Leaf entries) at m shape there = absurd (none-some m there)
message_of (Inner level es buffer) at m shape there =
    each_at IsMessage buffer at m shape.messages (slice_get_within buffer at m there) (sym (get_or_from_slice_get buffer at m m there))

pub message_low : (n : Node) (at : ℕ) (m : Message) → IsShape n → slice_get (buffer_of n) at ≡ Some m → at + 1 < 2 ^ 32
message_low (Leaf entries) at m shape there = absurd (none-some m there)
message_low (Inner level es buffer) at m shape there = omega (arith, slice_get_within buffer at m there, few_wait level es buffer shape)

-- ---- the edge

begun_length : (p k : List ℕ) → begins k p ≡ true → length p ≤ length k
begun_length p k begun = omega (arith, ap (λ (l : List ℕ). length l) (begins-is k p begun), length-append p (rest p k))

decided_own : (count at : ℕ) (e : Edge) (hi : Option (List ℕ)) (cover : Cover) (m : Message) → length e.pivot ≤ key_limit → IsBelowEnd e.pivot hi → IsMessage m → at < count → Says cover m → TouchesAll m e.pivot hi → IsEdge count (decided_edge e at m) hi
decided_own count at e hi Gone (Put key value) short below message low says all = absurd says
decided_own count at e hi Gone (Del key) short below message low says all = absurd says
decided_own count at e hi Gone (Patch key off bytes) short below message low says all = absurd says
decided_own count at e hi Gone (Cut prefix from) short below message low says all = record {
  pivot = short;
  rising = below;
  lift = omega arith;
  common = λ k key range. refl;
  source = omega arith;
  child = refl;
  seen = omega arith;
}
decided_own count at e hi Gone (Goto prefix source child) short below message low says all = absurd says
decided_own count at e hi Elsewhere (Put key value) short below message low says all = absurd says
decided_own count at e hi Elsewhere (Del key) short below message low says all = absurd says
decided_own count at e hi Elsewhere (Patch key off bytes) short below message low says all = absurd says
decided_own count at e hi Elsewhere (Cut prefix from) short below message low says all = absurd says
decided_own count at e hi Elsewhere (Goto prefix source child) short below message low says all = record {
  pivot = short;
  rising = below;
  lift = begun_length prefix e.pivot all.first;
  common = subst (λ (p : List ℕ). IsCommon e.pivot hi p) (sym (begins_front prefix e.pivot all.first)) (all_common Elsewhere (Goto prefix source child) e.pivot hi tt all);
  source = message.1;
  child = (message.2, message.3);
  seen = omega arith;
}

decided_pivot : (e : Edge) (at : ℕ) (m : Message) → (decided_edge e at m).pivot ≡ e.pivot
decided_pivot e at (Put key value) = refl
decided_pivot e at (Del key) = refl
decided_pivot e at (Patch key off bytes) = refl
decided_pivot e at (Cut prefix from) = refl
decided_pivot e at (Goto prefix source child) = refl

-- ---- what it has

-- nothing of what was before is left by a message that leaves the same of all
past_decided : (below : NodesAt) (buffer : List Message) (n at : ℕ) (m : Message) (k : List ℕ) (v old : Option (List ℕ)) → n ≤ at → slice_get buffer at ≡ Some m → ((x : Option (List ℕ)) → act below m k x ≡ v)
    → acts below (drop (suc at) buffer) k v ≡ acts below (drop n buffer) k old
past_decided below [] n at m k v old low is same = absurd (none-some m is)
past_decided below (x ∷ xs) zero zero m k v old low is same =
    sym (ap (λ (y : Message). acts below xs k (act below y k old)) (same_Some x m is) ∙ ap (λ (w : Option (List ℕ)). acts below xs k w) (same old))
past_decided below (x ∷ xs) zero (suc at) m k v old low is same = past_decided below xs zero at m k v (act below x k old) (omega arith) is same
past_decided below (x ∷ xs) (suc n) zero m k v old low is same = absurd (omega arith)
past_decided below (x ∷ xs) (suc n) (suc at) m k v old low is same = past_decided below xs n at m k v old (omega arith) is same

decided_has : (below : NodesAt) (buffer : List Message) (at : ℕ) (cover : Cover) (e : Edge) (m : Message) (k : List ℕ) → e.seen ≤ at → slice_get buffer at ≡ Some m → Says cover m → touches m k ≡ true → edge_at below (decided_edge e at m) buffer k ≡ edge_at below e buffer k
decided_has below buffer at cover e (Put key value) k low is says touch = refl
decided_has below buffer at cover e (Del key) k low is says touch = refl
decided_has below buffer at cover e (Patch key off bytes) k low is says touch = refl
decided_has below buffer at cover e (Cut prefix from) k low is says touch =
    ap (λ (n : ℕ). acts below (drop n buffer) k None) (add-one at)
    ∙ past_decided below buffer e.seen at (Cut prefix from) k None (child_at below e.child (e.source ++ drop e.lift k)) low is (λ x. cond-true (is_cut prefix from k) None x touch)
decided_has below buffer at cover e (Goto prefix source child) k low is says touch =
    ap (λ (n : ℕ). acts below (drop n buffer) k (below child (source ++ rest prefix k))) (add-one at)
    ∙ past_decided below buffer e.seen at (Goto prefix source child) k (below child (source ++ rest prefix k)) (child_at below e.child (e.source ++ drop e.lift k)) low is (λ x. cond-true (begins k prefix) (below child (source ++ rest prefix k)) x touch)

-- what the message makes of one edge asks as it makes each other one ask
decided_alike : (below : NodesAt) (buffer : List Message) (at : ℕ) (cover : Cover) (e d : Edge) (m : Message) (k : List ℕ) → Says cover m → edge_at below (decided_edge e at m) buffer k ≡ edge_at below (decided_edge d at m) buffer k
decided_alike below buffer at Gone e d (Put key value) k says = absurd says
decided_alike below buffer at Gone e d (Del key) k says = absurd says
decided_alike below buffer at Gone e d (Patch key off bytes) k says = absurd says
decided_alike below buffer at Gone e d (Cut prefix from) k says = refl
decided_alike below buffer at Gone e d (Goto prefix source child) k says = absurd says
decided_alike below buffer at Elsewhere e d (Put key value) k says = absurd says
decided_alike below buffer at Elsewhere e d (Del key) k says = absurd says
decided_alike below buffer at Elsewhere e d (Patch key off bytes) k says = absurd says
decided_alike below buffer at Elsewhere e d (Cut prefix from) k says = absurd says
decided_alike below buffer at Elsewhere e d (Goto prefix source child) k says = refl

has_as_undone : (below : NodesAt) (buffer : List Message) (at : ℕ) (cover : Cover) (e : Edge) (m : Message) (k : List ℕ) → slice_get buffer at ≡ Some m → Says cover m → HasAsUndone below buffer at m (decided_edge e at m) k
has_as_undone below buffer at cover e m k there says = λ d low touch.
    decided_alike below buffer at cover e d m k says ∙ decided_has below buffer at cover d m k low there says touch

-- ---- one edge in place of several

-- a message of a node that decides all keys of an edge, and those after it that become one edge with it
pub record IsDeciding (cover : Cover) (n : Node) (place at count : ℕ) (e : Edge) (m : Message) : Type 0 where
  pub shape : IsShape n
  pub here : IsEdgeAt n place e
  pub there : slice_get (buffer_of n) at ≡ Some m
  pub decides : Decides cover at m e (end_at n place)
  pub run : IsRun (buffer_of n) at (edges_after n place) count

-- the edges before and after those that become one
pub record IsJoin (cover : Cover) (level : ℕ) (buffer : List Message) (at : ℕ) (m : Message) (e : Edge) (xs rs ys : List Edge) : Type 0 where
  pub shape : IsInner level (xs ++ e ∷ (rs ++ ys)) buffer
  pub there : slice_get buffer at ≡ Some m
  pub says : Says cover m
  pub undone : AreUndone at m (e ∷ rs) ys

pub whole_of : (es : List Edge) (place count : ℕ) (e : Edge) → slice_get es place ≡ Some e → es ≡ take place es ++ e ∷ (take count (drop (place + 1) es) ++ drop count (drop (place + 1) es))
whole_of es place count e here =
    (at_place es place e here).whole ∙ ap (λ (l : List Edge). take place es ++ e ∷ l) (sym (take-append-drop count (drop (place + 1) es)))

pub join_of : (cover : Cover) (level : ℕ) (es : List Edge) (buffer : List Message) (place at count : ℕ) (e : Edge) (m : Message) → IsDeciding cover (Inner level es buffer) place at count e m
    → IsJoin cover level buffer at m e (take place es) (take count (drop (place + 1) es)) (drop count (drop (place + 1) es))
join_of cover level es buffer place at count e m h = record {
  shape = subst (λ (l : List Edge). IsInner level l buffer) (whole_of es place count e h.here) h.shape;
  there = h.there;
  says = h.decides.1;
  undone = (
    (h.decides.0, subst (λ (l : List Edge). TouchesAll m e.pivot (end_before l)) (sym (take-append-drop count (drop (place + 1) es))) h.decides.2),
    run_undone buffer at m (drop (place + 1) es) count h.there h.run,
  );
}

join_each : (cover : Cover) (level : ℕ) (buffer : List Message) (at : ℕ) (m : Message) (e : Edge) (xs rs ys : List Edge) → IsJoin cover level buffer at m e xs rs ys → EachEdge (IsEdge (length buffer)) (e ∷ (rs ++ ys))
join_each cover level buffer at m e xs rs ys h = EachEdge-back (IsEdge (length buffer)) xs (e ∷ (rs ++ ys)) h.shape.each

join_loose : (cover : Cover) (level : ℕ) (buffer : List Message) (at : ℕ) (m : Message) (e : Edge) (xs rs ys : List Edge) → IsJoin cover level buffer at m e xs rs ys → IsMessage m → IsLoose level (xs ++ decided_edge e at m ∷ ys) buffer
join_loose cover level buffer at m e xs rs ys h message =
    let f : Edge = decided_edge e at m in
    let own : EachEdge (IsEdge (length buffer)) (e ∷ (rs ++ ys)) = join_each cover level buffer at m e xs rs ys h in
    let same : f.pivot ≡ e.pivot = decided_pivot e at m in
    let fits : IsEdge (length buffer) f (end_before ys) =
    decided_own (length buffer) at e (end_before ys) cover m own.0.pivot (run_rising e rs ys (rising (length buffer) (e ∷ (rs ++ ys)) own)) message (slice_get_within buffer at m h.there) h.says (all_of_run at m e rs ys h.undone) in
    record {
      low = h.shape.low;
      high = h.shape.high;
      few = (let few : length (xs ++ e ∷ (rs ++ ys)) ≤ _ = h.shape.few in omega (arith, length-append xs (e ∷ (rs ++ ys)), length-append xs (f ∷ ys), length-append rs ys));
      first = end_before-front xs f e ys (rs ++ ys) same ∙ h.shape.first;
      each = EachEdge-front (IsEdge (length buffer)) xs e f (rs ++ ys) ys (sym same) h.shape.each (fits, EachEdge-back (IsEdge (length buffer)) rs ys own.1);
      messages = h.shape.messages;
      size = h.shape.size;
    }

join_meaning : (below : NodesAt) (cover : Cover) (level : ℕ) (buffer : List Message) (at : ℕ) (m : Message) (e : Edge) (xs rs ys : List Edge) → IsJoin cover level buffer at m e xs rs ys → IsMessage m → (k : List ℕ) → IsKey k
    → node_at below (Inner level (xs ++ decided_edge e at m ∷ ys) buffer) k ≡ node_at below (Inner level (xs ++ e ∷ (rs ++ ys)) buffer) k
join_meaning below cover level buffer at m e xs rs ys h message k key =
    let f : Edge = decided_edge e at m in
    let loose : IsLoose level (xs ++ f ∷ ys) buffer = join_loose cover level buffer at m e xs rs ys h message in
    let old : EachEdge IsRisingEdge (xs ++ e ∷ (rs ++ ys)) = rising (length buffer) (xs ++ e ∷ (rs ++ ys)) h.shape.each in
    joined_has below buffer at m f e xs rs ys k (has_as_undone below buffer at cover e m k h.there h.says) (decided_pivot e at m) key h.undone old (rising (length buffer) (xs ++ f ∷ ys) loose.each)
    (EachEdge-back IsRisingEdge xs (e ∷ (rs ++ ys)) old) h.shape.first

-- ---- the node

-- the node with the edge, without the messages that are then pending for no edge
abbrev pub IsInto : Node → ℕ → ℕ → ℕ → Edge → Message → Node → Type 0
IsInto n place at count e m made = IsCompacted (joined n place count (decided_edge e at m)) made

pub joined_loose : (cover : Cover) (n : Node) (place at count : ℕ) (e : Edge) (m : Message) → IsDeciding cover n place at count e m → IsLooseNode (joined n place count (decided_edge e at m))
joined_loose cover (Leaf entries) place at count e m h = absurd (none-some e h.here)
joined_loose cover (Inner level es buffer) place at count e m h =
    join_loose cover level buffer at m e (take place es) (take count (drop (place + 1) es)) (drop count (drop (place + 1) es)) (join_of cover level es buffer place at count e m h) (message_of (Inner level es buffer) at m h.shape h.there)

pub made_shape : (cover : Cover) (n : Node) (place at count : ℕ) (e : Edge) (m : Message) (made : Node) → IsDeciding cover n place at count e m → IsInto n place at count e m made → IsShape made
made_shape cover n place at count e m made h into =
    compacted_shape (joined n place count (decided_edge e at m)) made (joined_loose cover n place at count e m h) into

level_joined : (n : Node) (place count : ℕ) (f : Edge) → level_of (joined n place count f) ≡ level_of n
level_joined (Leaf entries) place count f = refl
level_joined (Inner level es buffer) place count f = refl

pub made_level : (n : Node) (place at count : ℕ) (e : Edge) (m : Message) (made : Node) → IsInto n place at count e m made → level_of made ≡ level_of n
made_level n place at count e m made into =
    compacted_level (joined n place count (decided_edge e at m)) made into ∙ level_joined n place count (decided_edge e at m)

joined_meaning : (below : NodesAt) (cover : Cover) (n : Node) (place at count : ℕ) (e : Edge) (m : Message) → IsDeciding cover n place at count e m → (k : List ℕ) → IsKey k → node_at below (joined n place count (decided_edge e at m)) k ≡ node_at below n k
joined_meaning below cover (Leaf entries) place at count e m h k key = absurd (none-some e h.here)
joined_meaning below cover (Inner level es buffer) place at count e m h k key =
    join_meaning below cover level buffer at m e (take place es) (take count (drop (place + 1) es)) (drop count (drop (place + 1) es)) (join_of cover level es buffer place at count e m h) (message_of (Inner level es buffer) at m h.shape h.there) k key
    ∙ ap (λ (l : List Edge). node_at below (Inner level l buffer) k) (sym (whole_of es place count e h.here))

pub made_meaning : (below : NodesAt) (cover : Cover) (n : Node) (place at count : ℕ) (e : Edge) (m : Message) (made : Node) → IsDeciding cover n place at count e m → IsInto n place at count e m made → (k : List ℕ) → IsKey k → node_at below made k ≡ node_at below n k
made_meaning below cover n place at count e m made h into k key =
    compacted_meaning below (joined n place count (decided_edge e at m)) made (joined_loose cover n place at count e m h) into k
    ∙ joined_meaning below cover n place at count e m h k key

size_joined : (n : Node) (place count : ℕ) (f : Edge) → buffer_size (joined n place count f) ≡ buffer_size n
size_joined (Leaf entries) place count f = refl
size_joined (Inner level es buffer) place count f = refl

pub made_size : (n : Node) (place at count : ℕ) (e : Edge) (m : Message) (made : Node) → IsInto n place at count e m made → buffer_size made ≤ buffer_size n
made_size n place at count e m made into =
    omega (arith, compacted_size (joined n place count (decided_edge e at m)) made into, size_joined n place count (decided_edge e at m))

-- ---- the nodes that it names

goto_named : (buffer : List Message) (at : ℕ) (p s : List ℕ) (child : ℕ) → slice_get buffer at ≡ Some (Goto p s child) → 1 ≤ count_names child (flat_map message_names buffer)
goto_named [] at p s child is = absurd (none-some (Goto p s child) is)
goto_named (m ∷ ms) zero p s child is =
    let own : count_names child (message_names m) ≡ 1 = ap (λ (x : Message). count_names child (message_names x)) (same_Some m (Goto p s child) is) ∙ count_own child in
    omega (arith, count_names-append child (message_names m) (flat_map message_names ms))
goto_named (m ∷ ms) (suc at) p s child is =
    let more : 1 ≤ count_names child (flat_map message_names ms) = goto_named ms at p s child is in
    omega (arith, count_names-append child (message_names m) (flat_map message_names ms))

goto_times : (n : Node) (at : ℕ) (p s : List ℕ) (child : ℕ) → slice_get (buffer_of n) at ≡ Some (Goto p s child) → 1 ≤ times n child
goto_times (Leaf entries) at p s child is = absurd (none-some (Goto p s child) is)
goto_times (Inner level es buffer) at p s child is =
    omega (arith, goto_named buffer at p s child is, count_names-append child (flat_map edge_names es) (flat_map message_names buffer))

-- the edge names what the node names
edge_named : (cover : Cover) (n : Node) (at : ℕ) (e : Edge) (m : Message) (x : ℕ) → Says cover m → slice_get (buffer_of n) at ≡ Some m → 1 ≤ count_names x (edge_names (decided_edge e at m)) → 1 ≤ times n x
edge_named Gone n at e (Put key value) x says there one = absurd says
edge_named Gone n at e (Del key) x says there one = absurd says
edge_named Gone n at e (Patch key off bytes) x says there one = absurd says
edge_named Gone n at e (Cut prefix from) x says there one = absurd (omega arith)
edge_named Gone n at e (Goto prefix source child) x says there one = absurd says
edge_named Elsewhere n at e (Put key value) x says there one = absurd says
edge_named Elsewhere n at e (Del key) x says there one = absurd says
edge_named Elsewhere n at e (Patch key off bytes) x says there one = absurd says
edge_named Elsewhere n at e (Cut prefix from) x says there one = absurd says
edge_named Elsewhere n at e (Goto prefix source child) x says there one =
    elim (cases_eq child x) [
      | inl same ↦ subst (λ (i : ℕ). 1 ≤ times n i) same (goto_times n at prefix source child there)
      | inr other ↦ (let none : count_names x (child ∷ []) ≡ 0 = count-cons_other child x [] other in absurd (omega arith))
    ]

-- how often edges name a node
abbrev edges_name : ℕ → List Edge → ℕ
edges_name x es = count_names x (flat_map edge_names es)

edges_name-append : (x : ℕ) (es fs : List Edge) → edges_name x (es ++ fs) ≡ edges_name x es + edges_name x fs
edges_name-append x es fs = ap (count_names x) (flat_map-append edge_names es fs) ∙ count_names-append x (flat_map edge_names es) (flat_map edge_names fs)

pub join_times : (level : ℕ) (buffer : List Message) (e f : Edge) (xs rs ys : List Edge) (x : ℕ) → times (Inner level (xs ++ f ∷ ys) buffer) x ≤ times (Inner level (xs ++ e ∷ (rs ++ ys)) buffer) x + count_names x (edge_names f)
join_times level buffer e f xs rs ys x =
    omega (
      arith,
      count_names-append x (flat_map edge_names (xs ++ f ∷ ys)) (flat_map message_names buffer),
      count_names-append x (flat_map edge_names (xs ++ e ∷ (rs ++ ys))) (flat_map message_names buffer),
      edges_name-append x xs (f ∷ ys),
      edges_name-append x xs (e ∷ (rs ++ ys)),
      count_names-append x (edge_names f) (flat_map edge_names ys),
      count_names-append x (edge_names e) (flat_map edge_names (rs ++ ys)),
      edges_name-append x rs ys,
    )

joined_times : (n : Node) (place count : ℕ) (e f : Edge) (x : ℕ) → IsEdgeAt n place e → times (joined n place count f) x ≤ times n x + count_names x (edge_names f)
joined_times (Leaf entries) place count e f x here = absurd (none-some e here)
joined_times (Inner level es buffer) place count e f x here =
    let rs : List Edge = take count (drop (place + 1) es) in
    let ys : List Edge = drop count (drop (place + 1) es) in
    let whole : times (Inner level es buffer) x ≡ times (Inner level (take place es ++ e ∷ (rs ++ ys)) buffer) x = ap (λ (l : List Edge). times (Inner level l buffer) x) (whole_of es place count e here) in
    omega (arith, whole, join_times level buffer e f (take place es) rs ys x)

pub made_named : (cover : Cover) (n : Node) (place at count : ℕ) (e : Edge) (m : Message) (made : Node) → IsDeciding cover n place at count e m → IsInto n place at count e m made → (x : ℕ) → 1 ≤ times made x → 1 ≤ times n x
made_named cover n place at count e m made h into x one =
    let f : Edge = decided_edge e at m in
    let less : times made x ≤ times (joined n place count f) x = compacted_times (joined n place count f) made into x in
    let more : times (joined n place count f) x ≤ times n x + count_names x (edge_names f) = joined_times n place count e f x h.here in
    elim (cases_eq (count_names x (edge_names f)) 0) [
      | inl none ↦ omega arith
      | inr some ↦ edge_named cover n at e m x h.decides.1 h.there (omega arith)
    ]

-- ---- as they are read

-- an edge and a message of a node
pub record IsReadAt (n : Node) (place at : ℕ) (es : List Edge) (bs : List Message) (e : Edge) (m : Message) : Type 0 where
  pub shape : IsShape n
  pub cover : Cover
  pub covered : IsCovered cover n place at
  pub edges : es ≡ edges_of n
  pub edge : e ≡ get_or es place e
  pub messages : bs ≡ buffer_of n
  pub message : m ≡ get_or bs at m

pub read_at : (n : Node) (place at : ℕ) (es : List Edge) (bs : List Message) (e : Edge) (m : Message) → IsShape n → (cover : Cover) × IsCovered cover n place at → es ≡ edges_of n → e ≡ get_or es place e → bs ≡ buffer_of n → m ≡ get_or bs at m → IsReadAt n place at es bs e m
read_at n place at es bs e m shape covered edges edge messages message = record {
  shape = shape;
  cover = covered.0;
  covered = covered.1;
  edges = edges;
  edge = edge;
  messages = messages;
  message = message;
}

pub read_place : (n : Node) (place at : ℕ) (es : List Edge) (bs : List Message) (e : Edge) (m : Message) → IsReadAt n place at es bs e m → place < length (edges_of n)
read_place n place at es bs e m h = edge_within n place h.covered.edge h.covered.here

after_rising : (n : Node) (place : ℕ) (e : Edge) → IsShape n → IsEdgeAt n place e → AreRising (edges_after n place)
after_rising (Leaf entries) place e shape here = absurd (none-some e here)
after_rising (Inner level es buffer) place e shape here =
    (EachEdge-back IsRisingEdge (take place es) (e ∷ drop (place + 1) es) (subst (λ (l : List Edge). EachEdge IsRisingEdge l) (at_place es place e here).whole (rising (length buffer) es shape.each))).1

read_edge : (n : Node) (place at : ℕ) (es : List Edge) (bs : List Message) (e : Edge) (m : Message) → IsReadAt n place at es bs e m → IsEdgeAt n place e
read_edge n place at es bs e m h = edge_here es n place e h.edges (read_place n place at es bs e m h) h.edge

pub read_message : (n : Node) (place at : ℕ) (es : List Edge) (bs : List Message) (e : Edge) (m : Message) → IsReadAt n place at es bs e m → slice_get (buffer_of n) at ≡ Some m
read_message n place at es bs e m h =
    let own : m ≡ h.covered.message = h.message ∙ ap (λ (l : List Message). get_or l at m) h.messages ∙ get_or_from_slice_get (buffer_of n) at h.covered.message m h.covered.there in
    h.covered.there ∙ ap (λ (x : Message). Some x) (sym own)

read_deciding : (n : Node) (place at count : ℕ) (es : List Edge) (bs : List Message) (e : Edge) (m : Message) → (h : IsReadAt n place at es bs e m) → IsRun bs at (drop (place + 1) es) count → IsDeciding h.cover n place at count e m
read_deciding n place at count es bs e m h run =
    let c = h.covered in
    let own : c.edge ≡ e = same_Some c.edge e (sym c.here ∙ read_edge n place at es bs e m h) in
    let that : c.message ≡ m = same_Some c.message m (sym c.there ∙ read_message n place at es bs e m h) in
    record {
      shape = h.shape;
      here = read_edge n place at es bs e m h;
      there = read_message n place at es bs e m h;
      decides = subst (λ (x : Message). Decides h.cover at x e (end_at n place)) that (subst (λ (x : Edge). Decides h.cover at c.message x (end_at n place)) own c.decides);
      run = subst (λ (l : List Message). IsRun l at (edges_after n place) count) h.messages (subst (λ (l : List Edge). IsRun bs at (drop (place + 1) l) count) h.edges run);
    }

pub read_rising : (n : Node) (place at : ℕ) (es : List Edge) (bs : List Message) (e : Edge) (m : Message) → IsReadAt n place at es bs e m → AreRising (drop (place + 1) es)
read_rising n place at es bs e m h = subst (λ (l : List Edge). AreRising (drop (place + 1) l)) (sym h.edges) (after_rising n place e h.shape (read_edge n place at es bs e m h))

pub read_low : (n : Node) (place at : ℕ) (es : List Edge) (bs : List Message) (e : Edge) (m : Message) → IsReadAt n place at es bs e m → place + 1 ≤ length es
read_low n place at es bs e m h = omega (arith, read_place n place at es bs e m h, ap (λ (l : List Edge). length l) h.edges)

pub few_edges : (n : Node) → IsShape n → length (edges_of n) ≤ edge_limit
few_edges (Leaf entries) h = omega arith
few_edges (Inner level es buffer) h = h.few

pub read_few : (n : Node) (place at : ℕ) (es : List Edge) (bs : List Message) (e : Edge) (m : Message) → IsReadAt n place at es bs e m → place + 1 ≤ edge_limit
read_few n place at es bs e m h =
    omega (arith, read_place n place at es bs e m h, few_edges n h.shape)

pub read_loose : (n : Node) (place at count : ℕ) (es : List Edge) (bs : List Message) (e f : Edge) (m : Message) → IsReadAt n place at es bs e m → IsRun bs at (drop (place + 1) es) count → f ≡ decided_edge e at m → IsLooseNode (joined n place count f)
read_loose n place at count es bs e f m h run is =
    subst (λ (x : Edge). IsLooseNode (joined n place count x)) (sym is) (joined_loose h.cover n place at count e m (read_deciding n place at count es bs e m h run))

pub on_decided : {E : Type 0} (n : Node) (place at count : ℕ) (es : List Edge) (bs : List Message) (e f : Edge) (m : Message) (r : Result Node E) → IsReadAt n place at es bs e m → IsRun bs at (drop (place + 1) es) count → f ≡ decided_edge e at m → IfOk r (IsCompacted (joined n place count f)) → IfOk r (IsDecided n place at)
on_decided n place at count es bs e f m (Ok made) h run is into =
    let all = read_deciding n place at count es bs e m h run in
    record {
      edge = e;
      here = all.here;
      message = m;
      there = all.there;
      count = count;
      run = all.run;
      into = subst (λ (x : Edge). IsCompacted (joined n place count x) made) is into;
    }
on_decided n place at count es bs e f m (Err x) h run is into = tt
