-- Nodes whose long sources were looked through.
use Rattle.std.proofs.Common.{◌≡◌, ℕ, zero, suc, ◌+◌, ◌^◌, ◌<◌, ◌≤◌, Bool, true, false, cond, List, [], ◌∷◌, ◌++◌, length, take, drop, get_or, refl, sym, ap, subst, ◌∙◌, Option, None, Some, arith, inl, inr}
use Rattle.std.specs.List.{AllByRecursion, AllZip, flat_map, sum_by}
use Rattle.std.specs.Option.{option_to_list}
use Rattle.std.proofs.lemmas.Bool.{cases_lt}
use Rattle.std.proofs.lemmas.List.Elements.{all_zip_more}
use Rattle.std.proofs.lemmas.List.Sums.{sum_by-cons, sum_by_more, sum_by-take-le}
use Rattle.std.proofs.lemmas.Slice.Zip.{AllZip-long}
use Rattle.std.specs.Ordering.{is_lt}
use Rattle.bd_limits.specs.Limits.{key_limit, buffer_limit, edge_limit}
use Rattle.bd_keys.specs.Keys.{key_cmp, IsKey}
use Rattle.bd_keys.proofs.Order.{IsKey-drop}
use Rattle.bd_message.specs.declared.message.Message.{Message}
use Rattle.bd_message.specs.declared.message.Message.TheVariants.{Put, Del, Patch, Cut, Goto}
use Rattle.bd_message.specs.Messages.{IsMessage, size}
use Rattle.bd_message.specs.Effect.{begins, rest, act, acts}
use Rattle.bd_message.proofs.Prefixes.{is_cut-all}
use Rattle.bd_node.specs.declared.node.Edge.{Edge}
use Rattle.bd_node.specs.declared.node.Node.{Node}
use Rattle.bd_node.specs.declared.node.Node.TheVariants.{Inner}
use Rattle.bd_node.specs.Nodes.{message_names, edge_names, names, edge_from, child_at, edge_at, node_at}
use Rattle.bd_node.specs.Meaning.{Nodes, at}
use Rattle.bd_node.specs.Shape.{end_before, EachEdge, IsChild, IsEdge}
use Rattle.bd_node.specs.Tables.{Table, IsTable, IsLower, IsSound}
use Rattle.bd_node.proofs.Lookup.{each_first, each_second, each_both}
use Rattle.bd_inner.specs.Clipping.{IsLongEdge, IsLongMessage, IsLong}
use Rattle.bd_node.specs.Compaction.{IsLoose}
use Rattle.bd_resolve.specs.declared.following.Target.{Target}
use Rattle.bd_resolve.specs.Following.{target_at, IsLowerTarget, IsShort, target_level, target_of}
use Rattle.bd_copy.specs.Shortening.{edge_way, goto_way, IsKeptTarget, IsShortWay, target_child, target_source, sent_edge, IsShortEdge, IsSameEdge, sent_keys, IsShortMessage, IsSameMessage, CanShorten, IsShortened}

-- ---- what stands at a key

acts_dropped_same : (nodes : Nodes) (n : ℕ) (ms ns : List Message) (k : List ℕ) → AllZip (IsSameMessage nodes) ms ns → IsKey k → (old : Option (List ℕ)) → acts (at nodes) (drop n ns) k old ≡ acts (at nodes) (drop n ms) k old
acts_dropped_same nodes zero [] [] k h key old = refl
acts_dropped_same nodes zero [] (y ∷ ns) k h key old = absurd h
acts_dropped_same nodes zero (m ∷ ms) [] k h key old = absurd h
acts_dropped_same nodes zero (m ∷ ms) (y ∷ ns) k h key old =
    ap (λ (v : Option (List ℕ)). acts (at nodes) ns k v) (h.0.does k key old)
    ∙ acts_dropped_same nodes zero ms ns k h.1 key (act (at nodes) m k old)
acts_dropped_same nodes (suc n) [] [] k h key old = refl
acts_dropped_same nodes (suc n) [] (y ∷ ns) k h key old = absurd h
acts_dropped_same nodes (suc n) (m ∷ ms) [] k h key old = absurd h
acts_dropped_same nodes (suc n) (m ∷ ms) (y ∷ ns) k h key old = acts_dropped_same nodes n ms ns k h.1 key old

edge_same : (nodes : Nodes) (e f : Edge) (ms ns : List Message) (k : List ℕ) → IsSameEdge nodes e f → AllZip (IsSameMessage nodes) ms ns → IsKey k → edge_at (at nodes) f ns k ≡ edge_at (at nodes) e ms k
edge_same nodes e f ms ns k h more key =
    ap (λ (s : ℕ). acts (at nodes) (drop s ns) k (child_at (at nodes) f.child (f.source ++ drop f.lift k))) h.seen
    ∙ ap (λ (l : ℕ). acts (at nodes) (drop e.seen ns) k (child_at (at nodes) f.child (f.source ++ drop l k))) h.lift
    ∙ ap (λ (v : Option (List ℕ)). acts (at nodes) (drop e.seen ns) k v) (h.has (drop e.lift k) (IsKey-drop e.lift k key))
    ∙ acts_dropped_same nodes e.seen ms ns k more key (child_at (at nodes) e.child (e.source ++ drop e.lift k))

either_same : (nodes : Nodes) (b : Bool) (e f d g : Edge) (ms ns : List Message) (k : List ℕ) → edge_at (at nodes) f ns k ≡ edge_at (at nodes) e ms k → edge_at (at nodes) g ns k ≡ edge_at (at nodes) d ms k → edge_at (at nodes) (cond b f g) ns k ≡ edge_at (at nodes) (cond b e d) ms k
either_same nodes true e f d g ms ns k h more = h
either_same nodes false e f d g ms ns k h more = more

edge_from_same : (nodes : Nodes) (e f : Edge) (es fs : List Edge) (ms ns : List Message) (k : List ℕ) → IsSameEdge nodes e f → AllZip (IsSameEdge nodes) es fs → AllZip (IsSameMessage nodes) ms ns → IsKey k → edge_at (at nodes) (edge_from f fs k) ns k ≡ edge_at (at nodes) (edge_from e es k) ms k
edge_from_same nodes e f [] [] ms ns k h others more key = edge_same nodes e f ms ns k h more key
edge_from_same nodes e f [] (g ∷ fs) ms ns k h others more key = absurd others
edge_from_same nodes e f (d ∷ es) [] ms ns k h others more key = absurd others
edge_from_same nodes e f (d ∷ es) (g ∷ fs) ms ns k h others more key =
    ap (λ (p : List ℕ). edge_at (at nodes) (cond (is_lt (key_cmp k p)) f (edge_from g fs k)) ns k) others.0.pivot
    ∙ either_same nodes (is_lt (key_cmp k d.pivot)) e f (edge_from d es k) (edge_from g fs k) ms ns k
    (edge_same nodes e f ms ns k h more key) (edge_from_same nodes d g es fs ms ns k others.0 others.1 more key)

pub parts_same : (nodes : Nodes) (level : ℕ) (es fs : List Edge) (ms ns : List Message) (k : List ℕ) → AllZip (IsSameEdge nodes) es fs → AllZip (IsSameMessage nodes) ms ns → IsKey k → node_at (at nodes) (Inner level fs ns) k ≡ node_at (at nodes) (Inner level es ms) k
parts_same nodes level [] [] ms ns k h more key = refl
parts_same nodes level [] (f ∷ fs) ms ns k h more key = absurd h
parts_same nodes level (e ∷ es) [] ms ns k h more key = absurd h
parts_same nodes level (e ∷ es) (f ∷ fs) ms ns k h more key = edge_from_same nodes e f es fs ms ns k h.0 h.1 more key

-- ---- edges to other targets

target_child_at : (nodes : Nodes) (target : Option Target) (k : List ℕ) → child_at (at nodes) (target_child target) (target_source target ++ k) ≡ target_at (at nodes) target k
target_child_at nodes None k = refl
target_child_at nodes (Some target) k = refl

sent_same : (nodes : Nodes) (e : Edge) (target : Option Target) → ((k : List ℕ) → IsKey k → target_at (at nodes) target k ≡ child_at (at nodes) e.child (e.source ++ k)) → IsSameEdge nodes e (sent_edge e target)
sent_same nodes e target h = record {
  pivot = refl;
  lift = refl;
  seen = refl;
  has = λ k key. target_child_at nodes target k ∙ h k key;
}

pub edge_to_target : (nodes : Nodes) (e f : Edge) (target : Option Target) (c : ℕ) → e.child ≡ Some c → f ≡ sent_edge e target → ((k : List ℕ) → IsKey k → target_at (at nodes) target k ≡ at nodes c (e.source ++ k)) → IsSameEdge nodes e f
edge_to_target nodes e f target c child is h =
    subst (λ (d : Edge). IsSameEdge nodes e d) (sym is)
    (sent_same nodes e target (λ k key. h k key ∙ sym (ap (λ (o : Option ℕ). child_at (at nodes) o (e.source ++ k)) child)))

pub edge_to_nothing : (nodes : Nodes) (e f : Edge) → e.child ≡ None → f ≡ sent_edge e None → IsSameEdge nodes e f
edge_to_nothing nodes e f child is =
    subst (λ (d : Edge). IsSameEdge nodes e d) (sym is)
    (sent_same nodes e None (λ k key. sym (ap (λ (o : Option ℕ). child_at (at nodes) o (e.source ++ k)) child)))

-- ---- messages to other targets

sent_does : (nodes : Nodes) (prefix source : List ℕ) (c : ℕ) (target : Option Target) → ((k : List ℕ) → IsKey k → target_at (at nodes) target k ≡ at nodes c (source ++ k)) → IsSameMessage nodes (Goto prefix source c) (sent_keys prefix target)
sent_does nodes prefix source c None h = record {
  does = λ k key old.
      ap (λ (b : Bool). cond b None old) (is_cut-all prefix k)
      ∙ ap (λ (v : Option (List ℕ)). cond (begins k prefix) v old) (h (rest prefix k) (IsKey-drop (length prefix) k key));
}
sent_does nodes prefix source c (Some target) h = record {
  does = λ k key old. ap (λ (v : Option (List ℕ)). cond (begins k prefix) v old) (h (rest prefix k) (IsKey-drop (length prefix) k key));
}

pub goto_to_target : (nodes : Nodes) (m n : Message) (prefix source : List ℕ) (c : ℕ) (target : Option Target) → m ≡ Goto prefix source c → n ≡ sent_keys prefix target → ((k : List ℕ) → IsKey k → target_at (at nodes) target k ≡ at nodes c (source ++ k)) → IsSameMessage nodes m n
goto_to_target nodes m n prefix source c target m_is n_is h =
    subst (λ (x : Message). IsSameMessage nodes x n) (sym m_is)
    (subst (λ (x : Message). IsSameMessage nodes (Goto prefix source c) x) (sym n_is) (sent_does nodes prefix source c target h))

pub itself_same : (nodes : Nodes) (m n : Message) → n ≡ m → IsSameMessage nodes m n
itself_same nodes m n is = record { does = λ k key old. ap (λ (x : Message). act (at nodes) x k old) is }

-- ---- targets of lower nodes

lower_way : (t : Table) (level : ℕ) (old new : Option Target) → IsShortWay t old new → IsLowerTarget t level old → IsLowerTarget t level new
lower_way t level None new h low = subst (λ (o : Option Target). IsLowerTarget t level o) (sym (h.stays tt)) tt
lower_way t level (Some a) None h low = tt
lower_way t level (Some a) (Some b) h low = record {
  kept = h.lower.kept;
  lower = (let most : t.level b.child < t.level a.child + 1 = h.lower.lower in let less : t.level a.child < level = low.lower in omega arith);
}

pub option_lower : (t : Table) (level : ℕ) (child : Option ℕ) (source : List ℕ) → AllByRecursion (IsLower t level) (option_to_list child) → IsLowerTarget t level (target_of child source)
option_lower t level None source h = tt
option_lower t level (Some c) source h = h.0

target_names : (t : Table) (level : ℕ) (target : Option Target) → IsLowerTarget t level target → AllByRecursion (IsLower t level) (option_to_list (target_child target))
target_names t level None h = tt
target_names t level (Some target) h = (h, tt)

kept_target : (t : Table) (level : ℕ) (target : Option Target) → IsLowerTarget t level target → IsKeptTarget t target
kept_target t level None h = tt
kept_target t level (Some target) h = h.kept

pub goto_lower : (t : Table) (level : ℕ) (m : Message) → AllByRecursion (IsLower t level) (message_names m) → IsLowerTarget t level (goto_way m)
goto_lower t level (Put key value) h = tt
goto_lower t level (Del key) h = tt
goto_lower t level (Patch key off bytes) h = tt
goto_lower t level (Cut prefix from) h = tt
goto_lower t level (Goto prefix source child) h = h.0

pub kept_edges : (t : Table) (level : ℕ) (es : List Edge) → AllByRecursion (IsLower t level) (flat_map edge_names es) → AllByRecursion (λ (e : Edge). IsKeptTarget t (edge_way e)) es
kept_edges t level [] h = tt
kept_edges t level (e ∷ es) h = (
  kept_target t level (edge_way e) (option_lower t level e.child e.source (each_first (IsLower t level) (edge_names e) (flat_map edge_names es) h)),
  kept_edges t level es (each_second (IsLower t level) (edge_names e) (flat_map edge_names es) h),
)

pub kept_messages : (t : Table) (level : ℕ) (ms : List Message) → AllByRecursion (IsLower t level) (flat_map message_names ms) → AllByRecursion (λ (m : Message). IsKeptTarget t (goto_way m)) ms
kept_messages t level [] h = tt
kept_messages t level (m ∷ ms) h = (
  kept_target t level (goto_way m) (goto_lower t level m (each_first (IsLower t level) (message_names m) (flat_map message_names ms) h)),
  kept_messages t level ms (each_second (IsLower t level) (message_names m) (flat_map message_names ms) h),
)

-- ---- the names of the new node

edge_names_lower : (t : Table) (level : ℕ) (e f : Edge) → IsShortEdge t e f → AllByRecursion (IsLower t level) (edge_names e) → AllByRecursion (IsLower t level) (edge_names f)
edge_names_lower t level e f h low =
    subst (λ (d : Edge). AllByRecursion (IsLower t level) (edge_names d)) (sym h.edge_is)
    (target_names t level h.target (lower_way t level (edge_way e) h.target h.way (option_lower t level e.child e.source low)))

edges_lower : (t : Table) (level : ℕ) (es fs : List Edge) → AllZip (IsShortEdge t) es fs → AllByRecursion (IsLower t level) (flat_map edge_names es) → AllByRecursion (IsLower t level) (flat_map edge_names fs)
edges_lower t level [] [] h low = tt
edges_lower t level [] (f ∷ fs) h low = absurd h
edges_lower t level (e ∷ es) [] h low = absurd h
edges_lower t level (e ∷ es) (f ∷ fs) h low =
    each_both (IsLower t level) (edge_names f) (flat_map edge_names fs)
    (edge_names_lower t level e f h.0 (each_first (IsLower t level) (edge_names e) (flat_map edge_names es) low))
    (edges_lower t level es fs h.1 (each_second (IsLower t level) (edge_names e) (flat_map edge_names es) low))

sent_names : (t : Table) (level : ℕ) (prefix : List ℕ) (target : Option Target) → IsLowerTarget t level target → AllByRecursion (IsLower t level) (message_names (sent_keys prefix target))
sent_names t level prefix None h = tt
sent_names t level prefix (Some target) h = (h, tt)

message_names_lower : (t : Table) (level : ℕ) (m n : Message) → IsShortMessage t m n → AllByRecursion (IsLower t level) (message_names m) → AllByRecursion (IsLower t level) (message_names n)
message_names_lower t level (Put key value) n h low = subst (λ (x : Message). AllByRecursion (IsLower t level) (message_names x)) (sym h) low
message_names_lower t level (Del key) n h low = subst (λ (x : Message). AllByRecursion (IsLower t level) (message_names x)) (sym h) low
message_names_lower t level (Patch key off bytes) n h low = subst (λ (x : Message). AllByRecursion (IsLower t level) (message_names x)) (sym h) low
message_names_lower t level (Cut prefix from) n h low = subst (λ (x : Message). AllByRecursion (IsLower t level) (message_names x)) (sym h) low
message_names_lower t level (Goto prefix source child) n h low =
    subst (λ (x : Message). AllByRecursion (IsLower t level) (message_names x)) (sym h.message_is)
    (sent_names t level prefix h.target (lower_way t level (target_of (Some child) source) h.target h.way low.0))

messages_lower : (t : Table) (level : ℕ) (ms ns : List Message) → AllZip (IsShortMessage t) ms ns → AllByRecursion (IsLower t level) (flat_map message_names ms) → AllByRecursion (IsLower t level) (flat_map message_names ns)
messages_lower t level [] [] h low = tt
messages_lower t level [] (n ∷ ns) h low = absurd h
messages_lower t level (m ∷ ms) [] h low = absurd h
messages_lower t level (m ∷ ms) (n ∷ ns) h low =
    each_both (IsLower t level) (message_names n) (flat_map message_names ns)
    (message_names_lower t level m n h.0 (each_first (IsLower t level) (message_names m) (flat_map message_names ms) low))
    (messages_lower t level ms ns h.1 (each_second (IsLower t level) (message_names m) (flat_map message_names ms) low))

pub names_lower : (t : Table) (level : ℕ) (es fs : List Edge) (ms ns : List Message) → AllZip (IsShortEdge t) es fs → AllZip (IsShortMessage t) ms ns → AllByRecursion (IsLower t level) (names (Inner level es ms)) → AllByRecursion (IsLower t level) (names (Inner level fs ns))
names_lower t level es fs ms ns h more low =
    each_both (IsLower t level) (flat_map edge_names fs) (flat_map message_names ns)
    (edges_lower t level es fs h (each_first (IsLower t level) (flat_map edge_names es) (flat_map message_names ms) low))
    (messages_lower t level ms ns more (each_second (IsLower t level) (flat_map edge_names es) (flat_map message_names ms) low))

-- ---- its shape

-- ids of kept nodes are numbers that can be stored
pub record HasIds (t : Table) : Type 0 where
  pub table : IsTable t
  pub next : t.next < 2 ^ 64

sent_child : (t : Table) (level : ℕ) (target : Option Target) → HasIds t → IsLowerTarget t level target → IsChild (target_child target) (target_source target)
sent_child t level None ids h = refl
sent_child t level (Some target) ids h = (
  ids.table.low target.child h.kept,
  (let below : target.child < t.next = ids.table.below target.child h.kept in let next : t.next < 2 ^ 64 = ids.next in omega arith),
)

short_source : (target : Option Target) → IsShort target → length (target_source target) ≤ key_limit
short_source None h = omega arith
short_source (Some target) h = h

edge_short : (t : Table) (b : ℕ) (e f : Edge) (hi : Option (List ℕ)) → HasIds t → IsShortEdge t e f → IsLongEdge b e hi → IsEdge b f hi
edge_short t b e f hi ids h own =
    subst (λ (d : Edge). IsEdge b d hi) (sym h.edge_is)
    (record {
      pivot = own.pivot;
      rising = own.rising;
      lift = own.lift;
      common = own.common;
      source = short_source h.target h.way.short;
      child = sent_child t (target_level t (edge_way e) + 1) h.target ids h.way.lower;
      seen = own.seen;
    })

end_same : (t : Table) (es fs : List Edge) → AllZip (IsShortEdge t) es fs → end_before fs ≡ end_before es
end_same t [] [] h = refl
end_same t [] (f ∷ fs) h = absurd h
end_same t (e ∷ es) [] h = absurd h
end_same t (e ∷ es) (f ∷ fs) h = ap (λ (d : Edge). Some d.pivot) h.0.edge_is

edges_short : (t : Table) (b : ℕ) (es fs : List Edge) → HasIds t → AllZip (IsShortEdge t) es fs → EachEdge (IsLongEdge b) es → EachEdge (IsEdge b) fs
edges_short t b [] [] ids h own = tt
edges_short t b [] (f ∷ fs) ids h own = absurd h
edges_short t b (e ∷ es) [] ids h own = absurd h
edges_short t b (e ∷ es) (f ∷ fs) ids h own = (
  subst (λ (hi : Option (List ℕ)). IsEdge b f hi) (sym (end_same t es fs h.1)) (edge_short t b e f (end_before es) ids h.0 own.0),
  edges_short t b es fs ids h.1 own.1,
)

sent_message : (t : Table) (level : ℕ) (prefix : List ℕ) (target : Option Target) → HasIds t → length prefix ≤ key_limit → IsShort target → IsLowerTarget t level target → IsMessage (sent_keys prefix target)
sent_message t level prefix None ids own short h = omega arith
sent_message t level prefix (Some target) ids own short h =
    let child = sent_child t level (Some target) ids h in (own, short, child.0, child.1)

message_short : (t : Table) (m n : Message) → HasIds t → IsShortMessage t m n → IsLongMessage m → IsMessage n
message_short t (Put key value) n ids h own = subst IsMessage (sym h) own
message_short t (Del key) n ids h own = subst IsMessage (sym h) own
message_short t (Patch key off bytes) n ids h own = subst IsMessage (sym h) own
message_short t (Cut prefix from) n ids h own = subst IsMessage (sym h) own
message_short t (Goto prefix source child) n ids h own =
    subst IsMessage (sym h.message_is)
    (sent_message t (target_level t (target_of (Some child) source) + 1) prefix h.target ids own.0 h.way.short h.way.lower)

messages_short : (t : Table) (ms ns : List Message) → HasIds t → AllZip (IsShortMessage t) ms ns → AllByRecursion IsLongMessage ms → AllByRecursion IsMessage ns
messages_short t [] [] ids h own = tt
messages_short t [] (n ∷ ns) ids h own = absurd h
messages_short t (m ∷ ms) [] ids h own = absurd h
messages_short t (m ∷ ms) (n ∷ ns) ids h own = (message_short t m n ids h.0 own.0, messages_short t ms ns ids h.1 own.1)

-- ---- its size

way_shorter : (t : Table) (source : List ℕ) (child : ℕ) (target : Option Target) → IsShortWay t (target_of (Some child) source) target → length (target_source target) ≤ length source
way_shorter t source child target h =
    let short : length (target_source target) ≤ key_limit = short_source target h.short in
    elim (cases_lt key_limit (length source)) [
      | inl many ↦ omega arith
      | inr few ↦ (let same : length (target_source target) ≡ length source = ap (λ (o : Option Target). length (target_source o)) (h.stays few) in omega arith)
    ]

sent_size : (prefix : List ℕ) (target : Option Target) → size (sent_keys prefix target) ≡ 16 + length prefix + length (target_source target)
sent_size prefix None = refl
sent_size prefix (Some target) = refl

message_size : (t : Table) (m n : Message) → IsShortMessage t m n → size n ≤ size m
message_size t (Put key value) n h = omega (arith, ap size h)
message_size t (Del key) n h = omega (arith, ap size h)
message_size t (Patch key off bytes) n h = omega (arith, ap size h)
message_size t (Cut prefix from) n h = omega (arith, ap size h)
message_size t (Goto prefix source child) n h =
    omega (arith, ap size h.message_is, sent_size prefix h.target, way_shorter t source child h.target h.way)

pub sizes_less : (t : Table) (ms ns : List Message) → AllZip (IsShortMessage t) ms ns → sum_by size ns ≤ sum_by size ms
sizes_less t [] [] h = omega arith
sizes_less t [] (n ∷ ns) h = absurd h
sizes_less t (m ∷ ms) [] h = absurd h
sizes_less t (m ∷ ms) (n ∷ ns) h =
    omega (arith, sum_by-cons size n ns, sum_by-cons size m ms, message_size t m n h.0, sizes_less t ms ns h.1)

pub parts_loose : (t : Table) (level : ℕ) (es fs : List Edge) (ms ns : List Message) → HasIds t → AllZip (IsShortEdge t) es fs → AllZip (IsShortMessage t) ms ns → IsLong level es ms → IsLoose level fs ns
parts_loose t level es fs ms ns ids h more own = record {
  low = own.low;
  high = own.high;
  few = (let same : length fs ≡ length es = AllZip-long (IsShortEdge t) es fs h in let few : length es ≤ edge_limit = own.few in omega arith);
  first = end_same t es fs h ∙ own.first;
  each = subst (λ (b : ℕ). EachEdge (IsEdge b) fs) (sym (AllZip-long (IsShortMessage t) ms ns more)) (edges_short t (length ms) es fs ids h own.each);
  messages = messages_short t ms ns ids more own.messages;
  size = (let few : sum_by size ms ≤ buffer_limit = own.size in omega (arith, sizes_less t ms ns more));
}

-- ---- the loops

pub zipped_more : {X : Type 0} (R : X → X → Type 0) (xs ys new : List X) (i : ℕ) (x y : X) → i < length xs → x ≡ get_or xs i x → new ≡ ys ++ (y ∷ []) → AllZip R (take i xs) ys → R x y → AllZip R (take (i + 1) xs) new
zipped_more {X} R xs ys new i x y low read is h own = subst (λ (l : List X). AllZip R (take (i + 1) xs) l) (sym is) (all_zip_more R xs ys i x y low read h own)

pub visits_more : {X : Type 0} (f : Table → X → ℕ) (t m : Table) (xs : List X) (i : ℕ) (x : X) (before mid now : ℕ) → m ≡ t → i < length xs → x ≡ get_or xs i x → mid ≤ before + sum_by (f t) (take i xs) → now ≤ mid + f m x → now ≤ before + sum_by (f t) (take (i + 1) xs)
visits_more f t m xs i x before mid now same low read h one =
    let own : f m x ≡ f t (get_or xs i x) = ap (λ u. f u x) same ∙ ap (f t) read in
    omega (arith, sum_by_more (f t) xs i x low)

pub visits_within : {X : Type 0} (f : Table → X → ℕ) (t m : Table) (xs : List X) (i : ℕ) (x : X) (before mid now : ℕ) → m ≡ t → i < length xs → x ≡ get_or xs i x → mid ≤ before + sum_by (f t) (take i xs) → now ≤ mid + f m x → now ≤ before + sum_by (f t) xs
visits_within f t m xs i x before mid now same low read h one =
    let more : now ≤ before + sum_by (f t) (take (i + 1) xs) = visits_more f t m xs i x before mid now same low read h one in
    omega (arith, sum_by-take-le (f t) xs (i + 1))

pub sound_again : (nodes mid : Nodes) (t m : Table) → mid ≡ nodes → m ≡ t → IsSound nodes t → IsSound mid m
sound_again nodes mid t m same table sound = subst (λ (f : Nodes). IsSound f m) (sym same) (subst (λ (u : Table). IsSound nodes u) (sym table) sound)

-- ---- the whole node

pub edges_kept : (t : Table) (n : Node) (level : ℕ) (es shown : List Edge) (ms : List Message) → n ≡ Inner level es ms → shown ≡ es → CanShorten t n → AllByRecursion (λ (e : Edge). IsKeptTarget t (edge_way e)) shown
edges_kept t n level es shown ms is same can =
    let own : CanShorten t (Inner level es ms) = subst (λ (m : Node). CanShorten t m) is can in
    subst (λ (l : List Edge). AllByRecursion (λ (e : Edge). IsKeptTarget t (edge_way e)) l) (sym same)
    (kept_edges t level es (each_first (IsLower t level) (flat_map edge_names es) (flat_map message_names ms) own.lower))

pub messages_kept : (t v : Table) (n : Node) (level : ℕ) (es : List Edge) (ms shown : List Message) → n ≡ Inner level es ms → shown ≡ ms → v ≡ t → CanShorten t n → AllByRecursion (λ (m : Message). IsKeptTarget v (goto_way m)) shown
messages_kept t v n level es ms shown is same table can =
    let own : CanShorten t (Inner level es ms) = subst (λ (m : Node). CanShorten t m) is can in
    subst (λ (u : Table). AllByRecursion (λ (m : Message). IsKeptTarget u (goto_way m)) shown) (sym table)
    (subst (λ (l : List Message). AllByRecursion (λ (m : Message). IsKeptTarget t (goto_way m)) l) (sym same)
    (kept_messages t level ms (each_second (IsLower t level) (flat_map edge_names es) (flat_map message_names ms) own.lower)))

-- a node's parts, as they were read, and those in place of them
pub record AreParts (n : Node) (level : ℕ) (es es_read fs fs_given : List Edge) (ms ms_read ns ns_given : List Message) : Type 0 where
  pub node_is : n ≡ Inner level es ms
  pub edges_read : es_read ≡ es
  pub messages_read : ms_read ≡ ms
  pub edges_given : fs_given ≡ fs
  pub messages_given : ns_given ≡ ns

parts_shortened : (t : Table) (level : ℕ) (es fs : List Edge) (ms ns : List Message) → HasIds t → CanShorten t (Inner level es ms) → AllZip (IsShortEdge t) es fs → AllZip (IsShortMessage t) ms ns → IsShortened t (Inner level es ms) (Inner level fs ns)
parts_shortened t level es fs ms ns ids can h more = record {
  level_is = refl;
  edges = h;
  messages = more;
  loose = parts_loose t level es fs ms ns ids h more can.shape;
  size = sizes_less t ms ns more;
  lower = names_lower t level es fs ms ns h more can.lower;
}

pub is_shortened : (t v : Table) (n : Node) (level : ℕ) (es es_read fs fs_given : List Edge) (ms ms_read ns ns_given : List Message) → AreParts n level es es_read fs fs_given ms ms_read ns ns_given → HasIds t → CanShorten t n → v ≡ t → AllZip (IsShortEdge t) es_read fs
    → AllZip (IsShortMessage v) ms_read ns → IsShortened t n (Inner level fs_given ns_given)
is_shortened t v n level es es_read fs fs_given ms ms_read ns ns_given parts ids can same h more =
    let own : CanShorten t (Inner level es ms) = subst (λ (m : Node). CanShorten t m) parts.node_is can in
    subst (λ (m : Node). IsShortened t m (Inner level fs_given ns_given)) (sym parts.node_is)
    (subst (λ (l : List Edge). IsShortened t (Inner level es ms) (Inner level l ns_given)) (sym parts.edges_given)
    (subst (λ (l : List Message). IsShortened t (Inner level es ms) (Inner level fs l)) (sym parts.messages_given)
    (parts_shortened t level es fs ms ns ids own
    (subst (λ (l : List Edge). AllZip (IsShortEdge t) l fs) parts.edges_read h)
    (subst (λ (l : List Message). AllZip (IsShortMessage t) l ns) parts.messages_read (subst (λ (u : Table). AllZip (IsShortMessage u) ms_read ns) same more)))))

pub has_same : (nodes mid : Nodes) (n : Node) (level : ℕ) (es es_read fs fs_given : List Edge) (ms ms_read ns ns_given : List Message) → AreParts n level es es_read fs fs_given ms ms_read ns ns_given → mid ≡ nodes → AllZip (IsSameEdge nodes) es_read fs → AllZip (IsSameMessage mid) ms_read ns
    → (k : List ℕ) → IsKey k → node_at (at nodes) (Inner level fs_given ns_given) k ≡ node_at (at nodes) n k
has_same nodes mid n level es es_read fs fs_given ms ms_read ns ns_given parts same h more k key =
    ap (λ (l : List Edge). node_at (at nodes) (Inner level l ns_given) k) parts.edges_given
    ∙ ap (λ (l : List Message). node_at (at nodes) (Inner level fs l) k) parts.messages_given
    ∙ parts_same nodes level es fs ms ns k
    (subst (λ (l : List Edge). AllZip (IsSameEdge nodes) l fs) parts.edges_read h)
    (subst (λ (l : List Message). AllZip (IsSameMessage nodes) l ns) parts.messages_read (subst (λ (f : Nodes). AllZip (IsSameMessage f) ms_read ns) same more)) key
    ∙ sym (ap (λ (m : Node). node_at (at nodes) m k) parts.node_is)
