-- Messages that have gone down to a child.
use Rattle.std.proofs.Common.{◌≡◌, ℕ, zero, suc, ◌+◌, ◌<◌, ◌≤◌, List, [], ◌∷◌, ◌++◌, length, take, drop, refl, sym, ap, ◌∙◌, Option, arith, length-drop, inl, inr}
use Rattle.std.specs.List.{AllByRecursion, flat_map, sum_by}
use Rattle.std.proofs.lemmas.Bool.{cases_lt}
use Rattle.std.proofs.lemmas.List.Concat.{flat_map-append}
use Rattle.bd_limits.specs.Limits.{soft_limit, batch_limit}
use Rattle.bd_keys.specs.Keys.{IsKey}
use Rattle.bd_message.specs.declared.message.Message.{Message}
use Rattle.bd_message.specs.Messages.{IsPlain, size}
use Rattle.bd_message.specs.Effect.{NodesAt, acts}
use Rattle.bd_node.specs.declared.node.Edge.{Edge}
use Rattle.bd_node.specs.declared.node.Entry.{Entry}
use Rattle.bd_node.specs.declared.node.Node.{Node}
use Rattle.bd_node.specs.declared.node.Node.TheVariants.{Leaf, Inner}
use Rattle.bd_node.specs.Nodes.{level_of, buffer_size, message_names, edge_names, names, times, node_at, appended}
use Rattle.bd_node.specs.Meaning.{Nodes, at}
use Rattle.bd_node.specs.Shape.{IsLeaf, IsShape}
use Rattle.bd_node.specs.Tables.{Table, IsLower, IsNodeOf}
use Rattle.bd_node.proofs.Lookup.{Agree, each_first, each_second, each_both, each_dropped, each_named, named_has, acts-same, node_has-key}
use Rattle.bd_node.proofs.Appending.{shape_appended, level_appended, acts-plain, node_at-appended}
use Rattle.bd_inner.specs.declared.batches.Batch.{Batch}
use Rattle.bd_node.specs.Parts.{buffer_of, end_at, IsEdgeAt}
use Rattle.bd_inner.specs.Batches.{goto_count, IsMoved}
use Rattle.bd_inner.specs.Exchanging.{IsKeyOf}
use Rattle.bd_node.proofs.Compacting.{count_names, count_names-append, compacted_meaning}
use Rattle.bd_inner.proofs.Fitting.{own_shape}
use Rattle.bd_inner.proofs.Exchanged.{exchanged_shape, pushed}
use Rattle.bd_leaf.specs.Leaves.{IsReceived}
use Rattle.bd_flush.specs.Children.{IsSplitInto}
use Rattle.bd_flush.specs.GoingDown.{GoesDown}
use Rattle.bd_flush.specs.Pushing.{unseen, AllGoDown, IsWaitedFor, IsEdgeBatch, IsPushInto}
use Rattle.bd_node.specs.Pushes.{exchanged, seen_by, IsPlainFor, IsRelieved}
use Rattle.bd_flush.specs.Pushing.IsPushInto.{received, fitted, split}
use Rattle.bd_flush.proofs.GoingDown.{parts_low}
use Rattle.bd_path.proofs.ChildSteps.{has_below, has_child, has_old, IsChildChange, IsChildChangeOf}
use Rattle.bd_path.proofs.EdgesAt.{child_named}
use Rattle.bd_flush.proofs.ChildSplits.{one_fits, one_change, others_agree, gotos_agree, asks, asks_at, IsSplittable, IsSplittableOf, split_change, split_meaning, split_few, split_size}
use Rattle.bd_inner.proofs.Named.{compacted_small}
use Rattle.bd_keys.proofs.Order.{IsKey-drop}

-- ---- the node above

pub batch_low : (n : Node) (place : ℕ) (e : Edge) (b : Batch) → IsShape n → IsEdgeAt n place e → IsEdgeBatch n place e b → e.seen + b.count ≤ length (buffer_of n)
batch_low n place e b h here is =
    let within : b.count ≤ length (unseen n e) = is.batch.within in
    let seen : e.seen ≤ length (buffer_of n) = (own_shape n place e h here).seen in
    omega (arith, length-drop e.seen (buffer_of n))

-- messages moved for an edge are so for the edge that has seen more
pub moved_seen : (e : Edge) (hi : Option (List ℕ)) (count : ℕ) (list moved : List Message) → IsMoved e hi list moved → IsMoved (seen_by e count) hi list moved
moved_seen e hi count list moved h = record { effect = h.effect; each = h.each; size = h.size; names = h.names; plain = h.plain }

-- what holds of each node that a node's messages name holds of each that a batch of them names
buffer_taken : (P : ℕ → Type 0) (count : ℕ) (ms : List Message) → AllByRecursion P (flat_map message_names ms) → AllByRecursion P (flat_map message_names (take count ms))
buffer_taken P zero ms h = tt
buffer_taken P (suc count) [] h = tt
buffer_taken P (suc count) (m ∷ ms) h =
    each_both P (message_names m) (flat_map message_names (take count ms)) (each_first P (message_names m) (flat_map message_names ms) h)
    (buffer_taken P count ms (each_second P (message_names m) (flat_map message_names ms) h))

batch_named : (P : ℕ → Type 0) (n : Node) (place : ℕ) (e : Edge) (b : Batch) → IsEdgeBatch n place e b → AllByRecursion P (flat_map message_names (buffer_of n)) → AllByRecursion P (flat_map message_names b.messages)
batch_named P n place e b is h =
    let of_taken : AllByRecursion P (flat_map message_names (take b.count (unseen n e))) = buffer_taken P b.count (unseen n e) (each_dropped P e.seen (buffer_of n) h) in
    each_named P (flat_map message_names b.messages) (λ x one.
    let fewer : goto_count x b.messages ≤ goto_count x (take b.count (unseen n e)) = is.batch.moved.names x in
    named_has P x (flat_map message_names (take b.count (unseen n e))) of_taken (omega arith))

-- messages that name no node act alike
pub acts_alike : (f g : NodesAt) (list : List Message) (k : List ℕ) (old : Option (List ℕ)) → AllByRecursion IsPlain list → acts f list k old ≡ acts g list k old
acts_alike f g list k old plain = acts-plain f list k old plain ∙ sym (acts-plain g list k old plain)

-- the first so many have what all have
pub each_taken : (P : Message → Type 0) (count : ℕ) (list : List Message) → AllByRecursion P list → AllByRecursion P (take count list)
each_taken P zero list h = tt
each_taken P (suc count) [] h = tt
each_taken P (suc count) (m ∷ list) h = (h.0, each_taken P count list h.1)

pub batch_plain : (n : Node) (place : ℕ) (e : Edge) (b : Batch) → IsWaitedFor n place e → IsEdgeBatch n place e b → AllByRecursion IsPlain b.messages
batch_plain n place e b w is = is.batch.moved.plain (each_taken (IsPlainFor e (end_at n place)) b.count (unseen n e) w.plain)

-- the child has at the edge's keys what it had, changed by the messages
abbrev HasReceived : NodesAt → Node → ℕ → Edge → Node → List Message → Node → Type 0
HasReceived below n place e m list low =
    (k : List ℕ) → IsKey k → IsKeyOf n place e k → node_at below low (drop e.lift k) ≡ acts below list (drop e.lift k) (node_at below m (drop e.lift k))

-- the node whose edge has seen more, over what its child has become
pub relieved_inside : (nodes : Nodes) (t : Table) (p : ℕ) (n : Node) (place c : ℕ) (e : Edge) (m : Node) (b : Batch) (has : NodesAt) → IsSplittableOf nodes t p n place c e (e.seen + b.count) m (at nodes) → IsEdgeBatch n place e b
    → ((k : List ℕ) → IsKey k → IsKeyOf n place e k → has c (drop e.lift k) ≡ acts (at nodes) b.messages (drop e.lift k) (node_at (at nodes) m (drop e.lift k))) → AllByRecursion (Agree has (at nodes)) (names (exchanged n place []))
    → (k : List ℕ) → IsKey k → node_at has (exchanged n place (seen_by e b.count ∷ [])) k ≡ node_at (at nodes) n k
relieved_inside nodes t p n place c e m b has s is got others k key =
    let f : Edge = seen_by e b.count in
    pushed (at nodes) has n place e f b.count b.messages s.of.own.shape (one_fits t p n place c e (e.seen + b.count) m s.of) refl (moved_seen e (end_at n place) b.count (take b.count (unseen n e)) b.messages is.batch.moved)
    (λ l key_l range.
    let x : List ℕ = drop e.lift l in
    asks_at has f c l s.of.way.child_is s.of.way.plain
    ∙ got l key_l range
    ∙ ap (λ (o : Option (List ℕ)). acts (at nodes) b.messages x o) (sym (s.child_has x (IsKey-drop e.lift l key_l)) ∙ sym (asks_at (at nodes) e c l s.of.way.child_is s.of.way.plain))
    ∙ sym (acts-same has (at nodes) b.messages x (asks (at nodes) e l) (batch_named (Agree has (at nodes)) n place e b is (gotos_agree (at nodes) has n place others))))
    others k key

-- where the child is changed alone
low_inside : (nodes : Nodes) (t : Table) (p : ℕ) (n : Node) (place c : ℕ) (e : Edge) (m : Node) (b : Batch) (low : Node) → IsSplittableOf nodes t p n place c e (e.seen + b.count) m (at nodes) → IsEdgeBatch n place e b
    → HasReceived (at nodes) n place e m b.messages low → (k : List ℕ) → IsKey k → node_at (has_below nodes t.next c low []) (exchanged n place (seen_by e b.count ∷ [])) k ≡ node_at (at nodes) n k
low_inside nodes t p n place c e m b low s is got k key =
    relieved_inside nodes t p n place c e m b (has_below nodes t.next c low []) s is
    (λ l key_l range. has_child nodes t.next c low [] (drop e.lift l) ∙ node_has-key (at nodes) low (drop e.lift l) (IsKey-drop e.lift l key_l) ∙ got l key_l range)
    (others_agree nodes t p n place c e (e.seen + b.count) m (at nodes) low [] s) k key

relieved_change_of : (nodes : Nodes) (t : Table) (p : ℕ) (n : Node) (place c : ℕ) (e : Edge) (m : Node) (b : Batch) (parent low : Node) → IsSplittableOf nodes t p n place c e (e.seen + b.count) m (at nodes) → IsEdgeBatch n place e b
    → IsRelieved n place e b.count parent → HasReceived (at nodes) n place e m b.messages low → IsChildChange t p parent c low [] → IsChildChangeOf nodes t p n parent c low []
relieved_change_of nodes t p n place c e m b parent low s is r got change = record {
  step = change;
  sound = s.sound;
  there = s.there;
  private = s.private;
  once = s.once;
  names_it = child_named n place c e s.of.own.shape s.of.way;
  meaning = λ k key.
      let list : List Edge = seen_by e b.count ∷ [] in
      compacted_meaning (has_below nodes t.next c low []) (exchanged n place list) parent (exchanged_shape n place e list s.of.own.shape (one_fits t p n place c e (e.seen + b.count) m s.of)) r k
      ∙ low_inside nodes t p n place c e m b low s is got k key;
}

-- ---- each way

-- what is pushed, and that it may be
pub record IsPushable (t : Table) (p : ℕ) (n : Node) (place c : ℕ) (e : Edge) (m : Node) (b : Batch) : Type 0 where
  pub split : IsSplittable t p n place c e (e.seen + b.count) m
  pub down : AllGoDown t.level (t.level c) n place e
  pub moved : IsEdgeBatch n place e b
  pub child : IsNodeOf t (t.level c) m
  pub soft : buffer_size m ≤ soft_limit

-- the nodes that it names then: those that go down are lower than it
times_more : (n : Node) (list : List Message) (x : ℕ) → times (appended n list) x ≤ times n x + count_names x (flat_map message_names list)
times_more (Leaf entries) list x = omega arith
times_more (Inner level es buffer) list x =
    omega (
      arith,
      count_names-append x (flat_map edge_names es) (flat_map message_names (buffer ++ list)),
      count_names-append x (flat_map edge_names es) (flat_map message_names buffer),
      ap (count_names x) (flat_map-append message_names buffer list),
      count_names-append x (flat_map message_names buffer) (flat_map message_names list),
    )

pub buffer_lower : (P : ℕ → Type 0) (n : Node) → AllByRecursion P (names n) → AllByRecursion P (flat_map message_names (buffer_of n))
buffer_lower P (Leaf entries) h = tt
buffer_lower P (Inner level edges buffer) h = each_second P (flat_map edge_names edges) (flat_map message_names buffer) h

moved_lower : (t : Table) (p : ℕ) (n : Node) (place c : ℕ) (e : Edge) (m : Node) (b : Batch) → IsPushable t p n place c e m b → (x : ℕ) → 1 ≤ count_names x (flat_map message_names b.messages) → IsLower t (t.level c) x
moved_lower t p n place c e m b s x one = record {
  kept = (named_has (IsLower t (t.level p)) x (flat_map message_names b.messages) (batch_named (IsLower t (t.level p)) n place e b s.moved (buffer_lower (IsLower t (t.level p)) n s.split.own.lower)) one).kept;
  lower = named_has (λ (i : ℕ). t.level i < t.level c) x (flat_map message_names b.messages)
      (parts_low t.level (t.level c) e (end_at n place) (take b.count (unseen n e)) b.messages (each_taken (GoesDown t.level (t.level c) e (end_at n place)) b.count (unseen n e) s.down) s.moved.batch.parts) one;
}

received_named : (t : Table) (p : ℕ) (n : Node) (place c : ℕ) (e : Edge) (m : Node) (b : Batch) → IsPushable t p n place c e m b → (x : ℕ) → 1 ≤ times (appended m b.messages) x → IsLower t (t.level c) x
received_named t p n place c e m b s x one =
    elim (cases_lt 0 (times m x)) [
      | inl old ↦ named_has (IsLower t (t.level c)) x (names m) s.child.lower (omega arith)
      | inr none ↦ moved_lower t p n place c e m b s x (omega (arith, times_more m b.messages x))
    ]

-- an inner child
received_change : (t : Table) (p : ℕ) (n : Node) (place c : ℕ) (e : Edge) (m : Node) (b : Batch) (parent : Node) → IsPushable t p n place c e m b → IsRelieved n place e b.count parent → IsChildChange t p parent c (appended m b.messages) []
received_change t p n place c e m b parent s r =
    let fits : sum_by size b.messages ≤ batch_limit = s.moved.batch.fits in
    let soft : buffer_size m ≤ soft_limit = s.soft in
    one_change t p n place c e (e.seen + b.count) m parent (appended m b.messages) s.split r
    (shape_appended m b.messages s.child.shape s.moved.batch.moved.each (omega arith))
    (level_appended m b.messages ∙ s.child.level_is)
    (λ x one. received_named t p n place c e m b s x one)

-- a leaf
leaf_level : (t : Table) (c : ℕ) (m : Node) (old new : List Entry) → m ≡ Leaf old → level_of m ≡ t.level c → level_of (Leaf new) ≡ t.level c
leaf_level t c m old new leaf is = sym (ap level_of leaf) ∙ is

pub leaf_received : (below : NodesAt) (n : Node) (place : ℕ) (e : Edge) (m : Node) (old new : List Entry) (list : List Message) → m ≡ Leaf old → IsReceived old list new → HasReceived below n place e m list (Leaf new)
leaf_received below n place e m old new list is got k key range =
    let x : List ℕ = drop e.lift k in
    got.acted below x ∙ ap (λ (d : Node). acts below list x (node_at below d x)) (sym is)

fitted_change : (t : Table) (p : ℕ) (n : Node) (place c : ℕ) (e : Edge) (m : Node) (b : Batch) (old new : List Entry) (parent : Node) → IsPushable t p n place c e m b → m ≡ Leaf old → IsLeaf new → IsRelieved n place e b.count parent → IsChildChange t p parent c (Leaf new) []
fitted_change t p n place c e m b old new parent s leaf fits r =
    one_change t p n place c e (e.seen + b.count) m parent (Leaf new) s.split r fits (leaf_level t c m old new leaf s.split.child_level) (λ x one. absurd (omega arith))

-- a leaf that has received more than fits
whole_splittable : (t : Table) (p : ℕ) (n : Node) (place c : ℕ) (e : Edge) (seen : ℕ) (m : Node) (old new : List Entry) → IsSplittable t p n place c e seen m → m ≡ Leaf old → IsSplittable t p n place c e seen (Leaf new)
whole_splittable t p n place c e seen m old new s leaf = record {
  table = s.table;
  kept = s.kept;
  own = s.own;
  few = s.few;
  way = s.way;
  low = s.low;
  child_level = leaf_level t c m old new leaf s.child_level;
  child_names = tt;
  next = s.next;
}

whole_of : (nodes : Nodes) (t : Table) (p : ℕ) (n : Node) (place c : ℕ) (e : Edge) (seen : ℕ) (m : Node) (old new : List Entry) → IsSplittableOf nodes t p n place c e seen m (at nodes) → m ≡ Leaf old
    → IsSplittableOf nodes t p n place c e seen (Leaf new) (has_below nodes t.next c (Leaf new) [])
whole_of nodes t p n place c e seen m old new s leaf = record {
  of = whole_splittable t p n place c e seen m old new s.of leaf;
  sound = s.sound;
  there = s.there;
  private = s.private;
  once = s.once;
  child_has = λ x key. has_child nodes t.next c (Leaf new) [] x ∙ node_has-key (at nodes) (Leaf new) x key;
  others_have = λ x other low k. has_old nodes t.next c (Leaf new) [] x other low k;
}

whole_change_of : (nodes : Nodes) (t : Table) (p : ℕ) (n : Node) (place c : ℕ) (e : Edge) (m : Node) (b : Batch) (old new : List Entry) (parent half : Node) (made : List Node) → IsSplittableOf nodes t p n place c e (e.seen + b.count) m (at nodes) → IsEdgeBatch n place e b
    → m ≡ Leaf old → IsReceived old b.messages new → IsSplitInto n place (seen_by e b.count) (Leaf new) t.next parent half made → IsChildChangeOf nodes t p n parent c half made
whole_change_of nodes t p n place c e m b old new parent half made s is leaf got into =
    let seen : ℕ = e.seen + b.count in
    let whole : IsSplittableOf nodes t p n place c e seen (Leaf new) (has_below nodes t.next c (Leaf new) []) = whole_of nodes t p n place c e seen m old new s leaf in
    record {
      step = split_change t p n place c e seen (Leaf new) parent half made whole.of into;
      sound = s.sound;
      there = s.there;
      private = s.private;
      once = s.once;
      names_it = child_named n place c e s.of.own.shape s.of.way;
      meaning = λ k key.
          split_meaning nodes t p n place c e seen (Leaf new) (has_below nodes t.next c (Leaf new) []) parent half made whole into k key
          ∙ low_inside nodes t p n place c e m b (Leaf new) s is (leaf_received (at nodes) n place e m old new b.messages leaf got) k key;
    }

-- ---- what a push changes

pub push_change : (t : Table) (p : ℕ) (n : Node) (place c : ℕ) (e : Edge) (m : Node) (b : Batch) (parent low : Node) (made : List Node) → IsPushable t p n place c e m b → IsPushInto n place e m b t.next parent low made → IsChildChange t p parent c low made
push_change t p n place c e m b _ _ _ s (received parent inner r) = received_change t p n place c e m b parent s r
push_change t p n place c e m b _ _ _ s (fitted old new parent leaf got fits r) = fitted_change t p n place c e m b old new parent s leaf fits r
push_change t p n place c e m b _ _ _ s (split old new parent half made leaf got over into) =
    split_change t p n place c e (e.seen + b.count) (Leaf new) parent half made (whole_splittable t p n place c e (e.seen + b.count) m old new s.split leaf) into

pub push_change_of : (nodes : Nodes) (t : Table) (p : ℕ) (n : Node) (place c : ℕ) (e : Edge) (m : Node) (b : Batch) (parent low : Node) (made : List Node) → IsPushable t p n place c e m b → IsSplittableOf nodes t p n place c e (e.seen + b.count) m (at nodes) → IsPushInto n place e m b t.next parent low made
    → IsChildChangeOf nodes t p n parent c low made
push_change_of nodes t p n place c e m b _ _ _ s of (received parent inner r) =
    relieved_change_of nodes t p n place c e m b parent (appended m b.messages) of s.moved r
    (λ k key range. node_at-appended (at nodes) m b.messages (drop e.lift k) s.child.shape inner)
    (received_change t p n place c e m b parent s r)
push_change_of nodes t p n place c e m b _ _ _ s of (fitted old new parent leaf got fits r) =
    relieved_change_of nodes t p n place c e m b parent (Leaf new) of s.moved r
    (leaf_received (at nodes) n place e m old new b.messages leaf got)
    (fitted_change t p n place c e m b old new parent s leaf fits r)
push_change_of nodes t p n place c e m b _ _ _ s of (split old new parent half made leaf got over into) =
    whole_change_of nodes t p n place c e m b old new parent half made of s.moved leaf got into

pub push_few : (n : Node) (place : ℕ) (e : Edge) (m : Node) (b : Batch) (next : ℕ) (parent low : Node) (made : List Node) → IsPushInto n place e m b next parent low made → length made ≤ 1
push_few n place e m b next _ _ _ (received parent inner r) = omega arith
push_few n place e m b next _ _ _ (fitted old new parent leaf got fits r) = omega arith
push_few n place e m b next _ _ _ (split old new parent half made leaf got over into) = split_few n place (seen_by e b.count) (Leaf new) next parent half made into

pub push_size : (n : Node) (place : ℕ) (e : Edge) (m : Node) (b : Batch) (next : ℕ) (parent low : Node) (made : List Node) → IsPushInto n place e m b next parent low made → buffer_size parent ≤ buffer_size n
push_size n place e m b next _ _ _ (received parent inner r) = compacted_small n place (seen_by e b.count ∷ []) parent r
push_size n place e m b next _ _ _ (fitted old new parent leaf got fits r) = compacted_small n place (seen_by e b.count ∷ []) parent r
push_size n place e m b next _ _ _ (split old new parent half made leaf got over into) = (split_size n place (seen_by e b.count) (Leaf new) next parent half made into).0
