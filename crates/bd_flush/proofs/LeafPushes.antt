-- Messages that have gone down to a new leaf.
use Rattle.std.proofs.Common.{◌≡◌, ℕ, ◌+◌, ◌^◌, ◌<◌, ◌≤◌, List, [], ◌∷◌, ◌++◌, length, take, drop, sym, ap, subst, ◌∙◌, Option, None, Some, arith, inl, inr, ◌⊎◌, length-drop}
use Rattle.std.specs.List.{AllByRecursion, flat_map, sum_by}
use Rattle.std.specs.Option.{option_to_list}
use Rattle.std.proofs.lemmas.Bool.{cases_eq}
use Rattle.bd_limits.specs.Limits.{batch_limit}
use Rattle.bd_keys.specs.Keys.{IsKey}
use Rattle.bd_message.specs.declared.message.Message.{Message}
use Rattle.bd_message.specs.Messages.{IsPlain, size}
use Rattle.bd_message.specs.Effect.{NodesAt, acts}
use Rattle.bd_node.specs.declared.node.Edge.{Edge}
use Rattle.bd_node.specs.declared.node.Entry.{Entry}
use Rattle.bd_node.specs.declared.node.Node.{Node}
use Rattle.bd_node.specs.declared.node.Node.TheVariants.{Leaf}
use Rattle.bd_node.specs.Nodes.{level_of, buffer_size, edge_names, names, times, child_at, node_at}
use Rattle.bd_node.specs.Meaning.{Nodes, at}
use Rattle.bd_node.specs.Shape.{IsShape}
use Rattle.bd_node.specs.Tables.{Table, IsKept, IsTable, IsLower, IsNodeOf, IsSound}
use Rattle.bd_node.specs.Private.{IsPrivate}
use Rattle.bd_node.proofs.Lookup.{Agree, named_has, each_named, node_has-key, count-cons_other}
use Rattle.bd_inner.specs.declared.batches.Batch.{Batch}
use Rattle.bd_node.specs.Parts.{buffer_of, end_at, IsEdgeAt}
use Rattle.bd_inner.specs.Batches.{IsMoved}
use Rattle.bd_inner.specs.Exchanging.{FitsAt}
use Rattle.bd_node.specs.Pushes.{exchanged, seen_by}
use Rattle.bd_node.proofs.Compacting.{count_names, compacted_shape, compacted_level, compacted_meaning, compacted_size, compacted_times}
use Rattle.bd_inner.proofs.Fitting.{own_shape, way_fits}
use Rattle.bd_inner.proofs.Exchanged.{exchanged_shape, pushed}
use Rattle.bd_flush.specs.Pushing.{unseen, IsWaitedFor, IsEdgeBatch, IsWay, IsNewLeaf}
use Rattle.bd_inner.proofs.Named.{times_without, times_exchanged, count_own, level_exchanged, compacted_named, exchanged_named, size_exchanged}
use Rattle.bd_node.proofs.Parts.{inner_of}
use Rattle.bd_path.proofs.EdgesAt.{some_next}
use Rattle.bd_flush.proofs.ChildSplits.{asks_at}
use Rattle.bd_flush.proofs.Pushed.{moved_seen, acts_alike, batch_plain}
use Rattle.bd_path.proofs.PathSteps.{has_made, made_old}
use Rattle.bd_path.proofs.OneSteps.{first_made, IsOneChange, IsOneChangeOf}
use Rattle.bd_keys.proofs.Order.{IsKey-drop}

-- ---- the way

pub way_seen : (n : Node) (place child : ℕ) (e f : Edge) → IsWay n place child e f → f.seen ≡ e.seen
way_seen n place child e f way = ap (λ (g : Edge). g.seen) way.0

pub way_waiting : (n : Node) (place child : ℕ) (e f : Edge) → IsWay n place child e f → IsWaitedFor n place e → IsWaitedFor n place f
way_waiting n place child e f way w = subst (λ (g : Edge). IsWaitedFor n place g) (sym way.0) (record { some = w.some; plain = w.plain })

pub way_low : (n : Node) (place child : ℕ) (e f : Edge) (b : Batch) → IsShape n → IsEdgeAt n place e → IsWay n place child e f → IsEdgeBatch n place f b → e.seen + b.count ≤ length (buffer_of n)
way_low n place child e f b h here way is =
    let within : b.count ≤ length (unseen n f) = is.batch.within in
    let seen : e.seen ≤ length (buffer_of n) = (own_shape n place e h here).seen in
    let same : f.seen ≡ e.seen = way_seen n place child e f way in
    omega (arith, length-drop f.seen (buffer_of n))

pub way_fit : (n : Node) (place child : ℕ) (e f : Edge) (count : ℕ) → IsShape n → IsEdgeAt n place e → IsWay n place child e f → 1 ≤ child → child < 2 ^ 64 → e.seen + count ≤ length (buffer_of n) → FitsAt n place e (seen_by f count ∷ [])
way_fit n place child e f count h here way some small low =
    subst (λ (g : Edge). FitsAt n place e (seen_by g count ∷ [])) (sym way.0) (way_fits n place e f.lift child (e.seen + count) h here way.1 some small low)

-- ---- the change

-- a node, an edge of it without a child, and the messages for a new leaf, as far as the table tells
pub record IsBare (t : Table) (p : ℕ) (n : Node) (place : ℕ) (e : Edge) : Type 0 where
  pub table : IsTable t
  pub kept : IsKept t p
  pub own : IsNodeOf t (t.level p) n
  pub here : IsEdgeAt n place e
  pub bare : e.child ≡ None
  pub waiting : IsWaitedFor n place e
  pub next : t.next < 2 ^ 64

new_fits : (t : Table) (p : ℕ) (n : Node) (place : ℕ) (e : Edge) (parent : Node) (entries : List Entry) → IsBare t p n place e → (h : IsNewLeaf n place e t.next parent entries) → FitsAt n place e (seen_by h.edge h.batch.count ∷ [])
new_fits t p n place e parent entries s h =
    way_fit n place t.next e h.edge h.batch.count s.own.shape s.here h.way (some_next t s.table) s.next (way_low n place t.next e h.edge h.batch s.own.shape s.here h.way h.moved)

new_names : (n : Node) (place next : ℕ) (e f : Edge) (count : ℕ) → IsWay n place next e f → flat_map edge_names (seen_by f count ∷ []) ≡ next ∷ []
new_names n place next e f count way = ap (λ (o : Option ℕ). option_to_list o ++ []) (ap (λ (g : Edge). g.child) way.0)

new_named : (t : Table) (p : ℕ) (n : Node) (place : ℕ) (e : Edge) (parent : Node) (entries : List Entry) → IsBare t p n place e → IsNewLeaf n place e t.next parent entries → (x : ℕ) → 1 ≤ times parent x → IsLower t (t.level p) x ⊎ (x ≡ t.next)
new_named t p n place e parent entries s h x one =
    let list : List Edge = seen_by h.edge h.batch.count ∷ [] in
    elim (cases_eq t.next x) [
      | inl same ↦ inr (sym same)
      | inr other ↦ (let less : times parent x ≤ times (exchanged n place list) x = compacted_times (exchanged n place list) parent h.relieved x in
          let none : count_names x (t.next ∷ []) ≡ 0 = count-cons_other t.next x [] other in
          let own : count_names x (flat_map edge_names list) ≡ 0 = ap (λ (l : List ℕ). count_names x l) (new_names n place t.next e h.edge h.batch.count h.way) ∙ none in
          let named : 1 ≤ times n x = omega (arith, times_exchanged n place list x (inner_of n place e s.own.shape s.here), times_without n place e x s.own.shape s.here) in
          inl (named_has (IsLower t (t.level p)) x (names n) s.own.lower named))
    ]

new_used : (t : Table) (p : ℕ) (n : Node) (place : ℕ) (e : Edge) (parent : Node) (entries : List Entry) → IsBare t p n place e → IsNewLeaf n place e t.next parent entries → 1 ≤ times parent t.next
new_used t p n place e parent entries s h =
    let list : List Edge = seen_by h.edge h.batch.count ∷ [] in
    let own : count_names t.next (flat_map edge_names list) ≡ 1 = ap (λ (l : List ℕ). count_names t.next l) (new_names n place t.next e h.edge h.batch.count h.way) ∙ count_own t.next in
    omega (arith, compacted_named (exchanged n place list) parent h.relieved t.next, exchanged_named n place list t.next (inner_of n place e s.own.shape s.here))

pub new_change : (t : Table) (p : ℕ) (n : Node) (place : ℕ) (e : Edge) (parent : Node) (entries : List Entry) → IsBare t p n place e → IsNewLeaf n place e t.next parent entries → IsOneChange t p parent (Leaf entries ∷ [])
new_change t p n place e parent entries s h =
    let list : List Edge = seen_by h.edge h.batch.count ∷ [] in
    let level : level_of parent ≡ level_of n = compacted_level (exchanged n place list) parent h.relieved ∙ level_exchanged n place list in
    record {
      table = s.table;
      kept = s.kept;
      shape = compacted_shape (exchanged n place list) parent (exchanged_shape n place e list s.own.shape (new_fits t p n place e parent entries s h)) h.relieved;
      level = level ∙ s.own.level_is;
      named = λ x one. elim (new_named t p n place e parent entries s h x one) [
        | inl lower ↦ inl lower
        | inr new ↦ inr (omega arith, omega arith)
      ];
      made_are = (
        record {
          shape = record {
            each = h.got.entries.each;
            rising = h.got.entries.rising;
            size = (let fits : sum_by size h.batch.messages ≤ batch_limit = h.moved.batch.fits in omega (arith, h.got.size));
          };
          low = (let l : 1 ≤ level_of n = inner_of n place e s.own.shape s.here in omega arith);
          under = omega arith;
          named = λ x one. absurd (omega arith);
        },
        tt,
      );
      used = λ x high below. (let same : t.next ≡ x = omega arith in subst (λ (i : ℕ). 1 ≤ times parent i) same (new_used t p n place e parent entries s h));
    }

-- ---- what the node has

new_meaning : (nodes : Nodes) (t : Table) (p : ℕ) (n : Node) (place : ℕ) (e : Edge) (parent : Node) (entries : List Entry) → IsBare t p n place e → IsNewLeaf n place e t.next parent entries
    → (k : List ℕ) → IsKey k → node_at (has_made nodes t.next (Leaf entries ∷ [])) parent k ≡ node_at (at nodes) n k
new_meaning nodes t p n place e parent entries s h k key =
    let has : NodesAt = has_made nodes t.next (Leaf entries ∷ []) in
    let f : Edge = h.edge in
    let count : ℕ = h.batch.count in
    let list : List Message = h.batch.messages in
    let fits : FitsAt n place e (seen_by f count ∷ []) = new_fits t p n place e parent entries s h in
    let same : f.seen ≡ e.seen = way_seen n place t.next e f h.way in
    let plain : AllByRecursion IsPlain list = batch_plain n place f h.batch (way_waiting n place t.next e f h.way s.waiting) h.moved in
    compacted_meaning has (exchanged n place (seen_by f count ∷ [])) parent (exchanged_shape n place e (seen_by f count ∷ []) s.own.shape fits) h.relieved k
    ∙ pushed (at nodes) has n place e (seen_by f count) count list s.own.shape fits (ap (λ (i : ℕ). i + count) same)
    (subst (λ (i : ℕ). IsMoved (seen_by f count) (end_at n place) (take count (drop i (buffer_of n))) list) same (moved_seen f (end_at n place) count (take count (unseen n f)) list h.moved.batch.moved))
    (λ l key_l range.
    let x : List ℕ = drop f.lift l in
    asks_at has (seen_by f count) t.next l (ap (λ (g : Edge). g.child) h.way.0) (ap (λ (g : Edge). g.source) h.way.0)
    ∙ first_made nodes t.next (Leaf entries) x
    ∙ node_has-key (at nodes) (Leaf entries) x (IsKey-drop f.lift l key_l)
    ∙ h.got.acted (at nodes) x
    ∙ acts_alike (at nodes) has list x None plain
    ∙ ap (λ (o : Option (List ℕ)). acts has list x o) (sym (ap (λ (o : Option ℕ). child_at (at nodes) o (e.source ++ drop e.lift l)) s.bare)))
    (each_named (Agree has (at nodes)) (names (exchanged n place [])) (λ x one.
    let named : 1 ≤ times n x = omega (arith, times_without n place e x s.own.shape s.here) in
    made_old nodes t.next (Leaf entries ∷ []) x (s.table.below x (named_has (IsLower t (t.level p)) x (names n) s.own.lower named).kept)))
    k key

pub new_change_of : (nodes : Nodes) (t : Table) (p : ℕ) (n : Node) (place : ℕ) (e : Edge) (parent : Node) (entries : List Entry) → IsBare t p n place e → IsSound nodes t → nodes p ≡ Some n → IsPrivate nodes t p → IsNewLeaf n place e t.next parent entries → IsOneChangeOf nodes t p n parent (Leaf entries ∷ [])
new_change_of nodes t p n place e parent entries s sound there private h = record {
  step = new_change t p n place e parent entries s h;
  sound = sound;
  there = there;
  private = private;
  meaning = new_meaning nodes t p n place e parent entries s h;
}

pub new_size : (n : Node) (place : ℕ) (e : Edge) (next : ℕ) (parent : Node) (entries : List Entry) → IsNewLeaf n place e next parent entries → buffer_size parent ≤ buffer_size n
new_size n place e next parent entries h =
    omega (arith, compacted_size (exchanged n place (seen_by h.edge h.batch.count ∷ [])) parent h.relieved, size_exchanged n place (seen_by h.edge h.batch.count ∷ []))
