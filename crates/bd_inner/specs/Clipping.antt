-- Nodes freed of a prefix.
use Rattle.std.specs.Prelude.{◌≡◌, ℕ, ◌-◌, ◌<◌, ◌≤◌, ◌⊎◌, not, List, [], ◌∷◌, ◌++◌, length, take, drop, map, Option, None, Some, count_by, slice_get}
use Rattle.std.specs.Option.{is_some}
use Rattle.std.specs.List.{AllByRecursion, prefix_len, sum_by}
use Rattle.std.specs.Ordering.{is_lt}
use Rattle.bd_limits.specs.Limits.{key_limit, buffer_limit, level_limit, edge_limit}
use Rattle.bd_keys.specs.Keys.{key_cmp, IsBelowEnd, IsCommon}
use Rattle.bd_message.specs.declared.message.Message.{Message}
use Rattle.bd_message.specs.declared.message.Message.TheVariants.{Put, Del, Patch, Cut, Goto}
use Rattle.bd_message.specs.Messages.{IsMessage, size}
use Rattle.bd_message.specs.Effect.{NodesAt, begins, rest}
use Rattle.bd_message.specs.Freeing.{freed, source_of, CoversAll}
use Rattle.bd_node.specs.declared.node.Edge.{Edge}
use Rattle.bd_node.specs.declared.node.Node.{Node}
use Rattle.bd_node.specs.Nodes.{level_of, times, node_at}
use Rattle.bd_node.specs.Shape.{end_before, EachEdge, IsChild}
use Rattle.bd_node.specs.Parts.{edges_of, buffer_of}

-- an edge whose keys end there, over a buffer of so many messages, but that its source may be longer
pub record IsLongEdge (buffered : ℕ) (e : Edge) (hi : Option (List ℕ)) : Type 0 where
  pub pivot : length e.pivot ≤ key_limit
  pub rising : IsBelowEnd e.pivot hi
  pub lift : e.lift ≤ length e.pivot
  pub common : IsCommon e.pivot hi (take e.lift e.pivot)
  pub child : IsChild e.child e.source
  pub seen : e.seen ≤ buffered

-- a message, but that its source may be longer
abbrev pub IsLongMessage : Message → Type 0
IsLongMessage (Put key value) = IsMessage (Put key value)
IsLongMessage (Del key) = IsMessage (Del key)
IsLongMessage (Patch key off bytes) = IsMessage (Patch key off bytes)
IsLongMessage (Cut prefix from) = IsMessage (Cut prefix from)
IsLongMessage (Goto prefix source child) = IsMessage (Goto prefix [] child)

-- an inner node, but that sources may be longer, and messages pending for no edge
pub record IsLong (level : ℕ) (edges : List Edge) (buffer : List Message) : Type 0 where
  pub low : 1 ≤ level
  pub high : level ≤ level_limit
  pub few : length edges ≤ edge_limit
  pub first : end_before edges ≡ Some []
  pub each : EachEdge (IsLongEdge (length buffer)) edges
  pub messages : AllByRecursion IsLongMessage buffer
  pub size : sum_by size buffer ≤ buffer_limit

-- a source where there is a child, and else none
abbrev pub where_child : Option ℕ → List ℕ → List ℕ
where_child None source = []
where_child (Some child) source = source

-- what stands in front of the keys that an edge freed of a prefix asks of its child: the source,
-- and what of the prefix isn't left out
abbrev pub source_below : List ℕ → Edge → List ℕ
source_below s e = where_child e.child (e.source ++ drop e.lift s)

-- the edge is one of these, freed of a prefix
abbrev pub IsFreedEdge : List ℕ → List Edge → Edge → Type 0
IsFreedEdge s edges f =
    (e : Edge) × (i : ℕ) × (slice_get edges i ≡ Some e) × (f.lift ≡ e.lift - length s)
    × (f.source ≡ source_below s e) × (f.child ≡ e.child)

-- the message is one of these, freed of a prefix
abbrev pub IsFreedMessage : List ℕ → List Message → Message → Type 0
IsFreedMessage s buffer n =
    (m : Message) × (i : ℕ) × (slice_get buffer i ≡ Some m) × (freed s m ≡ Some n)

-- an inner node freed of a prefix has at each key what the node had at the prefix and the key; its
-- edges and messages are those of the node, freed of it; sources may be longer, of the messages that
-- of the oldest alone
pub record IsClipped (n : Node) (s : List ℕ) (m : Node) : Type 0 where
  pub level_is : level_of m ≡ level_of n
  pub shape : IsLong (level_of m) (edges_of m) (buffer_of m)
  pub meaning : (below : NodesAt) (k : List ℕ) → node_at below m k ≡ node_at below n (s ++ k)
  pub edges : AllByRecursion (IsFreedEdge s (edges_of n)) (edges_of m)
  pub messages : AllByRecursion (IsFreedMessage s (buffer_of n)) (buffer_of m)
  pub later : AllByRecursion (λ (l : Message). length (source_of l) ≤ key_limit)
      (drop 1 (buffer_of m))
  pub names : (c : ℕ) → times m c ≤ times n c

-- ---- the parts

-- how many edges stand before the one that has the prefix among its keys
abbrev pub count_before : List ℕ → List Edge → ℕ
count_before s edges = prefix_len (λ (e : Edge). not (is_lt (key_cmp s e.pivot))) (drop 1 edges)

-- how many of the edges have pivots that begin with the prefix, up to the first that has another
abbrev pub count_within : List ℕ → List Edge → ℕ
count_within s edges = prefix_len (λ (e : Edge). begins e.pivot s) edges

-- the newest message that decides what stands at each key is at this place; it is 0 where there is
-- none
pub record IsStart (parts : List (Option Message)) (start : ℕ) : Type 0 where
  pub within : start ≤ length parts
  pub at : (start ≡ 0) ⊎ ((m : Message) × (slice_get parts start ≡ Some (Some m)) × CoversAll m)
  pub newer : (i : ℕ) (m : Message) → start < i → slice_get parts i ≡ Some (Some m)
      → ¬ CoversAll m

-- how many of the messages from a place on are among the oldest so many
abbrev pub seen_after : List (Option Message) → ℕ → ℕ → ℕ
seen_after parts start seen = count_by is_some (drop start (take seen parts))

-- an edge freed of a prefix, with another pivot
abbrev pub clipped_edge : List ℕ → List (Option Message) → ℕ → List ℕ → Edge → Edge
clipped_edge s parts start pivot e =
    record {
      pivot = pivot;
      lift = e.lift - length s;
      source = source_below s e;
      child = e.child;
      seen = seen_after parts start e.seen;
    }

-- an edge freed of a prefix with which its pivot begins
abbrev pub inside_edge : List ℕ → List (Option Message) → ℕ → Edge → Edge
inside_edge s parts start e = clipped_edge s parts start (rest s e.pivot) e

-- the edges with a key that begins with the prefix, freed of it: the first one has the empty pivot
pub record AreClippedEdges (s : List ℕ) (parts : List (Option Message)) (start : ℕ)
    (edges made : List Edge) : Type 0 where
  pub first : Edge
  pub others : List Edge
  pub from : drop (count_before s edges) edges ≡ first ∷ others
  pub made_are : made ≡ clipped_edge s parts start [] first
      ∷ map (inside_edge s parts start) (take (count_within s others) others)
