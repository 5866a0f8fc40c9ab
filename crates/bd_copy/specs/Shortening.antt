-- Nodes whose sources were longer than 518 bytes.
use Rattle.std.specs.Prelude.{◌≡◌, ℕ, ◌+◌, ◌≤◌, nat_lt, if◌then◌else◌, List, [], ◌++◌, length, Option, None, Some, ⊤}
use Rattle.std.specs.List.{AllByRecursion, AllZip}
use Rattle.bd_limits.specs.Limits.{key_limit}
use Rattle.bd_keys.specs.Keys.{IsKey}
use Rattle.bd_message.specs.declared.message.Message.{Message}
use Rattle.bd_message.specs.declared.message.Message.TheVariants.{Put, Del, Patch, Cut, Goto}
use Rattle.bd_message.specs.Effect.{act}
use Rattle.bd_node.specs.declared.node.Edge.{Edge}
use Rattle.bd_node.specs.declared.node.Node.{Node}
use Rattle.bd_node.specs.Nodes.{level_of, buffer_size, names, child_at}
use Rattle.bd_node.specs.Meaning.{Nodes, at}
use Rattle.bd_node.specs.Tables.{Table, IsKept, IsLower}
use Rattle.bd_node.specs.Parts.{edges_of, buffer_of}
use Rattle.bd_inner.specs.Clipping.{IsLong}
use Rattle.bd_node.specs.Compaction.{IsLooseNode}
use Rattle.bd_resolve.specs.declared.following.Target.{Target}
use Rattle.bd_resolve.specs.Following.{IsLowerTarget, IsShort, target_level, target_of}

-- ---- targets

-- the target of an edge's keys, if there is one
abbrev pub edge_way : Edge → Option Target
edge_way e = target_of e.child e.source

-- the target of a Goto's keys, and none of another message
abbrev pub goto_way : Message → Option Target
goto_way (Put key value) = None
goto_way (Del key) = None
goto_way (Patch key off bytes) = None
goto_way (Cut prefix from) = None
goto_way (Goto prefix source child) = target_of (Some child) source

-- the target's node is kept, if there is one
abbrev pub IsKeptTarget : Table → Option Target → Type 0
IsKeptTarget t None = ⊤
IsKeptTarget t (Some target) = IsKept t target.child

-- a target stands for another: its source has at most 518 bytes, its node is kept and no higher; one
-- whose source is so short stands for itself
pub record IsShortWay (t : Table) (old new : Option Target) : Type 0 where
  pub stays : IsShort old → new ≡ old
  pub short : IsShort new
  pub lower : IsLowerTarget t (target_level t old + 1) new

-- how many nodes are looked through for a target at most: as many as its node is high, and none for
-- a source of at most 518 bytes
abbrev pub way_visits : Table → Option Target → ℕ
way_visits t None = 0
way_visits t (Some target) =
    if nat_lt key_limit (length target.source) then t.level target.child else 0

-- ---- edges

-- the node that a target names
abbrev pub target_child : Option Target → Option ℕ
target_child None = None
target_child (Some target) = Some target.child

-- what a target puts in front of a key
abbrev pub target_source : Option Target → List ℕ
target_source None = []
target_source (Some target) = target.source

-- the edge of the same keys to another target, or to none
abbrev pub sent_edge : Edge → Option Target → Edge
sent_edge e target = record e { source = target_source target; child = target_child target }

-- an edge with a source of at most 518 bytes in place of another
pub record IsShortEdge (t : Table) (e f : Edge) : Type 0 where
  pub target : Option Target
  pub way : IsShortWay t (edge_way e) target
  pub edge_is : f ≡ sent_edge e target

-- the edges have the same keys, and the same at each of them, in the nodes below
pub record IsSameEdge (nodes : Nodes) (e f : Edge) : Type 0 where
  pub pivot : f.pivot ≡ e.pivot
  pub lift : f.lift ≡ e.lift
  pub seen : f.seen ≡ e.seen
  pub has : (k : List ℕ) → IsKey k
      → child_at (at nodes) f.child (f.source ++ k) ≡ child_at (at nodes) e.child (e.source ++ k)

-- ---- messages

-- the message that sends the keys of a prefix to a target, and cuts them all where there is none
abbrev pub sent_keys : List ℕ → Option Target → Message
sent_keys prefix None = Cut prefix []
sent_keys prefix (Some target) = Goto prefix target.source target.child

-- a message with a source of at most 518 bytes in place of a Goto
pub record IsShortGoto (t : Table) (prefix source : List ℕ) (child : ℕ) (n : Message) : Type 0 where
  pub target : Option Target
  pub way : IsShortWay t (target_of (Some child) source) target
  pub message_is : n ≡ sent_keys prefix target

-- a message with a source of at most 518 bytes in place of another
abbrev pub IsShortMessage : Table → Message → Message → Type 0
IsShortMessage t (Put key value) n = n ≡ Put key value
IsShortMessage t (Del key) n = n ≡ Del key
IsShortMessage t (Patch key off bytes) n = n ≡ Patch key off bytes
IsShortMessage t (Cut prefix from) n = n ≡ Cut prefix from
IsShortMessage t (Goto prefix source child) n = IsShortGoto t prefix source child n

-- the messages leave the same at each key, in the nodes below
pub record IsSameMessage (nodes : Nodes) (m n : Message) : Type 0 where
  pub does : (k : List ℕ) → IsKey k → (old : Option (List ℕ))
      → act (at nodes) n k old ≡ act (at nodes) m k old

-- ---- nodes

-- an inner node, but that sources may be longer, and messages pending for no edge; each node that
-- it names is kept and lower
pub record CanShorten (t : Table) (n : Node) : Type 0 where
  pub shape : IsLong (level_of n) (edges_of n) (buffer_of n)
  pub lower : AllByRecursion (IsLower t (level_of n)) (names n)

-- the node with sources of at most 518 bytes: its edges and messages are those of the node, but
-- that a longer source has become the way to another kept node that is no higher, or to nothing
pub record IsShortened (t : Table) (n m : Node) : Type 0 where
  pub level_is : level_of m ≡ level_of n
  pub edges : AllZip (IsShortEdge t) (edges_of n) (edges_of m)
  pub messages : AllZip (IsShortMessage t) (buffer_of n) (buffer_of m)
  pub loose : IsLooseNode m
  pub size : buffer_size m ≤ buffer_size n
  pub lower : AllByRecursion (IsLower t (level_of m)) (names m)
