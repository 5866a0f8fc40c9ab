-- Messages that go down from a node to its child, and the step that moves them.
use Rattle.std.specs.Prelude.{◌≡◌, ℕ, ◌+◌, ◌<◌, ◌≤◌, true, List, [], ◌∷◌, ◌++◌, length, take, drop, Option, Some, ⊤}
use Rattle.std.specs.List.{AllByRecursion, sum_by}
use Rattle.std.specs.Option.{ForSome}
use Rattle.bd_limits.specs.Limits.{buffer_limit}
use Rattle.bd_keys.specs.Keys.{InRange}
use Rattle.bd_message.specs.declared.message.Message.{Message}
use Rattle.bd_message.specs.Messages.{IsMessage, IsPlain, size}
use Rattle.bd_node.specs.declared.node.Edge.{Edge}
use Rattle.bd_node.specs.declared.node.Node.{Node}
use Rattle.bd_node.specs.declared.node.Node.TheVariants.{Leaf, Inner}
use Rattle.bd_node.specs.declared.node.Step.{Step}
use Rattle.bd_node.specs.declared.push.Gain.{Gain}
use Rattle.bd_node.specs.declared.push.Gain.TheVariants.{Messages, Entries}
use Rattle.bd_node.specs.declared.push.Push.{Push}
use Rattle.bd_node.specs.declared.relief.Relief.{Relief}
use Rattle.bd_node.specs.Compaction.{IsCompacted}
use Rattle.bd_node.specs.Index.{IsIndex}
use Rattle.bd_node.specs.Stems.{AreByStem}
use Rattle.bd_node.specs.Keeping.{staying}
use Rattle.bd_node.specs.Touching.{touches}
use Rattle.bd_node.specs.Nodes.{level_of, buffer_size, appended}
use Rattle.bd_node.specs.Meaning.{Nodes}
use Rattle.bd_node.specs.Parts.{edges_of, buffer_of, end_at, IsEdgeAt}
use Rattle.bd_node.specs.Private.{IsPrivate}
use Rattle.bd_node.specs.Shape.{IsLeaf}
use Rattle.bd_node.specs.Steps.{IsTableAfter, IsCommitted}
use Rattle.bd_node.specs.Tables.{Table, IsKept}

-- ---- the node above

-- the node with these edges in place of the one at a place
abbrev pub exchanged : Node → ℕ → List Edge → Node
exchanged (Leaf entries) place list = Leaf entries
exchanged (Inner level edges buffer) place list =
    Inner level (take place edges ++ (list ++ drop (place + 1) edges)) buffer

-- the edge after its child has got so many more messages
abbrev pub seen_by : Edge → ℕ → Edge
seen_by e count = record e { seen = e.seen + count }

-- the node after so many messages have gone down its edge
abbrev pub IsRelieved : Node → ℕ → Edge → ℕ → Node → Type 0
IsRelieved n place e count above =
    IsCompacted (exchanged n place (seen_by e count ∷ [])) above

-- where the message can change what stands at a key of an edge, whose keys end there, it names no
-- node
abbrev pub IsPlainFor : Edge → Option (List ℕ) → Message → Type 0
IsPlainFor e hi m = (k : List ℕ) → InRange e.pivot hi k → touches m k ≡ true → IsPlain m

-- so many more messages may go down a node's edge: they wait there, and those of its keys name no
-- node
pub record CanRelieve (n : Node) (place count : ℕ) : Type 0 where
  pub edge : Edge
  pub here : IsEdgeAt n place edge
  pub there : edge.seen + count ≤ length (buffer_of n)
  pub plain : AllByRecursion (IsPlainFor edge (end_at n place))
      (take count (drop edge.seen (buffer_of n)))

-- ---- the same in place

-- the edges, having seen so many messages each
abbrev pub with_seen : List ℕ → List Edge → List Edge
with_seen [] edges = edges
with_seen (seen ∷ seens) [] = []
with_seen (seen ∷ seens) (e ∷ edges) = record e { seen = seen } ∷ with_seen seens edges

-- the node in which this has changed
abbrev pub changed_by : Relief → Node → Node
changed_by r (Leaf entries) = Leaf entries
changed_by r (Inner level edges buffer) =
    Inner level (with_seen r.seens.items edges) (staying r.stays.items buffer)

-- it can change the node: it speaks of each edge and each message, and its index is of those that stay
pub record FitsNode (r : Relief) (n : Node) : Type 0 where
  pub edges : length r.seens.items ≡ length (edges_of n)
  pub messages : length r.stays.items ≡ length (buffer_of n)
  pub index : ForSome r.index (λ index.
      IsIndex (staying r.stays.items (buffer_of n)) (length (staying r.stays.items (buffer_of n)))
      index.points.items index.ranges.items
      × AreByStem (staying r.stays.items (buffer_of n))
      (length (staying r.stays.items (buffer_of n))) index.stems.items)

-- what is to change in the node, for so many messages to go down its edge
pub record IsReliefOf (n : Node) (place count : ℕ) (r : Relief) : Type 0 where
  pub can : CanRelieve n place count
  pub fits : FitsNode r n
  pub relieved : IsRelieved n place can.edge count (changed_by r n)

-- ---- its child

-- what the child is then
abbrev pub gained : Node → Gain → Node
gained m (Messages list) = appended m list
gained m (Entries entries) = Leaf entries

-- what a child of a level may get: messages that name no node for an inner one, entries for a leaf
abbrev pub IsGain : ℕ → Gain → Type 0
IsGain level (Messages list) =
    (1 ≤ level) × AllByRecursion IsMessage list × AllByRecursion IsPlain list
IsGain level (Entries entries) = (level ≡ 0) × IsLeaf entries

-- there is room for it
abbrev pub HasRoomFor : Node → Gain → Type 0
HasRoomFor m (Messages list) = buffer_size m + sum_by size list ≤ buffer_limit
HasRoomFor m (Entries entries) = ⊤

-- ---- the step

-- the step that changes a child and the node above it
abbrev pub push_step : ℕ → ℕ → Node → ℕ → Node → Step
push_step root parent above child below = record {
  made = [];
  changes = record { id = child; node = below } ∷ record { id = parent; node = above } ∷ [];
  root = root;
}

-- it can be made of these nodes
pub record CanMake (push : Push) (n m : Node) : Type 0 where
  pub relieve : CanRelieve n push.place push.count
  pub room : HasRoomFor m push.gain

-- the step that moves the messages from one of these nodes to the other
pub record IsPushStep (root : ℕ) (push : Push) (n m : Node) (step : Step) : Type 0 where
  pub edge : Edge
  pub here : IsEdgeAt n push.place edge
  pub above : Node
  pub relieved : IsRelieved n push.place edge push.count above
  pub is : step ≡ push_step root push.parent above push.child (gained m push.gain)

-- what has to hold of it whatever the nodes are
pub record IsPush (t : Table) (push : Push) : Type 0 where
  pub parent : IsKept t push.parent
  pub child : IsKept t push.child
  pub lower : t.level push.child < t.level push.parent
  pub gain : IsGain (t.level push.child) push.gain

-- and of the nodes: they are private, and it can be made of them
pub record CanPush (nodes : Nodes) (t : Table) (push : Push) : Type 0 where
  pub parent : Node
  pub child : Node
  pub parent_is : nodes push.parent ≡ Some parent
  pub child_is : nodes push.child ≡ Some child
  pub can : CanMake push parent child
  pub parent_private : IsPrivate nodes t push.parent
  pub child_private : IsPrivate nodes t push.child

-- the table after it, whatever the nodes are: that after its step over some nodes of these levels,
-- a root of the size that the table tells
pub record HasPushed (t : Table) (push : Push) (new : Table) : Type 0 where
  pub parent : Node
  pub child : Node
  pub parent_level : level_of parent ≡ t.level push.parent
  pub child_level : level_of child ≡ t.level push.child
  pub root_size : push.parent ≡ t.root → buffer_size parent ≡ t.size
  pub step : Step
  pub makes : IsPushStep t.root push parent child step
  pub table : IsTableAfter t step new

-- the nodes and the table after it
pub record IsPushed (nodes : Nodes) (t : Table) (push : Push) (n m : Node) (new : Nodes)
    (u : Table) : Type 0 where
  pub step : Step
  pub makes : IsPushStep t.root push n m step
  pub table : IsTableAfter t step u
  pub committed : IsCommitted nodes t step new u
