-- Nodes without the messages that are pending for no edge.
use Rattle.std.specs.Prelude.{◌≡◌, ◌↔◌, ℕ, ◌≤◌, Bool, true, List, [], length, map, Some, slice_get}
use Rattle.std.specs.List.{AllByRecursion, sum_by}
use Rattle.bd_limits.specs.Limits.{buffer_limit, level_limit, edge_limit}
use Rattle.bd_message.specs.declared.message.Message.{Message}
use Rattle.bd_message.specs.Messages.{IsMessage, size}
use Rattle.bd_node.specs.declared.node.Edge.{Edge}
use Rattle.bd_node.specs.declared.node.Node.{Node}
use Rattle.bd_node.specs.declared.node.Node.TheVariants.{Leaf, Inner}
use Rattle.bd_node.specs.Keeping.{staying, stay_count}
use Rattle.bd_node.specs.Shape.{end_before, EachEdge, SomeEdge, IsEdge, IsPending, IsLeaf}

-- an inner node, but that messages may be pending for no edge
pub record IsLoose (level : ℕ) (edges : List Edge) (buffer : List Message) : Type 0 where
  pub low : 1 ≤ level
  pub high : level ≤ level_limit
  pub few : length edges ≤ edge_limit
  pub first : end_before edges ≡ Some []
  pub each : EachEdge (IsEdge (length buffer)) edges
  pub messages : AllByRecursion IsMessage buffer
  pub size : sum_by size buffer ≤ buffer_limit

-- a node that is well-formed but for that
abbrev pub IsLooseNode : Node → Type 0
IsLooseNode (Leaf entries) = IsLeaf entries
IsLooseNode (Inner level edges buffer) = IsLoose level edges buffer

-- the list says of each message whether it is pending for some edge
pub record IsMask (mask : List Bool) (edges : List Edge) (buffer : List Message) : Type 0 where
  pub long : length mask ≡ length buffer
  pub each : (place : ℕ) (m : Message) → slice_get buffer place ≡ Some m
      → (slice_get mask place ≡ Some true) ↔ SomeEdge (IsPending place m) edges

-- an edge that has seen those of the messages it had seen that stay
abbrev pub lowered : List Bool → Edge → Edge
lowered mask e = record e { seen = stay_count mask e.seen }

-- an inner node without the messages that are pending for no edge
pub record IsSwept (level : ℕ) (edges : List Edge) (buffer : List Message) (n : Node) : Type 0 where
  pub mask : List Bool
  pub pending : IsMask mask edges buffer
  pub swept : n ≡ Inner level (map (lowered mask) edges) (staying mask buffer)

-- the second node is the first without the messages that are pending for no edge
abbrev pub IsCompacted : Node → Node → Type 0
IsCompacted (Leaf entries) n = n ≡ Leaf entries
IsCompacted (Inner level edges buffer) n = IsSwept level edges buffer n
