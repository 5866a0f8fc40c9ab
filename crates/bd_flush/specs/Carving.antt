-- The keys of a Goto get edges of their own.
use Rattle.std.specs.Prelude.{◌≡◌, ℕ, ◌<◌, ◌≤◌, List, length, Option, Some, slice_get}
use Rattle.bd_limits.specs.Limits.{room_edges}
use Rattle.bd_message.specs.declared.message.Message.{Message}
use Rattle.bd_node.specs.declared.node.Edge.{Edge}
use Rattle.bd_node.specs.declared.node.Node.{Node}
use Rattle.bd_node.specs.declared.node.Step.{Step}
use Rattle.bd_node.specs.Shape.{IsPending}
use Rattle.bd_node.specs.Tables.{Table}
use Rattle.bd_inner.specs.Carving.{IsCarved}
use Rattle.bd_node.specs.Parts.{edges_of, buffer_of, end_at, IsEdgeAt}
use Rattle.bd_path.specs.declared.fetching.Fetched.{Fetched}
use Rattle.bd_path.specs.Fetching.{IsFetched}
use Rattle.bd_flush.specs.GoingDown.{MayGoDown, child_level}
use Rattle.bd_path.specs.Paths.{change_step}

-- the message at a place is a Goto that is pending for an edge, whose keys end there, and may not go
-- down it to a child of a level
abbrev pub IsHeldGoto : (ℕ → ℕ) → ℕ → ℕ → Message → Edge → Option (List ℕ) → Type 0
IsHeldGoto level top index m e hi = IsPending index m e hi × (¬ MayGoDown level top e hi m)

-- where the message at a place is pending for the edge, it may go down it
abbrev pub IsFreeAt : (ℕ → ℕ) → ℕ → ℕ → Message → Edge → Option (List ℕ) → Type 0
IsFreeAt level top index m e hi = IsPending index m e hi → MayGoDown level top e hi m

-- each message that is pending for the edge may go down it
abbrev pub AreFree : (ℕ → ℕ) → ℕ → List Message → Edge → Option (List ℕ) → Type 0
AreFree level top buffer e hi =
    (i : ℕ) (m : Message) → slice_get buffer i ≡ Some m → IsFreeAt level top i m e hi

-- the oldest Goto that is pending for the edge, and may not go down it, stands at this place
pub record IsOldestGoto (level : ℕ → ℕ) (top : ℕ) (buffer : List Message) (e : Edge)
    (hi : Option (List ℕ)) (index : ℕ) : Type 0 where
  pub message : Message
  pub there : slice_get buffer index ≡ Some message
  pub held : IsHeldGoto level top index message e hi
  pub oldest : (i : ℕ) (m : Message) → i < index → slice_get buffer i ≡ Some m
      → IsFreeAt level top i m e hi

-- the same of a node's edge
abbrev pub IsOldestAt : (ℕ → ℕ) → Node → ℕ → Edge → ℕ → Type 0
IsOldestAt level n place e index =
    IsOldestGoto level (child_level level e.child) (buffer_of n) e (end_at n place) index

-- the Goto at this index, the oldest one that is pending for a node's edge, and may not go down it,
-- may be carved out, as far as the table tells
pub record CanCarve (t : Table) (parent : Fetched) (place index : ℕ) : Type 0 where
  pub parent_is : IsFetched t parent
  pub room : length (edges_of parent.node.value) ≤ room_edges
  pub edge : Edge
  pub here : IsEdgeAt parent.node.value place edge
  pub oldest : IsOldestAt t.level parent.node.value place edge index

-- the node `m` is `n` after the oldest Goto is carved out that is pending for the edge at a place, and
-- may not go down it
pub record IsCarvedFor (level : ℕ → ℕ) (n : Node) (place : ℕ) (m : Node) : Type 0 where
  pub edge : Edge
  pub here : IsEdgeAt n place edge
  pub index : ℕ
  pub oldest : IsOldestAt level n place edge index
  pub carved : IsCarved n index m

-- the step that carves a Goto out
pub record IsCarveStep (t : Table) (parent : Fetched) (place : ℕ) (step : Step) : Type 0 where
  pub node : Node
  pub carved : IsCarvedFor t.level parent.node.value place node
  pub is : step ≡ change_step t.root parent.id node
