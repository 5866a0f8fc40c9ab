-- A copy that becomes the child of an edge alone.
use Rattle.std.specs.Prelude.{◌≡◌, ℕ, ◌<◌, List, [], ◌∷◌, ◌++◌, drop, Option, Some}
use Rattle.bd_keys.specs.Keys.{InRange, IsKey}
use Rattle.bd_node.specs.declared.node.Edge.{Edge}
use Rattle.bd_node.specs.declared.node.Node.{Node}
use Rattle.bd_node.specs.declared.node.Step.{Step}
use Rattle.bd_node.specs.Nodes.{level_of, node_at}
use Rattle.bd_node.specs.Meaning.{Nodes, at}
use Rattle.bd_node.specs.Tables.{Table, IsNodeOf}
use Rattle.bd_node.specs.Compaction.{IsCompacted}
use Rattle.bd_inner.specs.Exchanging.{way_to}
use Rattle.bd_node.specs.Pushes.{exchanged}
use Rattle.bd_node.specs.Parts.{end_at, IsEdgeAt}
use Rattle.bd_path.specs.declared.fetching.Fetched.{Fetched}
use Rattle.bd_path.specs.Fetching.{IsFetched}
use Rattle.bd_path.specs.Paths.{path_step}

-- a node, lower than a fetched one and over kept nodes, for an edge of that one which has a child
pub record CanPutCopy (t : Table) (parent : Fetched) (place : ℕ) (copy : Node) : Type 0 where
  pub parent_is : IsFetched t parent
  pub edge : Edge
  pub here : IsEdgeAt parent.node.value place edge
  pub child : ℕ
  pub child_is : edge.child ≡ Some child
  pub own : IsNodeOf t (level_of copy) copy
  pub lower : level_of copy < level_of parent.node.value

-- the node has for each key of the edge, which end there, what the edge's child has for it behind
-- the edge's source
abbrev pub IsCopyFor : Nodes → Edge → Option (List ℕ) → Node → Type 0
IsCopyFor nodes e hi copy = (c : ℕ) → e.child ≡ Some c
    → (k : List ℕ) → IsKey k → InRange e.pivot hi k
    → node_at (at nodes) copy (drop e.lift k) ≡ at nodes c (e.source ++ drop e.lift k)

-- the same of a node's edge at a place
abbrev pub IsCopyAt : Nodes → Node → ℕ → Node → Type 0
IsCopyAt nodes n place copy = (e : Edge) → IsEdgeAt n place e
    → IsCopyFor nodes e (end_at n place) copy

-- the node whose edge at a place asks another child, with nothing in front of a key
abbrev pub IsRedirected : Node → ℕ → Edge → ℕ → Node → Type 0
IsRedirected n place e child parent =
    IsCompacted (exchanged n place (way_to e e.lift child ∷ [])) parent

-- the step that makes a copy for an edge
pub record IsCopyStep (root next : ℕ) (parent : Fetched) (place : ℕ) (copy : Node) (step : Step)
    : Type 0 where
  pub edge : Edge
  pub here : IsEdgeAt parent.node.value place edge
  pub node : Node
  pub into : IsRedirected parent.node.value place edge next node
  pub is : step ≡ path_step root parent.id node [] (copy ∷ [])
