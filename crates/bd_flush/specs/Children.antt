-- Children that are split below their parent.
use Rattle.std.specs.Prelude.{◌≡◌, ℕ, ◌<◌, ◌≤◌, List, [], ◌∷◌, ◌++◌, length, Option, Some}
use Rattle.bd_limits.specs.Limits.{key_limit, room_edges, full_edges}
use Rattle.bd_keys.specs.Keys.{IsBelow, IsBelowEnd}
use Rattle.bd_node.specs.declared.node.Edge.{Edge}
use Rattle.bd_node.specs.declared.node.Node.{Node}
use Rattle.bd_node.specs.declared.node.Step.{Step}
use Rattle.bd_node.specs.Meaning.{Nodes}
use Rattle.bd_node.specs.Private.{IsPrivate}
use Rattle.bd_node.specs.Tables.{Table}
use Rattle.bd_node.specs.Compaction.{IsCompacted}
use Rattle.bd_node.specs.Parts.{edges_of, end_at, IsEdgeAt}
use Rattle.bd_inner.specs.declared.halves.Halves.{Halves}
use Rattle.bd_inner.specs.Halves.{AreHalves}
use Rattle.bd_inner.specs.Batches.{lifted}
use Rattle.bd_node.specs.Pushes.{exchanged}
use Rattle.bd_path.specs.declared.fetching.Fetched.{Fetched}
use Rattle.bd_flush.specs.declared.children.Parts.{Parts}
use Rattle.bd_flush.specs.declared.children.Halving.{Halving}
use Rattle.bd_flush.specs.declared.children.Halving.TheVariants.{Short, Long}
use Rattle.bd_flush.specs.declared.children.Side.{Side}
use Rattle.bd_flush.specs.declared.children.Side.TheVariants.{Lower, Both, Upper}
use Rattle.bd_path.specs.Fetching.{IsFetched, IsWayTo}
use Rattle.bd_path.specs.Paths.{child_step}

-- a key of an edge's child as one of the edge
abbrev pub parting : Edge → List ℕ → List ℕ
parting e pivot = lifted e ++ pivot

-- the edge of the keys from a pivot on, to another child
abbrev pub upper_edge : Edge → List ℕ → ℕ → Edge
upper_edge e pivot child = record e { pivot = pivot; child = Some child }

-- the pivot lies inside the edge at a place
abbrev pub IsInside : Node → ℕ → Edge → List ℕ → Type 0
IsInside n place e pivot = IsBelow e.pivot pivot × IsBelowEnd pivot (end_at n place)

-- a node `n` and its child `m` after the child's split, and what is made, where the edge `e` stands
-- in place of the node's own: both halves, or the half that alone has keys of the edge
pub data IsSplitInto (n : Node) (place : ℕ) (e : Edge) (m : Node) (next : ℕ)
    : Node → Node → List Node → Type 0 where
  parted : (halves : Halves) (parent : Node) → AreHalves m halves
      → IsInside n place e (parting e halves.pivot)
      → length (parting e halves.pivot) ≤ key_limit
      → IsCompacted (exchanged n place (e ∷ upper_edge e (parting e halves.pivot) next ∷ [])) parent
      → IsSplitInto n place e m next parent halves.first (halves.second ∷ [])
  lower : (halves : Halves) (parent : Node) → AreHalves m halves
      → ¬ IsBelowEnd (parting e halves.pivot) (end_at n place)
      → IsCompacted (exchanged n place (e ∷ [])) parent
      → IsSplitInto n place e m next parent halves.first []
  upper : (halves : Halves) (parent : Node) → AreHalves m halves
      → ¬ IsBelow e.pivot (parting e halves.pivot)
      → IsCompacted (exchanged n place (e ∷ [])) parent
      → IsSplitInto n place e m next parent halves.second []

-- as a key of the edge the pivot lies inside the one at a place, and is too long for the node
abbrev pub IsLongIn : Node → ℕ → Edge → List ℕ → Type 0
IsLongIn n place e pivot =
    IsInside n place e (parting e pivot) × (key_limit < length (parting e pivot))

-- which of a child's halves have keys of an edge that ends there: `pivot` parts them
abbrev pub IsSide : Edge → Option (List ℕ) → List ℕ → Side → Type 0
IsSide e hi pivot Lower = ¬ IsBelowEnd pivot hi
IsSide e hi pivot Upper = ¬ IsBelow e.pivot pivot
IsSide e hi pivot Both = IsBelow e.pivot pivot × IsBelowEnd pivot hi

-- a node over the halves of a child, where the edge `e` stands in place of the node's own, or the edge
-- and the halves, where the pivot would be too long
abbrev pub IsOver : Node → ℕ → Edge → Halves → ℕ → Halving → Type 0
IsOver n place e halves next (Short parts) =
    (m : Node) → AreHalves m halves
    → IsSplitInto n place e m next parts.node parts.half parts.made.items
IsOver n place e halves next (Long edge own) =
    (edge ≡ e) × (own ≡ halves) × IsLongIn n place e halves.pivot

-- a node and its child after the child's split, and what is made
pub record AreParts (n : Node) (place : ℕ) (m : Node) (next : ℕ) (parts : Parts) : Type 0 where
  pub edge : Edge
  pub here : IsEdgeAt n place edge
  pub into : IsSplitInto n place edge m next parts.node parts.half parts.made.items

-- a private child with 15 or 16 edges that may be split, as far as the table tells
pub record CanSplitChild (t : Table) (parent : Fetched) (place : ℕ) (child : Fetched) : Type 0 where
  pub parent_is : IsFetched t parent
  pub child_is : IsFetched t child
  pub room : length (edges_of parent.node.value) ≤ room_edges
  pub full : full_edges ≤ length (edges_of child.node.value)
  pub edge : Edge
  pub way : IsWayTo parent.node.value place child.id edge
  pub once : t.count child.id ≡ 1

-- the nodes are those of a private parent and its child
pub record AreFamily (nodes : Nodes) (t : Table) (parent child : Fetched) : Type 0 where
  pub private : IsPrivate nodes t parent.id
  pub parent_there : nodes parent.id ≡ Some parent.node.value
  pub child_there : nodes child.id ≡ Some child.node.value

-- the pivot of the halves is inside the edge, and too long for the parent
pub record IsLongPivot (n : Node) (place : ℕ) (m : Node) : Type 0 where
  pub edge : Edge
  pub here : IsEdgeAt n place edge
  pub halves : Halves
  pub are : AreHalves m halves
  pub long : IsLongIn n place edge halves.pivot

-- the step of a child's split
pub record IsChildStep (root next : ℕ) (parent : Fetched) (place : ℕ) (child : Fetched)
    (step : Step) : Type 0 where
  pub edge : Edge
  pub here : IsEdgeAt parent.node.value place edge
  pub node : Node
  pub half : Node
  pub made : List Node
  pub into : IsSplitInto parent.node.value place edge child.node.value next node half made
  pub is : step ≡ child_step root parent.id node child.id half made
