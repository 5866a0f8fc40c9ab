-- A child that is copied.
use Rattle.std.specs.Prelude.{◌≡◌, ℕ, List, Option, Some}
use Rattle.bd_leaf.specs.Leaves.{IsClipped as IsClippedLeaf}
use Rattle.bd_node.specs.declared.node.Edge.{Edge}
use Rattle.bd_node.specs.declared.node.Entry.{Entry}
use Rattle.bd_node.specs.declared.node.Node.{Node}
use Rattle.bd_node.specs.declared.node.Step.{Step}
use Rattle.bd_node.specs.declared.node.Node.TheVariants.{Leaf, Inner}
use Rattle.bd_node.specs.Nodes.{level_of}
use Rattle.bd_node.specs.Meaning.{Nodes}
use Rattle.bd_node.specs.Tables.{Table, IsNodeOf}
use Rattle.bd_inner.specs.Clipping.{IsClipped}
use Rattle.bd_node.specs.Parts.{end_at, IsEdgeAt}
use Rattle.bd_path.specs.declared.fetching.Fetched.{Fetched}
use Rattle.bd_path.specs.Fetching.{IsFetched}
use Rattle.bd_copy.specs.Copying.{IsCopyFor, IsCopyStep}
use Rattle.bd_copy.specs.Narrowing.{asked_from, asked_end, IsNarrowed}
use Rattle.bd_copy.specs.Shortening.{IsShortened}

-- a leaf freed of a prefix
pub record IsFreedLeaf (entries : List Entry) (s : List ℕ) (whole : Node) : Type 0 where
  pub list : List Entry
  pub clip : IsClippedLeaf entries s list
  pub whole_is : whole ≡ Leaf list

-- an inner node freed of a prefix, with sources of at most 518 bytes
pub record IsFreedInner (t : Table) (n : Node) (s : List ℕ) (whole : Node) : Type 0 where
  pub clipped : Node
  pub clip : IsClipped n s clipped
  pub shortened : IsShortened t clipped whole

-- a node freed of a prefix
abbrev pub IsFreed : Table → Node → List ℕ → Node → Type 0
IsFreed t (Leaf entries) s whole = IsFreedLeaf entries s whole
IsFreed t (Inner level edges buffer) s whole = IsFreedInner t (Inner level edges buffer) s whole

-- what a copy keeps of a node: it is freed of the edge's source, and has what the edge, whose keys
-- end there, asks it for, and nothing else
pub record IsCopyOf (t : Table) (n : Node) (e : Edge) (hi : Option (List ℕ)) (copy : Node) : Type 0
  where
    pub whole : Node
    pub freed : IsFreed t n e.source whole
    pub narrow : IsNarrowed (asked_from e) (asked_end e hi) whole copy

-- a fetched node whose edge at a place has a child
pub record HasChild (t : Table) (parent : Fetched) (place : ℕ) : Type 0 where
  pub parent_is : IsFetched t parent
  pub edge : Edge
  pub here : IsEdgeAt parent.node.value place edge
  pub child : ℕ
  pub child_is : edge.child ≡ Some child

-- the step that copies what an edge asks of its child, so that the edge asks the copy alone; in
-- known nodes the child is theirs, and the copy has for each key of the edge what it has for it
pub record IsPrivatiseStep (known : Type 0) (nodes : Nodes) (t : Table) (parent : Fetched)
    (place : ℕ) (step : Step) : Type 0 where
  pub edge : Edge
  pub here : IsEdgeAt parent.node.value place edge
  pub child : ℕ
  pub child_is : edge.child ≡ Some child
  pub old : Node
  pub own : IsNodeOf t (t.level child) old
  pub there : known → nodes child ≡ Some old
  pub copy : Node
  pub copied : IsCopyOf t old edge (end_at parent.node.value place) copy
  pub level_is : level_of copy ≡ level_of old
  pub has : known → IsCopyFor nodes edge (end_at parent.node.value place) copy
  pub step_is : IsCopyStep t.root t.next parent place copy step
