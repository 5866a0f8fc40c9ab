-- Fetched nodes, and their edges.
use Rattle.std.specs.Prelude.{◌≡◌, ℕ, List, [], Some}
use Rattle.std.specs.List.{AllByRecursion}
use Rattle.bd_node.specs.declared.node.Edge.{Edge}
use Rattle.bd_node.specs.declared.node.Node.{Node}
use Rattle.bd_node.specs.Nodes.{buffer_size}
use Rattle.bd_node.specs.Meaning.{Nodes}
use Rattle.bd_node.specs.Parts.{IsEdgeAt}
use Rattle.bd_node.specs.Private.{IsPrivate}
use Rattle.bd_node.specs.Tables.{Table, IsKept, IsNodeOf}
use Rattle.bd_path.specs.declared.fetching.Fetched.{Fetched}

-- what the table says of a fetched node
pub record IsFetched (t : Table) (f : Fetched) : Type 0 where
  pub kept : IsKept t f.id
  pub own : IsNodeOf t (t.level f.id) f.node.value
  pub root : f.id ≡ t.root → buffer_size f.node.value ≡ t.size

-- the contents of a fetched node
abbrev pub IsContents : Nodes → Fetched → Type 0
IsContents nodes f = nodes f.id ≡ Some f.node.value

-- the node is a private one
pub record IsOwn (nodes : Nodes) (t : Table) (parent : Fetched) : Type 0 where
  pub private : IsPrivate nodes t parent.id
  pub there : nodes parent.id ≡ Some parent.node.value

-- private nodes of known ones
abbrev pub AreOwn : Nodes → Table → List Fetched → Type 0
AreOwn nodes t way = AllByRecursion (IsOwn nodes t) way

-- the node's edge at a place asks the child
pub record IsEdgeTo (n : Node) (place child : ℕ) (e : Edge) : Type 0 where
  pub here : IsEdgeAt n place e
  pub child_is : e.child ≡ Some child

-- the node's edge at a place asks the child, with nothing in front of what is left of a key
pub record IsWayTo (n : Node) (place child : ℕ) (e : Edge) : Type 0 where
  pub here : IsEdgeAt n place e
  pub child_is : e.child ≡ Some child
  pub plain : e.source ≡ []
