-- The children of nodes' edges.
use Rattle.std.proofs.Common.{◌≡◌, ℕ, ◌≤◌, ◌<◌, Some, arith}
use Rattle.bd_node.specs.declared.node.Edge.{Edge}
use Rattle.bd_node.specs.declared.node.Node.{Node}
use Rattle.bd_node.specs.Nodes.{names, times}
use Rattle.bd_node.specs.Parts.{IsEdgeAt}
use Rattle.bd_node.specs.Shape.{IsShape}
use Rattle.bd_node.specs.Tables.{Table, IsKept, IsTable, IsLower}
use Rattle.bd_node.proofs.Lookup.{named_has}
use Rattle.bd_node.proofs.Parts.{names_child}
use Rattle.bd_path.specs.declared.fetching.Fetched.{Fetched}
use Rattle.bd_path.specs.Fetching.{IsFetched, IsEdgeTo, IsWayTo}

-- the edge's child, and what the node names besides
pub as_edge : (n : Node) (place child : ℕ) (e : Edge) → IsWayTo n place child e → IsEdgeTo n place child e
as_edge n place child e way = record { here = way.here; child_is = way.child_is }

pub edge_named : (n : Node) (place child : ℕ) (e : Edge) → IsShape n → IsEdgeTo n place child e → 1 ≤ times n child
edge_named n place child e h way = names_child n place child e way.here way.child_is

pub child_named : (n : Node) (place child : ℕ) (e : Edge) → IsShape n → IsWayTo n place child e → 1 ≤ times n child
child_named n place child e h way = edge_named n place child e h (as_edge n place child e way)

pub child_lower : (t : Table) (parent : Fetched) (place id : ℕ) (e : Edge) → IsFetched t parent → IsEdgeAt parent.node.value place e → e.child ≡ Some id → IsLower t (t.level parent.id) id
child_lower t parent place id e own here child =
    named_has (IsLower t (t.level parent.id)) id (names parent.node.value) own.own.lower (names_child parent.node.value place id e here child)

pub kept_child : (t : Table) (parent : Fetched) (place id : ℕ) (e : Edge) → IsFetched t parent → IsEdgeAt parent.node.value place e → e.child ≡ Some id → IsKept t id
kept_child t parent place id e own here child = (child_lower t parent place id e own here child).kept

pub some_next : (t : Table) → IsTable t → 1 ≤ t.next
some_next t table = let a : 1 ≤ t.root = table.low t.root table.root in let b : t.root < t.next = table.below t.root table.root in omega arith
