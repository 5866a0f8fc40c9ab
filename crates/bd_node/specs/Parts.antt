-- The parts of a node: its edges, and the messages that wait in it.
use Rattle.std.specs.Prelude.{◌≡◌, ℕ, ◌+◌, List, [], drop, Option, Some, slice_get}
use Rattle.bd_message.specs.declared.message.Message.{Message}
use Rattle.bd_node.specs.declared.node.Edge.{Edge}
use Rattle.bd_node.specs.declared.node.Node.{Node}
use Rattle.bd_node.specs.declared.node.Node.TheVariants.{Leaf, Inner}
use Rattle.bd_node.specs.Shape.{end_before}

-- the edges of a node, and none of a leaf
abbrev pub edges_of : Node → List Edge
edges_of (Leaf entries) = []
edges_of (Inner level edges buffer) = edges

-- the messages that wait in a node
abbrev pub buffer_of : Node → List Message
buffer_of (Leaf entries) = []
buffer_of (Inner level edges buffer) = buffer

-- a node's edge at a place
abbrev pub IsEdgeAt : Node → ℕ → Edge → Type 0
IsEdgeAt n place e = slice_get (edges_of n) place ≡ Some e

-- where the keys of a node's edge at a place end
abbrev pub end_at : Node → ℕ → Option (List ℕ)
end_at n place = end_before (drop (place + 1) (edges_of n))
