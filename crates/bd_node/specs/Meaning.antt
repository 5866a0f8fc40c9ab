-- What the nodes of a store have at each key.
use Rattle.std.specs.Prelude.{◌≡◌, ℕ, zero, suc, ◌<◌, List, Option, None, Some}
use Rattle.std.specs.List.{AllByRecursion}
use Rattle.bd_message.specs.KeyMaps.{At}
use Rattle.bd_message.specs.Effect.{NodesAt}
use Rattle.bd_node.specs.declared.node.Node.{Node}
use Rattle.bd_node.specs.Nodes.{level_of, height_of, names, node_has}

-- the nodes of a store by their ids
abbrev pub Nodes : Type 0
Nodes = ℕ → Option Node

-- what a node has, and nothing where there is none
abbrev pub found_at : NodesAt → Option Node → List ℕ → Option (List ℕ)
found_at below None k = None
found_at below (Some n) k = node_has below n k

-- what the node of an id has, where at most so many nodes are asked one below the other
unfoldable pub at_within : Nodes → ℕ → ℕ → At
at_within nodes zero id k = None
at_within nodes (suc depth) id k = found_at (at_within nodes depth) (nodes id) k

-- what the node of an id has at a key: by recursion on the level
unfoldable pub at : Nodes → ℕ → At
at nodes id k = at_within nodes (height_of (nodes id)) id k

-- the node is there, of a lower level
abbrev pub IsBelowLevel : ℕ → Option Node → Type 0
IsBelowLevel level None = ⊥
IsBelowLevel level (Some n) = level_of n < level

-- each node names nodes that are there and of lower levels
pub record IsLevelled (nodes : Nodes) : Type 0 where
  pub each : (id : ℕ) (n : Node) → nodes id ≡ Some n
      → AllByRecursion (λ c. IsBelowLevel (level_of n) (nodes c)) (names n)

-- at each node this is what the node has, where the nodes that it names have the same
pub record Meets (nodes : Nodes) (has : NodesAt) : Type 0 where
  pub each : (id : ℕ) (n : Node) → nodes id ≡ Some n → (k : List ℕ) → has id k ≡ node_has has n k
