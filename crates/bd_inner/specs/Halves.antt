-- The halves of a node.
use Rattle.std.specs.Prelude.{◌≡◌, ℕ, ◌+◌, ◌≤◌, ◌==◌, List, [], ◌++◌, length, None, count_by}
use Rattle.std.specs.List.{flat_map}
use Rattle.bd_limits.specs.Limits.{key_limit}
use Rattle.bd_keys.specs.Keys.{IsBelow, IsAtLeast}
use Rattle.bd_message.specs.Effect.{NodesAt}
use Rattle.bd_node.specs.declared.node.Edge.{Edge}
use Rattle.bd_node.specs.declared.node.Node.{Node}
use Rattle.bd_node.specs.Nodes.{level_of, buffer_size, message_names, edge_names, times, node_at}
use Rattle.bd_node.specs.Shape.{IsShape}
use Rattle.bd_node.specs.Parts.{edges_of, buffer_of}
use Rattle.bd_inner.specs.declared.halves.Halves.{Halves}

-- how often a node's messages name another
abbrev pub goto_times : Node → ℕ → ℕ
goto_times n c = count_by (λ name. name == c) (flat_map message_names (buffer_of n))

-- an edge without a child, which has seen so many messages
abbrev pub bare_edge : List ℕ → ℕ → Edge
bare_edge pivot seen = record { pivot = pivot; lift = 0; source = []; child = None; seen = seen }

-- a half of a node: it has what the node has at the keys of its own
pub record IsHalf (n : Node) (own : List ℕ → Type 0) (half : Node) : Type 0 where
  pub shape : IsShape half
  pub level_is : level_of half ≡ level_of n
  pub few : length (edges_of half) ≤ 9
  pub meaning : (below : NodesAt) (k : List ℕ) → own k → node_at below half k ≡ node_at below n k
  pub size : buffer_size half ≤ buffer_size n
  pub names : (c : ℕ) → times half c ≤ times n c

-- the halves of a node, one with the keys below a pivot and one with the others
pub record AreHalves (n : Node) (halves : Halves) : Type 0 where
  pub lower : IsHalf n (λ k. IsBelow k halves.pivot) halves.first
  pub upper : IsHalf n (λ k. IsAtLeast k halves.pivot) halves.second
  pub some : IsBelow [] halves.pivot
  pub short : length halves.pivot ≤ key_limit
  pub edges : flat_map edge_names (edges_of halves.first)
      ++ flat_map edge_names (edges_of halves.second) ≡ flat_map edge_names (edges_of n)
  pub gotos : (c : ℕ)
      → goto_times n c ≤ goto_times halves.first c + goto_times halves.second c
