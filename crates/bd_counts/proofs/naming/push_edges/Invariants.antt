use Rattle.std.proofs.Common.{◌≡◌, ◌++◌, drop}
use Rattle.std.specs.List.{flat_map}
use Rattle.bd_node.specs.Nodes.{edge_names}
use Rattle.bd_counts.proofs.naming.push_edges.Given as goal

-- the names so far, and those to come
abbrev pub invariant-loop-edge : goal.invariant-loop-edge
invariant-loop-edge l =
    l.list.items ++ flat_map edge_names (drop l.edge-index l.edges) ≡ l.fn.list.items ++ flat_map edge_names l.edges
