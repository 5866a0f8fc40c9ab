use Rattle.std.proofs.Common.{◌≡◌, ◌++◌, drop}
use Rattle.std.specs.List.{flat_map}
use Rattle.bd_node.specs.Nodes.{names}
use Rattle.bd_counts.proofs.naming.push_nodes.Given as goal

-- the names so far, and those to come
abbrev pub invariant-loop-node : goal.invariant-loop-node
invariant-loop-node l =
    l.list.items ++ flat_map names (drop l.node-index l.nodes) ≡ l.fn.list.items ++ flat_map names l.nodes
