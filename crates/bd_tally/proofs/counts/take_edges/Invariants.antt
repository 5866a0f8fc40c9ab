use Rattle.std.proofs.Common.{◌≡◌, take, flat_map}
use Rattle.bd_node.specs.Nodes.{edge_names}
use Rattle.bd_tally.specs.Counts.{counts_after}
use Rattle.bd_tally.proofs.counts.take_edges.Given as goal

-- the counts after the names in the edges so far
abbrev pub invariant-loop-edge : goal.invariant-loop-edge
invariant-loop-edge l = l.counts ≡ counts_after (flat_map edge_names (take l.edge-index l.edges)) l.fn.counts
