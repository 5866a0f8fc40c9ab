use Rattle.std.proofs.Common.{drop}
use Rattle.std.specs.Prelude.{flat_map}
use Rattle.bd_node.specs.Nodes.{edge_names}
use Rattle.bd_memnodes.proofs.Loops.{IsTaking}
use Rattle.bd_memnodes.proofs.kept.Kept.take_back_edges.Given as goal

-- the edges so far were taken
abbrev pub invariant-loop-edge : goal.invariant-loop-edge
invariant-loop-edge l =
    IsTaking (flat_map edge_names l.edges) (flat_map edge_names (drop l.edge-index l.edges)) l.fn.self l.self
