use Rattle.std.proofs.Common.{◌≡◌, ◌++◌, take, drop, map}
use Rattle.bd_node.specs.Compaction.{lowered}
use Rattle.bd_inner.proofs.compaction.lower.Given as goal

abbrev pub invariant-loop-edge : goal.invariant-loop-edge
invariant-loop-edge l =
    l.edge-items ≡ map (lowered l.mask) (take l.edge-index l.initial.edge-items) ++ drop l.edge-index l.initial.edge-items
