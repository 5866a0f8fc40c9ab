use Rattle.std.proofs.Common.{take}
use Rattle.bd_node.specs.Compaction.{IsMask}
use Rattle.bd_inner.proofs.compaction.pending_mask.Given as goal

abbrev pub invariant-loop-place : goal.invariant-loop-place
invariant-loop-place l = IsMask l.mask.items l.edges (take l.place l.buffer)
