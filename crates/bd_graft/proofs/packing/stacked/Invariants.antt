use Rattle.std.proofs.Common.{vec_len}
use Rattle.bd_graft.proofs.Stacking.{IsSoFar}
use Rattle.bd_graft.proofs.packing.stacked.Given as goal

-- the layers that aren't left are on the stack
abbrev pub invariant-loop-layer : goal.invariant-loop-layer
invariant-loop-layer g l = IsSoFar (g.S.NodeStore.table l.fn.store) l.fn.end l.fn.layers.items l.layers.items l.stack

abbrev pub decreases-loop-layer : goal.decreases-loop-layer
decreases-loop-layer g l = vec_len l.layers
