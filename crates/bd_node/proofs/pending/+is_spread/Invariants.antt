use Rattle.std.proofs.Common.{length}
use Rattle.bd_node.proofs.pending.+is_spread.Given as goal

abbrev pub decreases-is_spread : goal.decreases-is_spread
decreases-is_spread l = length l.edges.now
