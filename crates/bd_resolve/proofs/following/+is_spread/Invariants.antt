use Rattle.std.proofs.Common.{length}
use Rattle.bd_resolve.proofs.following.+is_spread.Given as goal

abbrev pub decreases-is_spread : goal.decreases-is_spread
decreases-is_spread l = length l.edges.now
