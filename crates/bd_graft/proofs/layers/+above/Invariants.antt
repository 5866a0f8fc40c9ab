use Rattle.std.proofs.Common.{length}
use Rattle.bd_graft.proofs.layers.+above.Given as goal

abbrev pub decreases-above : goal.decreases-above
decreases-above g l = length l.list.now
