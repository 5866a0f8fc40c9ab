use Rattle.std.proofs.Common.{length}
use Rattle.bd_graft.proofs.looking.+is_laid.Given as goal

abbrev pub decreases-is_laid : goal.decreases-is_laid
decreases-is_laid l = length l.layers.now
