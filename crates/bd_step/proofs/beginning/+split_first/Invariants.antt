use Rattle.std.proofs.Common.{length}
use Rattle.bd_step.proofs.beginning.+split_first.Given as goal

abbrev pub decreases-split_first : goal.decreases-split_first
decreases-split_first l = length l.above.items
