use Rattle.std.proofs.Common.{length}
use Rattle.bd_graft.proofs.packing.+count_groups.Given as goal

abbrev pub decreases-count_groups : goal.decreases-count_groups
decreases-count_groups l = length l.layers.now
