use Rattle.std.proofs.Common.{length}
use Rattle.bd_node.proofs.stems.+shared.Given as goal

abbrev pub decreases-shared : goal.decreases-shared
decreases-shared l = length l.own.now
