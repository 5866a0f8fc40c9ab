use Rattle.std.proofs.Common.{length}
use Rattle.bd_path.proofs.raising.+raise_way.Given as goal

abbrev pub decreases-raise_way : goal.decreases-raise_way
decreases-raise_way l = length l.above.now
