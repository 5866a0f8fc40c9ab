use Rattle.std.proofs.Common.{length}
use Rattle.bd_graft.proofs.looking.+newest_named.Given as goal

abbrev pub decreases-newest_named : goal.decreases-newest_named
decreases-newest_named l = length l.list.now
