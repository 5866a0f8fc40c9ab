use Rattle.std.proofs.Common.{length}
use Rattle.bd_resolve.proofs.following.+most_seen.Given as goal

abbrev pub decreases-most_seen : goal.decreases-most_seen
decreases-most_seen l = length l.edges.now
