use Rattle.std.proofs.Common.{length}
use Rattle.bd_format.proofs.inner.+are_edges.Given as goal

abbrev pub decreases-are_edges : goal.decreases-are_edges
decreases-are_edges l = length l.edges.now
