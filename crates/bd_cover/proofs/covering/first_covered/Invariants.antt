use Rattle.bd_cover.proofs.Covers.{NoneCoveredBefore}
use Rattle.bd_cover.proofs.covering.first_covered.Given as goal

abbrev pub invariant-loop-place : goal.invariant-loop-place
invariant-loop-place l = NoneCoveredBefore l.cover l.node l.place
