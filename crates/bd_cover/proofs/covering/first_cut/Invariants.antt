use Rattle.bd_cover.proofs.Cuts.{NoCutBefore}
use Rattle.bd_cover.proofs.covering.first_cut.Given as goal

abbrev pub invariant-loop-place : goal.invariant-loop-place
invariant-loop-place l = NoCutBefore l.node l.place
