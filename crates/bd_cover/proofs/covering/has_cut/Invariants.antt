use Rattle.std.specs.Option.{option_copied}
use Rattle.bd_cover.proofs.Cuts.{NoCutBelow}
use Rattle.bd_cover.proofs.covering.has_cut.Given as goal

abbrev pub invariant-loop-at : goal.invariant-loop-at
invariant-loop-at l = NoCutBelow l.buffer l.edge (option_copied l.hi) l.at
