use Rattle.std.proofs.Common.{◌≡◌, ◌++◌, drop}
use Rattle.bd_names.proofs.CutsLemmas.{cuts_from}
use Rattle.bd_names.proofs.path.cuts_in.Given as goal

abbrev pub invariant-loop-i : goal.invariant-loop-i
invariant-loop-i l = cuts_from 1 (drop 1 l.text) ≡ l.cuts.items ++ cuts_from l.i (drop l.i l.text)
