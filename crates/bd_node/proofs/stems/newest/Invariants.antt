use Rattle.std.proofs.Common.{◌≤◌, length}
use Rattle.bd_node.specs.Stems.{IsNewestFrom}
use Rattle.bd_node.proofs.stems.newest.Given as goal

abbrev pub invariant-loop-at : goal.invariant-loop-at
invariant-loop-at l = record {
  within : l.at ≤ length l.stems;
  found : IsNewestFrom l.items l.stems l.at l.fn.from l.key l.found;
}

abbrev pub decreases-loop-at : goal.decreases-loop-at
decreases-loop-at l = l.at
