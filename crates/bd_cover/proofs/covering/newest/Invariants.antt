use Rattle.std.proofs.Common.{◌-◌, ◌≤◌, length}
use Rattle.std.specs.Option.{option_copied}
use Rattle.bd_cover.proofs.Covers.{NoneFrom}
use Rattle.bd_cover.proofs.covering.newest.Given as goal

abbrev pub invariant-loop-at : goal.invariant-loop-at
invariant-loop-at l = record {
  within : l.at ≤ length l.buffer;
  none : NoneFrom l.cover l.buffer l.edge (option_copied l.hi) l.at;
}

abbrev pub decreases-loop-at : goal.decreases-loop-at
decreases-loop-at l = l.at - l.seen
