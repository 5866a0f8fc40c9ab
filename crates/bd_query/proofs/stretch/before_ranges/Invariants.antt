use Rattle.std.proofs.Common.{◌-◌, length}
use Rattle.bd_query.specs.Stretches.{IsEnd, IsWithin, end_limit}
use Rattle.bd_query.proofs.NewestLemmas.{IsPassed}
use Rattle.bd_query.proofs.stretch.before_ranges.Given as goal

abbrev pub invariant-loop-place : goal.invariant-loop-place
invariant-loop-place l = record {
  passed : IsPassed l.buffer l.fn.from l.at l.key l.end;
  end : IsEnd l.key end_limit l.end;
  bound : IsWithin l.end l.fn.end;
}

abbrev pub decreases-loop-place : goal.decreases-loop-place
decreases-loop-place l = length l.buffer - l.at
