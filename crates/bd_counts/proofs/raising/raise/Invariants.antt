use Rattle.std.proofs.Common.{◌≡◌, ℕ, ◌+◌, take}
use Rattle.bd_counts.specs.Naming.{times_among}
use Rattle.bd_counts.specs.Frames.{counts_over}
use Rattle.bd_counts.proofs.raising.raise.Given as goal

-- the counts with the names so far
abbrev pub invariant-loop-name : goal.invariant-loop-name
invariant-loop-name g l =
    (c : ℕ) → counts_over g.S.Counted l.source l.counts c ≡ (g.S.Counted.table l.source).count c + times_among (take l.name-index l.names) c
