use Rattle.std.proofs.Common.{◌≡◌, drop}
use Rattle.bd_tally.specs.Counts.{first_wrong}
use Rattle.bd_tally.proofs.counts.first_wrong.Given as goal

-- the counts so far aren't wrong
abbrev pub invariant-loop-count : goal.invariant-loop-count
invariant-loop-count l = first_wrong (drop l.count-index l.counts) ≡ first_wrong l.counts
