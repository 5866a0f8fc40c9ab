use Rattle.std.proofs.Common.{◌*◌}
use Rattle.bd_slots.specs.Words.{IsNoneBelow}
use Rattle.bd_slots.proofs.words.first_set.Given as goal

abbrev pub invariant-loop-at : goal.invariant-loop-at
invariant-loop-at l = IsNoneBelow l.words (64 * l.at)
