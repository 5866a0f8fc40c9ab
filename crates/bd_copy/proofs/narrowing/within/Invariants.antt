use Rattle.std.proofs.Common.{◌≡◌, take}
use Rattle.std.specs.Option.{option_copied}
use Rattle.bd_copy.specs.Narrowing.{within}
use Rattle.bd_copy.proofs.narrowing.within.Given as goal

abbrev pub invariant-loop-entry : goal.invariant-loop-entry
invariant-loop-entry l = l.list.items ≡ within l.fn.lo (option_copied l.fn.hi) (take l.entry-index l.entries)
