use Rattle.std.proofs.Common.{◌≡◌, ◌++◌, take}
use Rattle.bd_leaf.proofs.merging.copy_all.Given as goal

abbrev pub invariant-loop-entry : goal.invariant-loop-entry
invariant-loop-entry l = l.new.items ≡ l.fn.new.items ++ take l.entry-index l.rest
