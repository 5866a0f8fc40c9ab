use Rattle.std.proofs.Common.{◌≡◌, take, map}
use Rattle.bd_leaf.specs.Leaves.{without}
use Rattle.bd_leaf.proofs.receiving.all_without.Given as goal

abbrev pub invariant-loop-entry : goal.invariant-loop-entry
invariant-loop-entry l = l.new.items ≡ map (without l.count) (take l.entry-index l.entries)
