use Rattle.std.proofs.Common.{◌≡◌, ◌-◌, ◌^◌, min, take}
use Rattle.bd_leaf.specs.Leaves.{entries_size}
use Rattle.bd_leaf.proofs.halves.total.Given as goal

-- what the entries so far count
abbrev pub invariant-loop-entry : goal.invariant-loop-entry
invariant-loop-entry l = l.total ≡ min (entries_size (take l.entry-index l.entries)) (2 ^ 64 - 1)
