use Rattle.std.proofs.Common.{drop}
use Rattle.std.specs.List.{AllByRecursion}
use Rattle.bd_node.specs.Shape.{IsEntry}
use Rattle.bd_format.proofs.leaf.are_entries.Given as goal

-- it holds of all if it holds of those that are left
abbrev pub invariant-loop-entry : goal.invariant-loop-entry
invariant-loop-entry l = AllByRecursion IsEntry (drop l.entry-index l.entries) → AllByRecursion IsEntry l.entries
