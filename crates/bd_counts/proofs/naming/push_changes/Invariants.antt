use Rattle.std.proofs.Common.{◌≡◌, ◌++◌, drop}
use Rattle.std.specs.List.{flat_map}
use Rattle.bd_counts.specs.Naming.{change_names}
use Rattle.bd_counts.proofs.naming.push_changes.Given as goal

-- the names so far, and those to come
abbrev pub invariant-loop-change : goal.invariant-loop-change
invariant-loop-change l =
    l.list.items ++ flat_map change_names (drop l.change-index l.changes) ≡ l.fn.list.items ++ flat_map change_names l.changes
