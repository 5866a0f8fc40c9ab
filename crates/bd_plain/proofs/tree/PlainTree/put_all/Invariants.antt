use Rattle.std.proofs.Common.{◌≡◌, ◌++◌, vec_len}
use Rattle.std.specs.FinMap.{from_entries, entries}
use Rattle.bd_model.specs.Tree.{path_cmp}
use Rattle.bd_plain.proofs.tree.PlainTree.put_all.Given as goal

-- those that are left, over what is there
abbrev pub invariant-loop-last : goal.invariant-loop-last
invariant-loop-last l = from_entries {R = path_cmp} (l.placed.items ++ entries l.self) ≡ from_entries (l.initial.placed.items ++ entries l.fn.self)

abbrev pub decreases-loop-last : goal.decreases-loop-last
decreases-loop-last l = vec_len l.placed
