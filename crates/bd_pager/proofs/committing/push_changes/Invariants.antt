use Rattle.std.proofs.Common.{◌≡◌, ◌++◌, map}
use Rattle.bd_pager.specs.Stepping.{change_of}
use Rattle.bd_pager.proofs.committing.push_changes.Given as goal

-- the changes so far
abbrev pub invariant-loop-change : goal.invariant-loop-change
invariant-loop-change l = map change_of l.puts.items ≡ map change_of l.fn.puts.items ++ l.yielded
