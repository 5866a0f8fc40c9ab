use Rattle.std.proofs.Common.{◌≡◌, ◌+◌, ◌++◌, length, map}
use Rattle.std.specs.Vec.Iter.{into_iter_items}
use Rattle.bd_pager.specs.Stepping.{change_of, made_changes}
use Rattle.bd_pager.proofs.committing.made_puts.Given as goal

-- the nodes so far, and those to come
abbrev pub invariant-loop-node : goal.invariant-loop-node
invariant-loop-node l = record {
  puts : map change_of l.puts.items ++ made_changes l.id (into_iter_items l.node-iterator) ≡ made_changes l.fn.next l.fn.made;
  ids : l.id + length (into_iter_items l.node-iterator) ≡ l.fn.next + length l.fn.made;
}
