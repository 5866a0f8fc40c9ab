use Rattle.bd_memnodes.proofs.Carrying.{IsAdding}
use Rattle.std.specs.Vec.Iter.{into_iter_items}
use Rattle.bd_memnodes.proofs.kept.Kept.add_all.Given as goal

-- the nodes so far were added
abbrev pub invariant-loop-node : goal.invariant-loop-node
invariant-loop-node l = IsAdding l.fn.self l.fn.made.items l.yielded (into_iter_items l.node-iterator) l.self
