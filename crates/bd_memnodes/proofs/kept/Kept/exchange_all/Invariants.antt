use Rattle.bd_memnodes.proofs.Carrying.{IsExchanging}
use Rattle.std.specs.Vec.Iter.{into_iter_items}
use Rattle.bd_memnodes.proofs.kept.Kept.exchange_all.Given as goal

-- the nodes so far were exchanged
abbrev pub invariant-loop-change : goal.invariant-loop-change
invariant-loop-change l = IsExchanging l.fn.self l.fn.changes.items l.yielded (into_iter_items l.change-iterator) l.self
