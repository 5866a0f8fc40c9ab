use Rattle.std.specs.Vec.Iter.{into_iter_items}
use Rattle.bd_query.proofs.RunLemmas.{IsRaising}
use Rattle.bd_query.proofs.turns.raised_run.Given as goal

-- the entries so far were raised, and those to come are
abbrev pub invariant-loop-entry : goal.invariant-loop-entry
invariant-loop-entry l = IsRaising l.fn.end l.fn.shared l.fn.source l.fn.entries l.run.items (into_iter_items l.entry-iterator)
