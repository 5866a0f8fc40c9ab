use Rattle.std.specs.Vec.Iter.{into_iter_items}
use Rattle.bd_query.proofs.ScanLemmas.{IsBegun}
use Rattle.bd_query.proofs.search.beginning.Given as goal

-- what was found so far
abbrev pub invariant-loop-key : goal.invariant-loop-key
invariant-loop-key l = IsBegun l.most l.prefix l.fn.entries l.found.items (into_iter_items l.key-iterator)
