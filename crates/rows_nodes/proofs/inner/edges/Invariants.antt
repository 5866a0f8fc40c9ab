use Rattle.std.specs.List.{AllByRecursion}
use Rattle.bd_inner.specs.Exchanging.{IsFlat}
use Rattle.rows_nodes.proofs.inner.edges.Given as goal

abbrev pub invariant-loop-pivot : goal.invariant-loop-pivot
invariant-loop-pivot l = AllByRecursion (IsFlat 0) l.edges.items
