use Rattle.bd_node.specs.Index.{IsNearest}
use Rattle.bd_node.proofs.scans.next_point.Given as goal

abbrev pub invariant-loop-place : goal.invariant-loop-place
invariant-loop-place l = IsNearest l.items l.fn.from l.place l.key l.found
