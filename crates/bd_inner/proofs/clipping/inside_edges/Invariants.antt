use Rattle.std.proofs.Common.{◌≡◌, take, map}
use Rattle.bd_inner.specs.Clipping.{inside_edge}
use Rattle.bd_inner.proofs.clipping.inside_edges.Given as goal

abbrev pub invariant-loop-edge : goal.invariant-loop-edge
invariant-loop-edge l = l.made.items ≡ map (inside_edge l.s l.parts l.start) (take l.edge-index l.edges)
