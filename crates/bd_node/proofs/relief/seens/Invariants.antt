use Rattle.std.proofs.Common.{◌≡◌, take, map}
use Rattle.bd_node.specs.declared.node.Edge.{Edge}
use Rattle.bd_node.specs.Keeping.{stay_count}
use Rattle.bd_node.proofs.relief.seens.Given as goal

abbrev pub invariant-loop-edge : goal.invariant-loop-edge
invariant-loop-edge l = l.seens.items ≡ map (λ (e : Edge). stay_count l.mask e.seen) (take l.edge-index l.edges)
