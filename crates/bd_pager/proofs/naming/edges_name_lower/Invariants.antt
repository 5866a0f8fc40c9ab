use Rattle.std.proofs.Common.{drop}
use Rattle.std.specs.List.{AllByRecursion}
use Rattle.bd_node.specs.declared.node.Edge.{Edge}
use Rattle.bd_node.specs.Nodes.{edge_names}
use Rattle.bd_pager.specs.Places.{spots_in, IsLowerIn}
use Rattle.bd_pager.proofs.naming.edges_name_lower.Given as goal

-- it holds of all if it holds of those that are left
abbrev pub invariant-loop-edge : goal.invariant-loop-edge
invariant-loop-edge l =
    AllByRecursion (λ (edge : Edge). AllByRecursion (IsLowerIn (spots_in l.spots) l.level) (edge_names edge)) (drop l.edge-index l.edges)
    → AllByRecursion (λ (edge : Edge). AllByRecursion (IsLowerIn (spots_in l.spots) l.level) (edge_names edge)) l.edges
