use Rattle.std.proofs.Common.{refl}
use Rattle.bd_pager.specs.Places.{spots_in}
use Rattle.bd_pager.proofs.NamingLemmas.{lower_where_edges, lower_without_edges}
use Rattle.bd_pager.proofs.naming.names_lower.Goals as goal

pub returns-then-edges_name_lower : goal.returns-then-edges_name_lower
returns-then-edges_name_lower c =
    lower_where_edges (spots_in c.args.spots.now) _ c.args.node.now _ _ _ _ c.in-Inner.is c.as_slice.ensures c.as_slice-then-edges_name_lower.ensures
    c.edges_name_lower.result c.messages_name_lower.result c.edges_name_lower.ensures c.if-edges_name_lower.true c.messages_name_lower.ensures

pub returns-else-edges_name_lower : goal.returns-else-edges_name_lower
returns-else-edges_name_lower c =
    lower_without_edges (spots_in c.args.spots.now) c.in-Inner.level c.args.node.now c.in-Inner.edges c.as_slice.result.now c.in-Inner.buffer c.in-Inner.buffer c.in-Inner.is c.as_slice.ensures refl
    c.edges_name_lower.result c.edges_name_lower.ensures c.if-edges_name_lower.false
