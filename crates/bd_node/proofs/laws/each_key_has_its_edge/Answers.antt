use Rattle.bd_node.proofs.LawLemmas.{edge_some, edge_only}
use Rattle.bd_node.proofs.laws.each_key_has_its_edge.Goals as goal

pub returns-clause-some : goal.returns-clause-some
returns-clause-some c = edge_some

pub returns-clause-only : goal.returns-clause-only
returns-clause-only c = edge_only
