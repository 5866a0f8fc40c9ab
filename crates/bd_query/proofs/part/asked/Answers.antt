use Rattle.bd_node.specs.Nodes.{edge_names}
use Rattle.bd_query.proofs.part.asked.Goals as goal

pub returns-in-None-clause-named : goal.returns-in-None-clause-named
returns-in-None-clause-named c = c.known.ensures.named (edge_names c.args.edge.now)
