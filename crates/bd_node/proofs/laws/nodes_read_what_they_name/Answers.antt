use Rattle.bd_node.proofs.Lookup.{node_at-same}
use Rattle.bd_node.proofs.laws.nodes_read_what_they_name.Goals as goal

pub returns : goal.returns
returns c = node_at-same
