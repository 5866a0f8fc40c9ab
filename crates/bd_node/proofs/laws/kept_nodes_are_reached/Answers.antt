use Rattle.bd_node.proofs.Privacy.{reached}
use Rattle.bd_node.proofs.laws.kept_nodes_are_reached.Goals as goal

pub returns : goal.returns
returns c = reached
