use Rattle.bd_node.proofs.Stepping.{keeping_meaning}
use Rattle.bd_node.proofs.laws.replaced_nodes_keep_the_meaning.Goals as goal

pub returns : goal.returns
returns c = keeping_meaning
