use Rattle.bd_node.proofs.Stepping.{moving_meaning}
use Rattle.bd_node.proofs.laws.moves_keep_the_meaning_above.Goals as goal

pub returns : goal.returns
returns c = moving_meaning
