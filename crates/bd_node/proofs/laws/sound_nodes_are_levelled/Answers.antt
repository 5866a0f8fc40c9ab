use Rattle.bd_node.proofs.Sound.{sound-levelled}
use Rattle.bd_node.proofs.laws.sound_nodes_are_levelled.Goals as goal

pub returns : goal.returns
returns c = sound-levelled
