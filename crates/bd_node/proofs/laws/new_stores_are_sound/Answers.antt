use Rattle.bd_node.proofs.LawLemmas.{new_sound}
use Rattle.bd_node.proofs.laws.new_stores_are_sound.Goals as goal

pub returns : goal.returns
returns c = new_sound
