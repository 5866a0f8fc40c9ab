use Rattle.bd_node.proofs.LawLemmas.{part_has}
use Rattle.bd_node.proofs.laws.parts_have_what_the_whole_has.Goals as goal

pub returns : goal.returns
returns c = part_has
