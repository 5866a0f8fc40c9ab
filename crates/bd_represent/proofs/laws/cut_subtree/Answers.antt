use Rattle.bd_represent.proofs.SubtreeLemmas.{Represents-without}
use Rattle.bd_represent.proofs.laws.cut_subtree.Goals as goal

pub returns : goal.returns
returns c = Represents-without
