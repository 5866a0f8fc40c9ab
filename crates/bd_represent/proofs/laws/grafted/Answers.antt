use Rattle.bd_represent.proofs.SubtreeLemmas.{Represents-grafted}
use Rattle.bd_represent.proofs.laws.grafted.Goals as goal

pub returns : goal.returns
returns c = Represents-grafted
