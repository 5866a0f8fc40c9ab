use Rattle.bd_represent.proofs.TreeLemmas.{Represents-insert}
use Rattle.bd_represent.proofs.laws.new_entry.Goals as goal

pub returns : goal.returns
returns c = Represents-insert
