use Rattle.bd_represent.proofs.OneTree.{one_represented}
use Rattle.bd_represent.proofs.laws.one_represented.Goals as goal

pub returns : goal.returns
returns c = one_represented
