use Rattle.bd_super.proofs.Bodies.{one_super}
use Rattle.bd_super.proofs.laws.superblocks_are_read_again.Goals as goal

pub returns : goal.returns
returns c = one_super
