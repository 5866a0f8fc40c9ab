use Rattle.bd_super.proofs.Damage.{first_block}
use Rattle.bd_super.proofs.laws.damage_of_the_first_block.Goals as goal

pub returns : goal.returns
returns c = first_block
