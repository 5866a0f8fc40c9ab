use Rattle.bd_super.proofs.LiveLemmas.{one_live}
use Rattle.bd_super.proofs.laws.one_superblock_is_live.Goals as goal

pub returns : goal.returns
returns c = one_live
