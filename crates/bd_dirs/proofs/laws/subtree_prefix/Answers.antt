use Rattle.bd_represent.proofs.SubtreeLemmas.{begins-under}
use Rattle.bd_dirs.proofs.laws.subtree_prefix.Goals as goal

pub returns : goal.returns
returns c = begins-under
