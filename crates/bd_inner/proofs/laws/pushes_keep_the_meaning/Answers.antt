use Rattle.bd_inner.proofs.Exchanged.{pushed}
use Rattle.bd_inner.proofs.laws.pushes_keep_the_meaning.Goals as goal

pub returns : goal.returns
returns c = pushed
