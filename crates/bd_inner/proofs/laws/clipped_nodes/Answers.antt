use Rattle.bd_inner.proofs.Clipped.{short_loose}
use Rattle.bd_inner.proofs.laws.clipped_nodes.Goals as goal

pub returns : goal.returns
returns c = short_loose
