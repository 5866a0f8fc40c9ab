use Rattle.bd_inner.proofs.Moved.{freed_names}
use Rattle.bd_inner.proofs.laws.freed_names.Goals as goal

pub returns : goal.returns
returns c = freed_names
