use Rattle.bd_dirs.proofs.ChildOrder.{record_least}
use Rattle.bd_dirs.proofs.laws.record_first.Goals as goal

pub returns : goal.returns
returns c = record_least
