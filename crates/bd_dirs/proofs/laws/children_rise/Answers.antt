use Rattle.bd_dirs.proofs.ChildOrder.{children_order}
use Rattle.bd_dirs.proofs.laws.children_rise.Goals as goal

pub returns : goal.returns
returns c = children_order
