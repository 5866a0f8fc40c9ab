use Rattle.bd_model.proofs.TreeStays.{root_only_is_tree, after_stays}
use Rattle.bd_model.proofs.laws.is_tree.Goals as goal

pub returns : goal.returns
returns c = record { first = root_only_is_tree; after = after_stays }
