use Rattle.bd_model.proofs.TreeLaws.{after-removed, after-remove-others}
use Rattle.bd_model.proofs.laws.removed.Goals as goal

pub returns : goal.returns
returns c = record { gone = after-removed; beside = after-remove-others }
