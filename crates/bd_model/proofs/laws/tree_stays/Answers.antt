use Rattle.bd_model.proofs.Accepted.{after-refused}
use Rattle.bd_model.proofs.TreeLaws.{after-reading}
use Rattle.bd_model.proofs.laws.tree_stays.Goals as goal

pub returns : goal.returns
returns c = record { refused = after-refused; reading = after-reading }
