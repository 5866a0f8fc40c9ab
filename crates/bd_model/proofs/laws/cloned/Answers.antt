use Rattle.bd_model.proofs.TreeLaws.{after-cloned, after-clone-others, clone_apart}
use Rattle.bd_model.proofs.laws.cloned.Goals as goal

pub returns : goal.returns
returns c = record { copied = after-cloned; beside = after-clone-others; apart = clone_apart }
