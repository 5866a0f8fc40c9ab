use Rattle.bd_image.proofs.Frame.{tree_same}
use Rattle.bd_image.proofs.Checkpoints.{unused}
use Rattle.bd_image.proofs.laws.other_blocks_are_free.Goals as goal

pub returns-clause-same : goal.returns-clause-same
returns-clause-same c = tree_same

pub returns-clause-slots : goal.returns-clause-slots
returns-clause-slots c = unused
