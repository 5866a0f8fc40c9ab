use Rattle.bd_step.proofs.Abundance.{abundant}
use Rattle.bd_step.proofs.laws.full_buffers_are_abundant.Goals as goal

pub returns : goal.returns
returns c = abundant
