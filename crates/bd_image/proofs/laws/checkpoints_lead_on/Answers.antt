use Rattle.bd_image.proofs.Checkpoints.{staged, published}
use Rattle.bd_image.proofs.laws.checkpoints_lead_on.Goals as goal

pub returns-clause-staged : goal.returns-clause-staged
returns-clause-staged c = staged

pub returns-clause-published : goal.returns-clause-published
returns-clause-published c = published
