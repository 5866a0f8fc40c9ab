use Rattle.bd_image.proofs.Syncs.{synced, syncing}
use Rattle.bd_image.proofs.laws.syncs_lead_on.Goals as goal

pub returns-clause-synced : goal.returns-clause-synced
returns-clause-synced c = synced

pub returns-clause-syncing : goal.returns-clause-syncing
returns-clause-syncing c = syncing
