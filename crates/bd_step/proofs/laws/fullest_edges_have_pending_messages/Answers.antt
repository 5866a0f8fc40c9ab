use Rattle.bd_step.proofs.Waiting.{fullest_waits}
use Rattle.bd_step.proofs.laws.fullest_edges_have_pending_messages.Goals as goal

pub returns : goal.returns
returns c = fullest_waits
