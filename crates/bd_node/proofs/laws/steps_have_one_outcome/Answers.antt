use Rattle.bd_node.proofs.LawLemmas.{one_outcome}
use Rattle.bd_node.proofs.laws.steps_have_one_outcome.Goals as goal

pub returns : goal.returns
returns c = one_outcome
