use Rattle.bd_message.proofs.Freed.{restricted_inside, restricted_outside, restricted_can}
use Rattle.bd_message.proofs.laws.restricted_messages.Goals as goal

pub returns-clause-inside : goal.returns-clause-inside
returns-clause-inside c = restricted_inside

pub returns-clause-outside : goal.returns-clause-outside
returns-clause-outside c = restricted_outside

pub returns-clause-strips : goal.returns-clause-strips
returns-clause-strips c = restricted_can
