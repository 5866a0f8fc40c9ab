use Rattle.bd_node.proofs.LawLemmas.{untouched, skipped}
use Rattle.bd_node.proofs.laws.messages_change_what_they_touch.Goals as goal

pub returns-clause-one : goal.returns-clause-one
returns-clause-one c = untouched

pub returns-clause-several : goal.returns-clause-several
returns-clause-several c = skipped
