use Rattle.bd_pager.proofs.SlotLemmas.{before_same, held_same, front_same}
use Rattle.bd_pager.proofs.laws.slots_survive.Goals as goal

pub returns-clause-before : goal.returns-clause-before
returns-clause-before c = before_same

pub returns-clause-held : goal.returns-clause-held
returns-clause-held c = held_same

pub returns-clause-others : goal.returns-clause-others
returns-clause-others c = front_same
