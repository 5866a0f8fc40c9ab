use Rattle.bd_step.proofs.Alongs.{same_for, settled_apart, due_one}
use Rattle.bd_step.proofs.laws.ways_of_prefixes_are_one.Goals as goal

pub returns-clause-edge : goal.returns-clause-edge
returns-clause-edge c = same_for

pub returns-clause-due : goal.returns-clause-due
returns-clause-due c = due_one

pub returns-clause-settled : goal.returns-clause-settled
returns-clause-settled c = settled_apart
