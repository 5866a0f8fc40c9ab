use Rattle.bd_node.proofs.Stepping.{root_step-step, root_step-in_place, root_step-meaning}
use Rattle.bd_node.proofs.laws.changes_of_the_root_alone.Goals as goal

pub returns-clause-step : goal.returns-clause-step
returns-clause-step c = root_step-step

pub returns-clause-in_place : goal.returns-clause-in_place
returns-clause-in_place c = root_step-in_place

pub returns-clause-tree : goal.returns-clause-tree
returns-clause-tree c = root_step-meaning
