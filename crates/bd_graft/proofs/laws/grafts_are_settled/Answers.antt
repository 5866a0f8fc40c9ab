use Rattle.bd_graft.proofs.Once.{way_once, step_once, walk_once}
use Rattle.bd_graft.proofs.laws.grafts_are_settled.Goals as goal

pub returns-clause-way : goal.returns-clause-way
returns-clause-way c = way_once

pub returns-clause-step : goal.returns-clause-step
returns-clause-step c = step_once

pub returns-clause-walk : goal.returns-clause-walk
returns-clause-walk c = walk_once
