use Rattle.bd_view.proofs.Standing.{steps_stand, reclaims_stand, steps_walk, reclaims_walk}
use Rattle.bd_view.proofs.laws.steps_keep_what_stands.Goals as goal

pub returns-clause-steps : goal.returns-clause-steps
returns-clause-steps c = steps_stand

pub returns-clause-reclaims : goal.returns-clause-reclaims
returns-clause-reclaims c = reclaims_stand

pub returns-clause-steps_walk : goal.returns-clause-steps_walk
returns-clause-steps_walk c = steps_walk

pub returns-clause-reclaims_walk : goal.returns-clause-reclaims_walk
returns-clause-reclaims_walk c = reclaims_walk
