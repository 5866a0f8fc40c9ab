use Rattle.bd_view.proofs.Steps.{quiet_steps, quiet_not_full}
use Rattle.bd_view.proofs.laws.quiet_views_stay.Goals as goal

pub returns-clause-steps : goal.returns-clause-steps
returns-clause-steps c = quiet_steps c.ways_of_prefixes_are_one.ensures.settled

pub returns-clause-full : goal.returns-clause-full
returns-clause-full c = quiet_not_full c.ways_of_prefixes_are_one.ensures.settled
