use Rattle.bd_view.proofs.Steps.{full_steps, full_refused, full_numbers}
use Rattle.bd_view.proofs.laws.full_views_stay.Goals as goal

pub returns-clause-steps : goal.returns-clause-steps
returns-clause-steps c = full_steps

pub returns-clause-refused : goal.returns-clause-refused
returns-clause-refused c = full_refused

pub returns-clause-full : goal.returns-clause-full
returns-clause-full c = full_numbers
