use Rattle.bd_view.proofs.Steps.{goes_on, full_stops}
use Rattle.bd_view.proofs.laws.commands_go_on_or_are_full.Goals as goal

pub returns-clause-next : goal.returns-clause-next
returns-clause-next c = goes_on

pub returns-clause-full : goal.returns-clause-full
returns-clause-full c = full_stops
