use Rattle.bd_cover.proofs.Asks.{asks_inside, asks_only, asks_nothing}
use Rattle.bd_cover.proofs.laws.edges_ask_for_translations.Goals as goal

pub returns-clause-inside : goal.returns-clause-inside
returns-clause-inside c = asks_inside

pub returns-clause-only : goal.returns-clause-only
returns-clause-only c = asks_only

pub returns-clause-none : goal.returns-clause-none
returns-clause-none c = asks_nothing
