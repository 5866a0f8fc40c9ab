use Rattle.bd_view.proofs.Listed.{kept_length, kept_one}
use Rattle.bd_view.proofs.laws.kept_nodes_are_listed.Goals as goal

pub returns-clause-count : goal.returns-clause-count
returns-clause-count c = kept_length

pub returns-clause-one : goal.returns-clause-one
returns-clause-one c = kept_one
