use Rattle.bd_check.proofs.EntryNodes.{is_table, are_ids}
use Rattle.bd_check.proofs.laws.entries_have_the_ids.Goals as goal

pub returns-clause-table : goal.returns-clause-table
returns-clause-table c t nodes are = is_table t are nodes

pub returns-clause-ids : goal.returns-clause-ids
returns-clause-ids c t nodes are = are_ids t are nodes
