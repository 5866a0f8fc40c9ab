use Rattle.bd_table.proofs.TableLemmas.{one_table}
use Rattle.bd_table.proofs.laws.tables_are_read_again.Goals as goal

pub returns : goal.returns
returns c = one_table
