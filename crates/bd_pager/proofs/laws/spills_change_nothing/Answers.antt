use Rattle.bd_pager.proofs.SpilledLemmas.{spilled_table}
use Rattle.bd_pager.proofs.laws.spills_change_nothing.Goals as goal

pub returns-clause-table : goal.returns-clause-table
returns-clause-table g c = λ p q h. spilled_table g.D.Device p q h

pub returns-clause-known : goal.returns-clause-known
returns-clause-known g c = λ p q h known. h.moves.known known

pub returns-clause-nodes : goal.returns-clause-nodes
returns-clause-nodes g c = λ p q h known id. h.moves.nodes known id
