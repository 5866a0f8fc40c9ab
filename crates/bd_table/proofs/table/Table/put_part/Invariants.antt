use Rattle.std.proofs.Common.{◌*◌, take, drop}
use Rattle.bd_wire.specs.Writing.{Puts}
use Rattle.bd_table.specs.Tables.{table_bytes}
use Rattle.bd_table.proofs.table.Table.put_part.Given as goal

abbrev pub invariant-loop-word : goal.invariant-loop-word
invariant-loop-word l = Puts l.initial.out l.out (take (8 * l.word) (drop (4096 * l.k) (table_bytes l.taken l.self)))
