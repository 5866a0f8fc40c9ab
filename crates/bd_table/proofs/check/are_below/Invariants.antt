use Rattle.std.proofs.Common.{ℕ, ◌<◌, get_or}
use Rattle.bd_table.specs.declared.table.TableEntry.{TableEntry}
use Rattle.bd_table.specs.Tables.{IsTableEntry}
use Rattle.bd_table.proofs.check.are_below.Given as goal

abbrev pub invariant-loop-entry : goal.invariant-loop-entry
invariant-loop-entry l = record {
  each : (k : ℕ) (d : TableEntry) → k < l.entry-index → IsTableEntry (get_or l.entries k d);
  below : (k : ℕ) (d : TableEntry) → k < l.entry-index → (get_or l.entries k d).id < l.next_id;
}
