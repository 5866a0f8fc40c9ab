use Rattle.std.proofs.Common.{◌≡◌, length, All}
use Rattle.std.specs.List.{flat_map}
use Rattle.bd_wire.specs.Reading.{Reads}
use Rattle.bd_table.specs.Tables.{FitsTableEntry, table_entry}
use Rattle.bd_table.proofs.codec.read_entries.Given as goal

abbrev pub invariant-loop : goal.invariant-loop
invariant-loop l = record {
  read : Reads l.initial.cursor l.cursor (flat_map table_entry l.entries.items);
  fits : All FitsTableEntry l.entries.items;
  count : length l.entries.items ≡ l.counter;
}
