use Rattle.std.proofs.Common.{◌≤◌, length, take, drop}
use Rattle.std.specs.List.{flat_map}
use Rattle.bd_wire.specs.Writing.{Puts, room}
use Rattle.bd_format.specs.Images.{entry_bytes}
use Rattle.bd_format.proofs.write.put_entries.Given as goal

-- those before this place were written, and there is room for the others
abbrev pub invariant-loop-entry : goal.invariant-loop-entry
invariant-loop-entry l = record {
  puts : Puts l.fn.out l.out (flat_map entry_bytes (take l.entry-index l.entries));
  fit : length (flat_map entry_bytes (drop l.entry-index l.entries)) ≤ length (room l.out);
}
