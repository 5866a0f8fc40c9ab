use Rattle.std.proofs.Common.{◌≡◌, length}
use Rattle.std.specs.List.{AllByRecursion, flat_map}
use Rattle.bd_wire.specs.Reading.{Reads}
use Rattle.bd_format.specs.Images.{entry_bytes}
use Rattle.bd_format.specs.Parts.{FitsEntry}
use Rattle.bd_format.proofs.read.read_entries.Given as goal

-- so many were read so far
abbrev pub invariant-loop-place : goal.invariant-loop-place
invariant-loop-place l = record {
  count : length l.entries.items ≡ l._place;
  fit : AllByRecursion FitsEntry l.entries.items;
  read : Reads l.fn.cursor l.cursor (flat_map entry_bytes l.entries.items);
}
