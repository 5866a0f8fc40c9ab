use Rattle.std.proofs.Common.{◌≡◌, length}
use Rattle.std.specs.List.{AllByRecursion, flat_map}
use Rattle.bd_wire.specs.Reading.{Reads}
use Rattle.bd_format.specs.Images.{edge_bytes}
use Rattle.bd_format.specs.Parts.{FitsEdge}
use Rattle.bd_format.proofs.read.read_edges.Given as goal

-- so many were read so far
abbrev pub invariant-loop-place : goal.invariant-loop-place
invariant-loop-place l = record {
  count : length l.edges.items ≡ l._place;
  fit : AllByRecursion FitsEdge l.edges.items;
  read : Reads l.fn.cursor l.cursor (flat_map edge_bytes l.edges.items);
}
