use Rattle.std.proofs.Common.{◌≤◌, length, take, drop}
use Rattle.std.specs.List.{flat_map}
use Rattle.bd_wire.specs.Writing.{Puts, room}
use Rattle.bd_format.specs.Images.{edge_bytes}
use Rattle.bd_format.proofs.write.put_edges.Given as goal

-- those before this place were written, and there is room for the others
abbrev pub invariant-loop-edge : goal.invariant-loop-edge
invariant-loop-edge l = record {
  puts : Puts l.fn.out l.out (flat_map edge_bytes (take l.edge-index l.edges));
  fit : length (flat_map edge_bytes (drop l.edge-index l.edges)) ≤ length (room l.out);
}
