use Rattle.std.proofs.Common.{◌≡◌, map, take}
use Rattle.bd_sessions.specs.Cells.{now_in, next_in}
use Rattle.bd_sessions.specs.Steps.{handle_after}
use Rattle.bd_sessions.proofs.table.make_cells_ready.Given as goal

abbrev pub invariant-loop-cell : goal.invariant-loop-cell
invariant-loop-cell l = record {
  now : now_in l.cells ≡ now_in l.initial.cells;
  next : take l.cell-index (next_in l.cells) ≡ take l.cell-index (map (handle_after l.step) (now_in l.initial.cells));
}
