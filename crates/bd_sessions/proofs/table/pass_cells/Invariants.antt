use Rattle.std.proofs.Common.{◌≡◌, take, drop}
use Rattle.bd_sessions.specs.Cells.{now_in, next_in}
use Rattle.bd_sessions.proofs.table.pass_cells.Given as goal

abbrev pub invariant-loop-cell : goal.invariant-loop-cell
invariant-loop-cell l = record {
  passed : take l.cell-index (now_in l.cells) ≡ take l.cell-index (next_in l.initial.cells);
  rest : drop l.cell-index l.cells ≡ drop l.cell-index l.initial.cells;
}
