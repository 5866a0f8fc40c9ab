use Rattle.std.proofs.Common.{◌≡◌, map, take, drop}
use Rattle.bd_sessions.specs.Cells.{now_in, next_in}
use Rattle.bd_sessions.proofs.sessions.pass_tables.Given as goal

abbrev pub invariant-loop-table : goal.invariant-loop-table
invariant-loop-table l = record {
  passed : take l.table-index (map now_in l.tables) ≡ take l.table-index (map next_in l.initial.tables);
  rest : drop l.table-index l.tables ≡ drop l.table-index l.initial.tables;
}
