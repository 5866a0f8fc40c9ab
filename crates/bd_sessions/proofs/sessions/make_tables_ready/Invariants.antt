use Rattle.std.proofs.Common.{◌≡◌, map, take}
use Rattle.bd_sessions.specs.Cells.{now_in, next_in}
use Rattle.bd_sessions.specs.Steps.{handle_after}
use Rattle.bd_sessions.proofs.sessions.make_tables_ready.Given as goal

abbrev pub invariant-loop-table : goal.invariant-loop-table
invariant-loop-table l = record {
  now : map now_in l.tables ≡ map now_in l.initial.tables;
  next : take l.table-index (map next_in l.tables) ≡ take l.table-index (map (map (handle_after l.step)) (map now_in l.initial.tables));
}
