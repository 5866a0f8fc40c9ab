use Rattle.std.proofs.Common.{map, ◌∙◌, arith}
use Rattle.bd_sessions.specs.Cells.{now_in, next_in}
use Rattle.bd_sessions.specs.Steps.{handle_after}
use Rattle.bd_sessions.proofs.CellLemmas.{seen_same, ready_more}
use Rattle.bd_sessions.proofs.sessions.make_tables_ready.Goals as goal

pub loop-table-preserved : goal.loop-table-preserved
loop-table-preserved c = record {
  now = seen_same now_in c.loop-table.tables c.loop-table.table-index c.make_ready.new.self _ c.make_ready.ensures.now ∙ c.loop-table.invariant.now;
  next = ready_more now_in next_in (map (handle_after c.args.step.now)) c.loop-table.tables (map now_in c.args.tables.now) c.loop-table.table-index c.make_ready.new.self _ (omega arith) c.loop-table.invariant.now c.loop-table.invariant.next c.in_ok-make_ready.ensures.next;
}

pub returns-in_err-make_ready-clause-now : goal.returns-in_err-make_ready-clause-now
returns-in_err-make_ready-clause-now c =
    seen_same now_in c.loop-table.tables c.loop-table.table-index c.make_ready.new.self _ c.make_ready.ensures.now ∙ c.loop-table.invariant.now
