use Rattle.std.proofs.Common.{◌∙◌, arith}
use Rattle.bd_sessions.specs.Cells.{now_of, next_of, now_in}
use Rattle.bd_sessions.specs.Steps.{handle_after}
use Rattle.bd_sessions.proofs.CellLemmas.{seen_same, ready_more}
use Rattle.bd_sessions.proofs.table.make_cells_ready.Goals as goal

pub loop-cell-preserved : goal.loop-cell-preserved
loop-cell-preserved c = record {
  now = seen_same now_of c.loop-cell.cells c.loop-cell.cell-index c.make_ready.new.self _ c.make_ready.ensures.now ∙ c.loop-cell.invariant.now;
  next = ready_more now_of next_of (handle_after c.args.step.now) c.loop-cell.cells (now_in c.args.cells.now) c.loop-cell.cell-index c.make_ready.new.self _ (omega arith) c.loop-cell.invariant.now c.loop-cell.invariant.next c.in_ok-make_ready.ensures.next;
}

pub returns-in_err-make_ready-clause-now : goal.returns-in_err-make_ready-clause-now
returns-in_err-make_ready-clause-now c =
    seen_same now_of c.loop-cell.cells c.loop-cell.cell-index c.make_ready.new.self _ c.make_ready.ensures.now ∙ c.loop-cell.invariant.now
