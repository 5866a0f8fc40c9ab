use Rattle.std.proofs.Common.{arith}
use Rattle.bd_sessions.specs.Cells.{now_of, next_of}
use Rattle.bd_sessions.proofs.CellLemmas.{passed_more}
use Rattle.bd_sessions.proofs.table.pass_cells.Goals as goal

pub loop-cell-preserved : goal.loop-cell-preserved
loop-cell-preserved c =
    let at = c.loop-cell.invariant in
    let more = passed_more now_of next_of c.loop-cell.cells c.args.cells.now c.loop-cell.cell-index c.pass.new.self _ (omega arith) (omega arith) at.passed at.rest c.pass.ensures in
    record { passed = more.0; rest = more.1 }
