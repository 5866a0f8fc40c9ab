use Rattle.std.proofs.Common.{arith}
use Rattle.bd_sessions.specs.Cells.{now_in, next_in}
use Rattle.bd_sessions.proofs.CellLemmas.{passed_more}
use Rattle.bd_sessions.proofs.sessions.pass_tables.Goals as goal

pub loop-table-preserved : goal.loop-table-preserved
loop-table-preserved c =
    let at = c.loop-table.invariant in
    let more = passed_more now_in next_in c.loop-table.tables c.args.tables.now c.loop-table.table-index c.pass.new.self _ (omega arith) (omega arith) at.passed at.rest c.pass.ensures in
    record { passed = more.0; rest = more.1 }
