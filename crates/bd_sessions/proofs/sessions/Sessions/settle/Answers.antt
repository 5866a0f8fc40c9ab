use Rattle.std.proofs.Common.{[], ap, ◌∙◌}
use Rattle.bd_sessions.specs.Cells.{now_in, held_in}
use Rattle.bd_sessions.specs.Handles.{Table}
use Rattle.bd_sessions.specs.Sessions.{Held, opened_in, settled_if}
use Rattle.bd_sessions.proofs.CellLemmas.{put_seen}
use Rattle.bd_sessions.proofs.sessions.Sessions.settle.Goals as goal

pub returns-in-Opening-clause-tables : goal.returns-in-Opening-clause-tables
returns-in-Opening-clause-tables c =
    put_seen now_in (λ (t : Table). (opened_in c.in-Opening.path c.args.reply.now t).1) c.self.inside.tables c.in-Opening.client c.index-self-client.result c.open.new.self [] c.open.ensures.table
    ∙ ap (λ w. (settled_if (held_in c.self.inside.tables w).waits c.args.reply.now (held_in c.self.inside.tables w).tables).1) c.in-Opening.ensures.value
    ∙ ap (λ (h : Held). (settled_if h.waits c.args.reply.now h.tables).1) c.self.view_is
