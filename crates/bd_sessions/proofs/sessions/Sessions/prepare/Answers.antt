use Rattle.std.proofs.Common.{[], sym, ap, ◌∙◌, slice_set}
use Rattle.bd_sessions.specs.Cells.{now_in}
use Rattle.bd_sessions.specs.Handles.{Table}
use Rattle.bd_sessions.specs.Sessions.{Held, prepared}
use Rattle.bd_sessions.specs.declared.handle.Handle.TheVariants.{Free}
use Rattle.bd_sessions.specs.declared.turn.Turn.TheVariants.{Close}
use Rattle.bd_sessions.proofs.CellLemmas.{put_seen}
use Rattle.bd_sessions.proofs.sessions.Sessions.prepare.Goals as goal

pub returns-in-Close-clause-tables : goal.returns-in-Close-clause-tables
returns-in-Close-clause-tables c =
    put_seen now_in (λ (t : Table). slice_set t c.in-Close.handle Free) c.self.inside.tables c.args.client c.index-self-client-in-Close.result c.put.new.self [] c.put.ensures
    ∙ ap (λ (h : Held). prepared c.args.client (Close c.in-Close.handle) h.tables) c.self.view_is
    ∙ ap (λ t. prepared c.args.client t c.args.self.now.tables) (sym c.in-Close.is)
