use Rattle.std.proofs.Common.{ap, ◌∙◌, slice_set, List}
use Rattle.std.proofs.lemmas.List.{map-set}
use Rattle.bd_sessions.specs.Cells.{now_of, now_in}
use Rattle.bd_sessions.specs.declared.cell.Cell.{Cell}
use Rattle.bd_sessions.proofs.table.HandleTable.put.Goals as goal

pub returns-then-number-lt16 : goal.returns-then-number-lt16
returns-then-number-lt16 c =
    map-set now_of c.self.inside.cells c.args.number c.put.new.self
    ∙ ap (λ h. slice_set (now_in c.self.inside.cells) c.args.number h) c.put.ensures
    ∙ ap (λ (t : List Cell). slice_set (now_in t) c.args.number c.args.handle) c.self.view_is
