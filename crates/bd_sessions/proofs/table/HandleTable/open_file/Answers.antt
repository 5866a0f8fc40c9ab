use Rattle.std.proofs.Common.{◌≡◌, ℕ, List, sym, ap, ◌∙◌}
use Rattle.std.specs.List.{position}
use Rattle.std.specs.declared.option.Option.{Option}
use Rattle.std.specs.declared.option.Option.TheVariants.{None, Some}
use Rattle.bd_sessions.specs.declared.cell.Cell.{Cell}
use Rattle.bd_sessions.specs.Cells.{now_of, now_in}
use Rattle.bd_sessions.specs.Sessions.{is_free, opened_at}
use Rattle.bd_sessions.proofs.CellLemmas.{position-map}
use Rattle.bd_sessions.proofs.table.HandleTable.open_file.Goals as goal

-- the least free number, as it was found among cells
found : (cells own : List Cell) (o : Option ℕ) → o ≡ position (λ cell. is_free (now_of cell)) cells → cells ≡ own → o ≡ position is_free (now_in own)
found cells own o h same = h ∙ sym (position-map is_free now_of cells) ∙ ap (λ t. position is_free (now_in t)) same

pub returns-in_default-clause-reply : goal.returns-in_default-clause-reply
returns-in_default-clause-reply c =
    ap (λ o. (opened_at c.args.path o (now_in c.args.self.now)).0) (found c.self.inside.cells c.args.self.now None (c.in_default.ensures.number) c.self.view_is)

pub returns-in_default-clause-table : goal.returns-in_default-clause-table
returns-in_default-clause-table c =
    ap (λ o. (opened_at c.args.path o (now_in c.args.self.now)).1) (found c.self.inside.cells c.args.self.now None (c.in_default.ensures.number) c.self.view_is)

pub returns-clause-reply : goal.returns-clause-reply
returns-clause-reply c =
    ap (λ o. (opened_at c.args.path o (now_in c.args.self.now)).0) (found c.self.inside.cells c.args.self.now (Some c.in-Some.number) c.in-Some.ensures.number c.self.view_is)

pub returns-clause-table : goal.returns-clause-table
returns-clause-table c =
    c.put.ensures
    ∙ ap (λ o. (opened_at c.args.path o (now_in c.args.self.now)).1) (found c.self.inside.cells c.args.self.now (Some c.in-Some.number) c.in-Some.ensures.number c.self.view_is)
