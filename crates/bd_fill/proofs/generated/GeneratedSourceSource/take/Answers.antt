-- What is given stood next, and where nothing is, there is no line more.
use Rattle.std.proofs.Common.{ap, sym, ◌∙◌, subst, arith}
use Rattle.std.specs.declared.option.Option.TheVariants.{Some}
use Rattle.bd_script.specs.Generated.{line_count}
use Rattle.bd_fill.proofs.Unread.{unread_end}
use Rattle.bd_fill.proofs.generated.GeneratedSourceSource.take.Goals as goal

pub returns-in-Ok-clause-bytes : goal.returns-in-Ok-clause-bytes
returns-in-Ok-clause-bytes c = ap (λ bs. Some bs) (sym c.in-Ok.ensures.left ∙ c.give.ensures.left)

pub returns-in-Ok-clause-end : goal.returns-in-Ok-clause-end
returns-in-Ok-clause-end c none room =
    let last = c.give.ensures.end none room in
    unread_end _ _ _ _ last.1 (c.give.ensures.next ∙ c.in-Ok.ensures.some last.0 ∙ ap line_count (sym c.give.ensures.script))
