-- What is held at the end is the last line.
use Rattle.std.proofs.Common.{◌≡◌, [], sym, ap, ◌∙◌, arith}
use Rattle.std.specs.List.{list_any}
use Rattle.std.proofs.lemmas.Grind.{common_steps}
use Rattle.std.proofs.lemmas.List.{nil_from_length}
use Rattle.bd_sessions.specs.Spoken.{Single, is_stop, spoken}
use Rattle.bd_shell.specs.Shell.{last_lines}
use Rattle.bd_shell.proofs.Executes.{executes_none, executes_as, executes_one, last_some, one_stop, on_ok_as, if_ok_as}
use Rattle.bd_shell.proofs.shell.Shell.finish.Goals as goal

pub returns-then-is_empty-clause-ok : goal.returns-then-is_empty-clause-ok
returns-then-is_empty-clause-ok g c first since =
    let none : c.args.self.now.line.items ≡ [] = nil_from_length c.args.self.now.line.items (grind (arith, common_steps)) in
    executes_as _ _ [] _ _ _ (sym (ap (last_lines Single) none)) (executes_none _ _)

pub returns-clause-ok : goal.returns-clause-ok
returns-clause-ok g c =
    on_ok_as c.run_line.result _ _ (λ ok first since.
    executes_as _ _ _ _ _ _ (sym (last_some Single _ _ c.deref.ensures.value (grind (arith, common_steps)))) (executes_one _ _ _ _ _ (ok first since))) c.run_line.ensures.ok

pub returns-clause-flow : goal.returns-clause-flow
returns-clause-flow g c =
    if_ok_as c.run_line.result _ _ (λ flow is.
    is ∙ one_stop (spoken Single c.deref.result.now) ∙ ap (list_any is_stop) (sym (last_some Single _ _ c.deref.ensures.value (grind (arith, common_steps))))) c.run_line.ensures.flow
