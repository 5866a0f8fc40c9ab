-- What is held of a line and its last bytes mean what the line does.
use Rattle.std.proofs.Common.{◌≡◌, refl, ◌++◌, [], ap, ◌∙◌, arith}
use Rattle.std.proofs.lemmas.Grind.{common_steps}
use Rattle.std.proofs.lemmas.List.{nil_from_length}
use Rattle.std.proofs.lemmas.Result.{err_from_is_err_and}
use Rattle.bd_sessions.specs.Spoken.{Single, is_stop, spoken}
use Rattle.bd_sessions.proofs.LongLines.{spoken-held}
use Rattle.bd_shell.proofs.Left.{leaves_all_in}
use Rattle.bd_shell.proofs.shell.Shell.end_line.Goals as goal

pub returns-then-is_empty-clause-ok : goal.returns-then-is_empty-clause-ok
returns-then-is_empty-clause-ok g c =
    let none : c.args.self.now.line.items ≡ [] = nil_from_length c.args.self.now.line.items (grind (arith, common_steps)) in
    let same : c.args.self.now.line.items ++ c.args.last.now ≡ c.args.last.now = ap (λ l. l ++ c.args.last.now) none in
    rw same c.run_line.ensures.ok

pub returns-then-is_empty-clause-err : goal.returns-then-is_empty-clause-err
returns-then-is_empty-clause-err g c =
    let none : c.args.self.now.line.items ≡ [] = nil_from_length c.args.self.now.line.items (grind (arith, common_steps)) in
    let same : c.args.self.now.line.items ++ c.args.last.now ≡ c.args.last.now = ap (λ l. l ++ c.args.last.now) none in
    rw same c.run_line.ensures.err

pub returns-in_err-flow-clause-err : goal.returns-in_err-flow-clause-err
returns-in_err-flow-clause-err g c =
    let p = err_from_is_err_and c.from_residual-in_err-flow.result c.from_residual-in_err-flow.ensures.1 in
    let same : spoken Single c.deref.result.now ≡ spoken Single (c.args.self.now.line.items ++ c.args.last.now) =
    ap (spoken Single) (c.deref.ensures.value ∙ c.in_ok-hold.ensures.ok) ∙ spoken-held Single (c.args.self.now.line.items ++ c.args.last.now) in
    rw (p.1, p.2, ← same) c.in_err-flow.ensures.err

pub returns-clause-ok : goal.returns-clause-ok
returns-clause-ok g c =
    let same : spoken Single c.deref.result.now ≡ spoken Single (c.args.self.now.line.items ++ c.args.last.now) =
    ap (spoken Single) (c.deref.ensures.value ∙ c.in_ok-hold.ensures.ok) ∙ spoken-held Single (c.args.self.now.line.items ++ c.args.last.now) in
    rw (← same) c.in_ok-flow.ensures.ok

pub returns-clause-flow : goal.returns-clause-flow
returns-clause-flow g c =
    c.in_ok-flow.ensures.flow
    ∙ ap is_stop (ap (spoken Single) (c.deref.ensures.value ∙ c.in_ok-hold.ensures.ok) ∙ spoken-held Single (c.args.self.now.line.items ++ c.args.last.now))

pub returns-in_err-hold-clause-err : goal.returns-in_err-hold-clause-err
returns-in_err-hold-clause-err g c =
    let p = err_from_is_err_and c.from_residual.result c.from_residual.ensures.1 in
    rw (p.1, p.2) (λ first since. record { unwritten = refl; unacked = refl; leaves = λ s at. leaves_all_in (spoken Single (c.args.self.now.line.items ++ c.args.last.now)) s _ at })
