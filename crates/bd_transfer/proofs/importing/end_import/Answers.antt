-- All is made durable, or nothing.
use Rattle.std.proofs.Common.{◌≡◌, true, false, refl, sym, ap, ◌∙◌, rules}
use Rattle.std.specs.Prelude.{not}
use Rattle.std.proofs.lemmas.Result.{err_from_is_err_and}
use Rattle.bd_shell.proofs.Lines.{fault_as}
use Rattle.bd_shell.proofs.Moving.{went_on}
use Rattle.bd_transfer.proofs.Asked.{closed_all, closed_left, not_false, not_true, unclosed}
use Rattle.bd_transfer.proofs.importing.end_import.Goals as goal

pub returns-then-not-is_made-clause-ends : goal.returns-then-not-is_made-clause-ends
returns-then-not-is_made-clause-ends g c first since =
    let h : c.is_made.result ≡ false = search (rules, not_true) in
    (refl, closed_left _ _ (ap not (sym c.is_made.ensures ∙ h)))

pub returns-in_err-close-clause-ends : goal.returns-in_err-close-clause-ends
returns-in_err-close-clause-ends g c =
    let h : c.is_made.result ≡ true = search (rules, not_false) in
    let p = err_from_is_err_and c.from_residual.result c.from_residual.ensures.1 in
    rw (p.1, p.2) (λ first since. (sym c.is_made.ensures ∙ h, c.in_err-close.ensures.kind, unclosed c.in_err-close.field-0.0 _ _ c.in_err-close.ensures.kind (c.in_err-close.ensures.err first since)))

pub returns-in_err-close-clause-cause : goal.returns-in_err-close-clause-cause
returns-in_err-close-clause-cause g c =
    let p = err_from_is_err_and c.from_residual.result c.from_residual.ensures.1 in
    rw (p.1, p.2) (λ sink. fault_as _ _ _ c.in_err-close.field-0.0 (c.in_err-close.ensures.cause sink))

pub returns-clause-ends : goal.returns-clause-ends
returns-clause-ends g c first since =
    let h : c.is_made.result ≡ true = search (rules, not_false) in
    (refl, λ s at. closed_all _ _ (ap not (sym c.is_made.ensures ∙ h)) s (c.in_ok-close.ensures.ok first since s at))

pub returns-clause-cause : goal.returns-clause-cause
returns-clause-cause g c sink = went_on _ _ _ _ (c.in_ok-close.ensures.cause sink).kept
