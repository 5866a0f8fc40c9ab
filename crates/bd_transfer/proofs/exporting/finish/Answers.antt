-- The sink passes on what was written, and then all is made durable, or nothing.
use Rattle.std.proofs.Common.{◌≡◌, true, false, refl, sym, ap, ◌∙◌, inl, inr, rules}
use Rattle.std.specs.Prelude.{not}
use Rattle.std.proofs.lemmas.Result.{err_from_is_err_and}
use Rattle.bd_shell.specs.declared.fault.Fault.TheVariants.{Sink}
use Rattle.bd_shell.specs.Fault.{Faults, faults}
use Rattle.bd_shell.specs.Shell.{device_in}
use Rattle.bd_shell.proofs.Moving.{went_on}
use Rattle.bd_transfer.proofs.Asked.{closed_all, closed_fault, closed_left, not_false, not_true, still_caused, unclosed, whole_is}
use Rattle.bd_transfer.proofs.exporting.finish.Goals as goal

pub returns-in_err-flush-clause-ends : goal.returns-in_err-flush-clause-ends
returns-in_err-flush-clause-ends g c =
    let p = err_from_is_err_and c.from_residual.result c.from_residual.ensures.1 in
    rw (p.1, p.2, c.in_err-flush.ensures.kind) (λ first since. (inl refl, λ s h. closed_fault Sink _ s h))

pub returns-then-not-is_whole-clause-ends : goal.returns-then-not-is_whole-clause-ends
returns-then-not-is_whole-clause-ends g c first since =
    let h : c.is_whole.result ≡ false = search (rules, not_true) in
    (refl, closed_left _ _ (ap not (sym c.is_whole.ensures ∙ h)))

pub returns-in_err-close-clause-ends : goal.returns-in_err-close-clause-ends
returns-in_err-close-clause-ends g c =
    let h : c.is_whole.result ≡ true = search (rules, not_false) in
    let p = err_from_is_err_and c.from_residual-in_err-close.result c.from_residual-in_err-close.ensures.1 in
    rw (p.1, p.2) (λ first since. (inr (whole_is c.args.end (sym c.is_whole.ensures ∙ h), c.in_err-close.ensures.kind), unclosed c.in_err-close.field-0.0 _ _ c.in_err-close.ensures.kind (c.in_err-close.ensures.err first since)))

pub returns-in_err-close-clause-cause : goal.returns-in_err-close-clause-cause
returns-in_err-close-clause-cause g c =
    let p = err_from_is_err_and c.from_residual-in_err-close.result c.from_residual-in_err-close.ensures.1 in
    let old = device_in c.args.shell.now in
    let new = device_in c.close.new.self in
    rw (p.1, p.2) (still_caused g.D.Device old new _ _ c.in_err-close.field-0.0 (ap (λ (f : Faults). f.sink) c.in_ok-flush.ensures.cause.kept) (c.in_err-close.ensures.cause (g.K.Sink.fault_count c.flush.new.sink)))

pub returns-clause-ends : goal.returns-clause-ends
returns-clause-ends g c first since =
    let h : c.is_whole.result ≡ true = search (rules, not_false) in
    (refl, λ s at. closed_all _ _ (ap not (sym c.is_whole.ensures ∙ h)) s (c.in_ok-close.ensures.ok first since s at))

pub returns-clause-cause : goal.returns-clause-cause
returns-clause-cause g c =
    let d = g.D.Device.fault_count (device_in c.args.shell.now) in
    went_on _ _ _ _ ((c.in_ok-close.ensures.cause (g.K.Sink.fault_count c.flush.new.sink)).kept ∙ ap (λ (f : Faults). faults d 0 f.sink) c.in_ok-flush.ensures.cause.kept)
