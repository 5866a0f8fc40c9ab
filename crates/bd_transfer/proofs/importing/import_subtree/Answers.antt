-- The stream is taken and executed, and then the end comes.
use Rattle.std.proofs.Common.{subst}
use Rattle.std.proofs.lemmas.Result.{err_from_is_err_and}
use Rattle.bd_shell.specs.Fault.{IsCaused, faults}
use Rattle.bd_shell.specs.Shell.{device_in}
use Rattle.bd_shell.proofs.Lines.{fault_as}
use Rattle.bd_shell.proofs.Moving.{is_caused_beside}
use Rattle.bd_transfer.proofs.Arriving.{broken, concluded}
use Rattle.bd_transfer.proofs.importing.import_subtree.Goals as goal

pub returns-in_err-end-clause-imports : goal.returns-in_err-end-clause-imports
returns-in_err-end-clause-imports g c =
    let p = err_from_is_err_and c.from_residual.result c.from_residual.ensures.1 in
    rw (p.1, p.2) (λ first since. broken c.in_err-end.field-0.0 _ _ _ _ _ _ _ (c.in_err-end.ensures.imports first since))

pub returns-clause-imports : goal.returns-clause-imports
returns-clause-imports g c first since =
    concluded _ _ _ _ _ _ _ _ c.end_import.result c.in_ok-end.end (c.in_ok-end.ensures.imports first since) (c.end_import.ensures.ends first since)

pub returns-in_err-end-clause-cause : goal.returns-in_err-end-clause-cause
returns-in_err-end-clause-cause g c =
    let p = err_from_is_err_and c.from_residual.result c.from_residual.ensures.1 in
    rw (p.1, p.2) (λ sink. fault_as _ _ _ c.in_err-end.field-0.0 (c.in_err-end.ensures.cause sink))

pub returns-clause-cause : goal.returns-clause-cause
returns-clause-cause g c sink =
    let d = device_in c.end_import.new.shell in
    let src = g.S.Source.fault_count c.import_pieces.new.src in
    subst (λ f. IsCaused f (faults (g.D.Device.fault_count d) src sink) (g.D.Device.last_failed d) c.end_import.result) (c.in_ok-end.ensures.cause sink).kept
    (is_caused_beside c.end_import.result (g.D.Device.fault_count (device_in c.import_pieces.new.shell)) sink (g.D.Device.fault_count d) sink src (g.D.Device.last_failed d) (c.end_import.ensures.cause sink))
