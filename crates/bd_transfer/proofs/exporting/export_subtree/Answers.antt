-- All is asked, and then the end comes.
use Rattle.std.proofs.Common.{subst}
use Rattle.std.proofs.lemmas.Result.{err_from_is_err_and}
use Rattle.bd_shell.specs.Session.{ClosedAt, end_of}
use Rattle.bd_shell.specs.Shell.{ShellAt}
use Rattle.bd_transfer.specs.Asking.{Asks, leaves}
use Rattle.bd_transfer.proofs.Asked.{faulted, finished, if_ok_of}
use Rattle.bd_transfer.proofs.Trees.{writes_so}
use Rattle.bd_transfer.proofs.exporting.export_subtree.Goals as goal

pub returns-in_err-end-clause-asks : goal.returns-in_err-end-clause-asks
returns-in_err-end-clause-asks g c =
    let p = err_from_is_err_and c.from_residual.result c.from_residual.ensures.1 in
    rw (p.1, p.2) (λ first since. faulted c.in_err-end.field-0.0 _ _ _ _ _ (c.in_err-end.ensures.asks first since))

pub returns-clause-asks : goal.returns-clause-asks
returns-clause-asks g c first since =
    finished _ _ _ _ _ _ _ c.finish.ensures.unwritten c.finish.result c.in_ok-end.end (c.in_ok-end.ensures.asks first since) (c.finish.ensures.ends first since)

pub returns-clause-stream : goal.returns-clause-stream
returns-clause-stream g c =
    if_ok_of c.finish.result _ (λ end is first since s at.
    writes_so end s c.args.top.now _ _ _ _ at.handles at.volume.at.stands.is_tree (c.as_bytes-text.ensures.names, c.as_bytes-text.ensures.length)
    (subst (λ r. Asks r c.args.top.now (ShellAt g.D.Device first since c.args.shell.now) (ClosedAt (end_of r) (ShellAt g.D.Device first since c.finish.new.shell) (leaves r)) (g.K.Sink.written c.args.sink.now) (g.K.Sink.written c.finish.new.sink)) is
    (finished _ _ _ _ _ _ _ c.finish.ensures.unwritten c.finish.result c.in_ok-end.end (c.in_ok-end.ensures.asks first since) (c.finish.ensures.ends first since))) at)
