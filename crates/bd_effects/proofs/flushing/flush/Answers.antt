-- A flush step of a command is one from the root, or one for a graft's source.
use Rattle.std.proofs.Common.{◌≡◌, ◌<◌, ◌≤◌, ap, subst, arith}
use Rattle.std.specs.Prelude.{Ok, Some}
use Rattle.std.specs.Option.{option_copied}
use Rattle.std.proofs.lemmas.Result.{err_from_is_err_and}
use Rattle.bd_message.specs.KeyMaps.{HasMapCause}
use Rattle.bd_dirs.specs.Kinds.{kind_of}
use Rattle.bd_node.specs.Frames.{OfSound}
use Rattle.bd_path.specs.Made.{AreKnown}
use Rattle.bd_step.specs.Settling.{IsSettleStep, IsSettleFound, IsWornToSettle}
use Rattle.bd_view.specs.Trees.{waiting_limit, source_of}
use Rattle.bd_view.specs.Trees.IsStepIn.{from_root, of_source}
use Rattle.bd_view.specs.Trees.IsStepFound.{found_at_root, found_at_source}
use Rattle.bd_effects.proofs.Stepping.{more_waits, made_waits, root_cause, source_cause}
use Rattle.bd_effects.proofs.flushing.flush.Goals as goal

pub returns-in_err-flush_step-clause-cause : goal.returns-in_err-flush_step-clause-cause
returns-in_err-flush_step-clause-cause g c =
    let p = err_from_is_err_and c.from_residual.result c.from_residual.ensures.1 in
    let h = c.in_err-flush_step.ensures in
    let many : waiting_limit c.args.command.now < (g.S.NodeStore.table c.args.tree.now.store).size = omega (arith, more_waits _ _ _ (λ e. cc) h.enough, c.waiting_limit.ensures) in
    rw (p.1, p.2) (root_cause _ _ _ _ _ _ _ c.args.command.now _ many h.cause)

pub returns-then-branch-clause-found : goal.returns-then-branch-clause-found
returns-then-branch-clause-found g c = λ is.
    let h = c.in_ok-flush_step.ensures in
    let many : waiting_limit c.args.command.now < (g.S.NodeStore.table c.args.tree.now.store).size = omega (arith, made_waits _ _ _ (ap Ok c.if-branch.true) h.enough, c.waiting_limit.ensures) in
    found_at_root many (h.found (ap Ok c.if-branch.true))

pub returns-then-branch-clause-step : goal.returns-then-branch-clause-step
returns-then-branch-clause-step g c = λ known sound is.
    let h = c.in_ok-flush_step.ensures in
    let many : waiting_limit c.args.command.now < (g.S.NodeStore.table c.args.tree.now.store).size = omega (arith, made_waits _ _ _ (ap Ok c.if-branch.true) h.enough, c.waiting_limit.ensures) in
    from_root many (h.step known sound (ap Ok c.if-branch.true))

pub returns-in-Some-clause-found : goal.returns-in-Some-clause-found
returns-in-Some-clause-found g c = λ yes.
    let few : (g.S.NodeStore.table c.args.tree.now.store).size ≤ waiting_limit c.args.command.now = omega (arith, c.in_ok-flush_step.ensures.enough.0 (ap Ok c.if-branch.false), c.waiting_limit.ensures) in
    let is : source_of (kind_of c.args.command.now) ≡ Some c.in-Some.source.now = c.requires.source c.in-Some.source.now (ap (λ o. option_copied o) c.in-Some.is) in
    found_at_source c.in-Some.source.now few is
    (subst (λ (x : g.row.S.Denot). IsSettleFound (g.S.NodeStore.table x) (g.S.NodeStore.table c.settle_step.new.self.store)) (c.in_ok-flush_step.ensures.unchanged (ap Ok c.if-branch.false)) (c.settle_step.ensures.found yes))

pub returns-in-Some-clause-cause : goal.returns-in-Some-clause-cause
returns-in-Some-clause-cause g c =
    let few : (g.S.NodeStore.table c.args.tree.now.store).size ≤ waiting_limit c.args.command.now = omega (arith, c.in_ok-flush_step.ensures.enough.0 (ap Ok c.if-branch.false), c.waiting_limit.ensures) in
    let is : source_of (kind_of c.args.command.now) ≡ Some c.in-Some.source.now = c.requires.source c.in-Some.source.now (ap (λ o. option_copied o) c.in-Some.is) in
    let new : g.row.S.Denot = c.settle_step.new.self.store in
    source_cause _ _ _ _ _ _ _ c.args.command.now c.in-Some.source.now _ few is
    (subst (λ (x : g.row.S.Denot). HasMapCause (g.S.NodeStore.fault_count x) (g.S.NodeStore.fault_count new) (g.S.NodeStore.last_failed new) (g.S.NodeStore.bad new) (IsWornToSettle (AreKnown g.S.NodeStore x) (g.S.NodeStore.nodes x) (g.S.NodeStore.table x) c.in-Some.source.now) c.settle_step.result)
    (c.in_ok-flush_step.ensures.unchanged (ap Ok c.if-branch.false)) c.settle_step.ensures.cause)

pub returns-in-Some-clause-step : goal.returns-in-Some-clause-step
returns-in-Some-clause-step g c = λ known sound yes.
    let few : (g.S.NodeStore.table c.args.tree.now.store).size ≤ waiting_limit c.args.command.now = omega (arith, c.in_ok-flush_step.ensures.enough.0 (ap Ok c.if-branch.false), c.waiting_limit.ensures) in
    let is : source_of (kind_of c.args.command.now) ≡ Some c.in-Some.source.now = c.requires.source c.in-Some.source.now (ap (λ o. option_copied o) c.in-Some.is) in
    let new : g.row.S.Denot = c.settle_step.new.self.store in
    of_source c.in-Some.source.now few is
    (subst (λ (x : g.row.S.Denot). OfSound g.S.NodeStore x (IsSettleStep (g.S.NodeStore.nodes x) (g.S.NodeStore.table x) c.in-Some.source.now (g.S.NodeStore.nodes new) (g.S.NodeStore.table new)))
    (c.in_ok-flush_step.ensures.unchanged (ap Ok c.if-branch.false)) (λ k s. c.settle_step.ensures.step k s yes) known sound)
