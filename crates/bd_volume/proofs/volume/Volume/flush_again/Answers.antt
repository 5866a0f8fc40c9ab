-- Each flush step is one more, and a fault comes after those before it.
use Rattle.std.proofs.Common.{◌≡◌, ◌<◌, ℕ, refl, ap, ◌∙◌, inl, inr, arith}
use Rattle.std.specs.Prelude.{Bool, Result, Ok}
use Rattle.std.proofs.lemmas.Result.{err_from_is_err_and}
use Rattle.bd_limits.specs.Limits.{flush_limit}
use Rattle.bd_view.specs.Trees.{waiting_limit}
use Rattle.bd_engine.specs.Engines.{flushed_on, flushes_after}
use Rattle.bd_volume.specs.declared.fault.Fault.{Fault}
use Rattle.bd_volume.specs.Volume.{view_of}
use Rattle.bd_volume.proofs.Faulted.{step_shows}
use Rattle.bd_volume.proofs.Early.{early_goes, early_fails, goes_ok, goes_both}
use Rattle.bd_volume.proofs.Replayed.{flushed_none, flushed_more, flushed_last, few_made, has_flushed, flushes_fail, all_flushed, cause_then, cause_ok, cause_worn}
use Rattle.bd_volume.proofs.volume.Volume.flush_again.Goals as goal

pub loop-made-init : goal.loop-made-init
loop-made-init g c = flushed_none g.D.Device c.args.how c.args.command.now c.args.self.now c.requires.going (omega (arith, c.flushes.ensures, c.flushes.type_inv))

pub loop-made-preserved : goal.loop-made-preserved
loop-made-preserved g c =
    let h = c.in_ok-flush_once.ensures in
    flushed_more g.D.Device c.args.how c.args.command.now c.loop-made._made c.args.self.now c.loop-made.self c.flush_once.new.self c.loop-made.invariant h.sound h.same
    (λ s. h.flushed s (ap Ok c.if-not-branch.false)) (goes_ok g.D.Device c.args.how c.loop-made.self c.flush_once.new.self _ h.writes) h.cause.kept h.count_stays
    (h.counted ∙ ap (λ (r : Result Bool Fault). flushes_after c.loop-made.self.engine.flushes r) (ap Ok c.if-not-branch.false))

pub returns-in_err-flush_once-clause-fails : goal.returns-in_err-flush_once-clause-fails
returns-in_err-flush_once-clause-fails g c =
    let p = err_from_is_err_and c.from_residual.result c.from_residual.ensures.1 in
    let i = c.loop-made.invariant in
    rw (p.1, p.2) (flushes_fail g.D.Device c.in_err-flush_once.field-0.0 c.args.command.now c.args.self.now c.loop-made.self c.loop-made._made i.goes.early.good i.sound i.flushed (omega (arith, c.loop-made-test.true)) c.in_err-flush_once.ensures.fails)

pub returns-in_err-flush_once-clause-same : goal.returns-in_err-flush_once-clause-same
returns-in_err-flush_once-clause-same g c = λ s.
    let i = c.loop-made.invariant in
    let h = c.in_err-flush_once.ensures in
    (λ k. h.same (i.sound s) k ∙ i.same s k)

pub returns-in_err-flush_once-clause-writes : goal.returns-in_err-flush_once-clause-writes
returns-in_err-flush_once-clause-writes g c =
    let p = err_from_is_err_and c.from_residual.result c.from_residual.ensures.1 in
    rw (p.1, p.2) (early_fails g.D.Device c.args.how c.args.self.now c.loop-made.self c.flush_once.new.self c.in_err-flush_once.field-0.0 c.loop-made.invariant.goes c.loop-made.invariant.faults c.in_err-flush_once.ensures.writes)

pub returns-in_err-flush_once-clause-cause : goal.returns-in_err-flush_once-clause-cause
returns-in_err-flush_once-clause-cause g c =
    let p = err_from_is_err_and c.from_residual.result c.from_residual.ensures.1 in
    let h = c.in_err-flush_once.ensures in
    rw (p.1, p.2) (cause_then g.D.Device _ c.args.self.now c.loop-made.self c.flush_once.new.self c.loop-made.invariant.faults (record { kept = tt; failed = h.cause.failed }))

pub returns-then-not-branch-clause-flushed : goal.returns-then-not-branch-clause-flushed
returns-then-not-branch-clause-flushed g c = λ s.
    let i = c.loop-made.invariant in
    let h = c.in_ok-flush_once.ensures in
    let off = c.if-not-branch.true in
    let last = flushed_last g.D.Device c.args.how c.args.command.now c.loop-made._made c.args.self.now c.loop-made.self c.flush_once.new.self i h.sound h.same (λ k. h.rest k (λ e. cc)) (goes_ok g.D.Device c.args.how c.loop-made.self c.flush_once.new.self _ h.writes) h.cause.kept h.count_stays (h.counted ∙ ap (λ (r : Result Bool Fault). flushes_after c.loop-made.self.engine.flushes r) (ap Ok off)) in
    has_flushed g.D.Device c.args.how c.args.command.now _ c.loop-made._made c.args.self.now c.flush_once.new.self last (omega (arith, c.loop-made-test.true)) s (inr (h.settled (i.sound s) (ap Ok off)))

pub returns-then-not-branch-clause-same : goal.returns-then-not-branch-clause-same
returns-then-not-branch-clause-same g c = λ s.
    let i = c.loop-made.invariant in
    let h = c.in_ok-flush_once.ensures in
    let off = c.if-not-branch.true in
    (flushed_last g.D.Device c.args.how c.args.command.now c.loop-made._made c.args.self.now c.loop-made.self c.flush_once.new.self i h.sound h.same (λ k. h.rest k (λ e. cc)) (goes_ok g.D.Device c.args.how c.loop-made.self c.flush_once.new.self _ h.writes) h.cause.kept h.count_stays (h.counted ∙ ap (λ (r : Result Bool Fault). flushes_after c.loop-made.self.engine.flushes r) (ap Ok off))).same s

pub returns-then-not-branch-clause-writes : goal.returns-then-not-branch-clause-writes
returns-then-not-branch-clause-writes g c =
    early_goes g.D.Device c.args.how c.args.self.now c.flush_once.new.self _ (goes_both g.D.Device c.args.how c.args.self.now c.loop-made.self c.flush_once.new.self c.loop-made.invariant.goes (goes_ok g.D.Device c.args.how c.loop-made.self c.flush_once.new.self _ c.in_ok-flush_once.ensures.writes))

pub returns-then-not-branch-clause-cause : goal.returns-then-not-branch-clause-cause
returns-then-not-branch-clause-cause g c =
    let i = c.loop-made.invariant in
    let h = c.in_ok-flush_once.ensures in
    cause_then g.D.Device _ c.args.self.now c.loop-made.self c.flush_once.new.self i.faults (cause_ok g.D.Device c.loop-made.self c.flush_once.new.self _ h.cause.kept)

pub returns-then-root_size-waiting_limit-clause-flushed : goal.returns-then-root_size-waiting_limit-clause-flushed
returns-then-root_size-waiting_limit-clause-flushed g c = λ s.
    has_flushed g.D.Device c.args.how c.args.command.now _ c.loop-made._made c.args.self.now c.loop-made.self c.loop-made.invariant (omega (arith, c.loop-made.auto._made-end)) s (inl (omega (arith, c.loop-made.auto._made-end, c.loop-made-test.false)))

pub returns-clause-fails : goal.returns-clause-fails
returns-clause-fails g c = λ s.
    let new = view_of g.D.Device c.loop-made.self in
    let all : c.loop-made._made ≡ flush_limit = omega (arith, c.loop-made.auto._made-end, c.loop-made-test.false) in
    let waits : waiting_limit c.args.command.now < new.tree.table.size = omega (arith, c.root_size.ensures, c.waiting_limit.ensures, c.if-root_size-waiting_limit.false) in
    all_flushed c.args.self.now.count c.args.command.now c.loop-made._made (view_of g.D.Device c.args.self.now) new (c.loop-made.invariant.flushed s) all waits

pub returns-then-root_size-waiting_limit-clause-cause : goal.returns-then-root_size-waiting_limit-clause-cause
returns-then-root_size-waiting_limit-clause-cause g c = cause_ok g.D.Device c.args.self.now c.loop-made.self _ c.loop-made.invariant.faults

pub returns-clause-cause : goal.returns-clause-cause
returns-clause-cause g c = cause_worn g.D.Device c.args.self.now c.loop-made.self _ c.loop-made.invariant.faults

pub returns-then-root_size-waiting_limit-clause-writes :
    goal.returns-then-root_size-waiting_limit-clause-writes
returns-then-root_size-waiting_limit-clause-writes g c = early_goes g.D.Device c.args.how c.args.self.now c.loop-made.self _ c.loop-made.invariant.goes

pub returns-clause-writes : goal.returns-clause-writes
returns-clause-writes g c = early_goes g.D.Device c.args.how c.args.self.now c.loop-made.self _ c.loop-made.invariant.goes

-- ---- what is told where the nodes may not be known

pub returns-in_err-flush_once-clause-shows : goal.returns-in_err-flush_once-clause-shows
returns-in_err-flush_once-clause-shows g c =
    let p = err_from_is_err_and c.from_residual.result c.from_residual.ensures.1 in
    rw (p.1, p.2) (step_shows g.D.Device c.in_err-flush_once.field-0.0 c.args.self.now.count c.args.self.now.engine.flushes c.args.command.now c.flush_once.new.self.engine c.in_err-flush_once.ensures.shows)

pub returns-in_err-flush_once-clause-few : goal.returns-in_err-flush_once-clause-few
returns-in_err-flush_once-clause-few g c =
    few_made g.D.Device c.args.how c.args.command.now c.loop-made._made c.args.self.now c.loop-made.self c.flush_once.new.self c.loop-made.invariant (omega (arith, c.loop-made-test.true)) c.in_err-flush_once.ensures.counted

pub returns-then-not-branch-clause-few : goal.returns-then-not-branch-clause-few
returns-then-not-branch-clause-few g c =
    let off = c.if-not-branch.true in
    few_made g.D.Device c.args.how c.args.command.now c.loop-made._made c.args.self.now c.loop-made.self c.flush_once.new.self c.loop-made.invariant (omega (arith, c.loop-made-test.true))
    (c.in_ok-flush_once.ensures.counted ∙ ap (λ (r : Result Bool Fault). flushes_after c.loop-made.self.engine.flushes r) (ap Ok off))

pub returns-then-root_size-waiting_limit-clause-few : goal.returns-then-root_size-waiting_limit-clause-few
returns-then-root_size-waiting_limit-clause-few g c =
    few_made g.D.Device c.args.how c.args.command.now c.loop-made._made c.args.self.now c.loop-made.self c.loop-made.self c.loop-made.invariant (omega (arith, c.loop-made.auto._made-end)) refl

pub returns-clause-few : goal.returns-clause-few
returns-clause-few g c =
    few_made g.D.Device c.args.how c.args.command.now c.loop-made._made c.args.self.now c.loop-made.self c.loop-made.self c.loop-made.invariant (omega (arith, c.loop-made.auto._made-end)) refl

pub returns-clause-shows : goal.returns-clause-shows
returns-clause-shows g c =
    let all : c.loop-made._made ≡ flush_limit = omega (arith, c.loop-made.auto._made-end, c.loop-made-test.false) in
    record {
      made = c.loop-made.invariant.counted ∙ ap (λ (n : ℕ). flushed_on c.args.self.now.engine.flushes n) all;
      waits = omega (arith, c.root_size.ensures, c.waiting_limit.ensures, c.if-root_size-waiting_limit.false);
    }
