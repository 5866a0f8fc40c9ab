-- Each step is one more, and a fault leaves the steps before it.
use Rattle.std.proofs.Common.{◌≡◌, ℕ, ◌<◌, Bool, refl, ap, ◌∙◌, inl, inr, arith}
use Rattle.std.specs.Prelude.{Result, Ok}
use Rattle.std.proofs.lemmas.Result.{err_from_is_err_and}
use Rattle.bd_limits.specs.Limits.{flush_limit}
use Rattle.bd_message.specs.declared.fault.Counter.TheVariants.{Flushes}
use Rattle.bd_pager.specs.Pagers.{table_of}
use Rattle.bd_view.specs.Trees.{waiting_limit}
use Rattle.bd_engine.specs.Engines.{flushed_on, flushes_after}
use Rattle.bd_engine.proofs.Counted.{flushed_none, flushed_once}
use Rattle.bd_volume.specs.declared.fault.Fault.{Fault}
use Rattle.bd_volume.specs.Volume.{view_of}
use Rattle.bd_volume.proofs.Called.{went_on, goes_then, ends_then, ends_err, ends_well, ends_worn}
use Rattle.bd_volume.proofs.Faulted.{step_halts, count_worn, flushes_worn, step_shows}
use Rattle.bd_volume.proofs.Keeping.{keeps_none, keeps_then}
use Rattle.bd_volume.proofs.Stepped.{steps_then, steps_saved, has_stepped, has_settled, not_stepped}
use Rattle.bd_volume.proofs.volume.Volume.make_ready.Goals as goal

pub returns-then-self-clause-stepped : goal.returns-then-self-clause-stepped
returns-then-self-clause-stepped g c = λ s.
    let v = view_of g.D.Device c.args.self.now in
    not_stepped c.args.command.now v v refl

pub returns-then-self-clause-fails : goal.returns-then-self-clause-fails
returns-then-self-clause-fails g c = λ s. count_worn c.args.self.now.count c.args.command.now (view_of g.D.Device c.args.self.now) c.requires.logged.0 (omega arith)

pub returns-then-self-clause-keeps : goal.returns-then-self-clause-keeps
returns-then-self-clause-keeps g c = keeps_none g.D.Device c.args.self.now

pub returns-in_err-make_log_room-clause-stepped : goal.returns-in_err-make_log_room-clause-stepped
returns-in_err-make_log_room-clause-stepped g c = λ s.
    has_stepped c.args.command.now 0 (view_of g.D.Device c.args.self.now) (view_of g.D.Device c.make_log_room.new.self) (c.in_err-make_log_room.ensures.steps s) (omega arith)

pub returns-in_err-make_log_room-clause-fails : goal.returns-in_err-make_log_room-clause-fails
returns-in_err-make_log_room-clause-fails g c = λ s.
    let p = err_from_is_err_and c.from_residual.result c.from_residual.ensures.1 in
    let old = view_of g.D.Device c.args.self.now in
    let new = view_of g.D.Device c.make_log_room.new.self in
    let h = c.in_err-make_log_room.ensures in
    rw (p.1, p.2) (step_halts c.in_err-make_log_room.field-0.0 c.args.self.now.count c.args.command.now old new c.requires.logged.0 (has_stepped c.args.command.now 0 old new (h.steps s) (omega arith)) (h.fails s))

pub loop-made-init : goal.loop-made-init
loop-made-init g c =
    let h = c.in_ok-make_log_room.ensures in
    record {
      goes = went_on g.D.Device c.args.self.now c.make_log_room.new.self _ h.ends h.count_stays;
      sound = h.sound;
      keeps = h.keeps;
      log = h.log;
      made = h.flushes ∙ flushed_none c.args.self.now.engine.flushes (omega (arith, c.flushes.ensures, c.flushes.type_inv));
      steps = h.steps;
    }

pub returns-in_err-flush_step-clause-stepped : goal.returns-in_err-flush_step-clause-stepped
returns-in_err-flush_step-clause-stepped g c = λ s.
    let old = view_of g.D.Device c.args.self.now in
    let new = view_of g.D.Device c.flush_step.new.self in
    let i = c.loop-made.invariant in
    has_stepped c.args.command.now c.loop-made._made old new
    (steps_saved c.args.command.now c.loop-made._made old (view_of g.D.Device c.loop-made.self) new (i.steps s) (c.in_err-flush_step.ensures.rest (i.sound s) (λ e. cc)))
    (omega (arith, c.loop-made-test.true))

pub returns-in_err-flush_step-clause-fails : goal.returns-in_err-flush_step-clause-fails
returns-in_err-flush_step-clause-fails g c = λ s.
    let p = err_from_is_err_and c.from_residual-in_err-flush_step.result c.from_residual-in_err-flush_step.ensures.1 in
    let old = view_of g.D.Device c.args.self.now in
    let new = view_of g.D.Device c.flush_step.new.self in
    let i = c.loop-made.invariant in
    let stepped = has_stepped c.args.command.now c.loop-made._made old new
    (steps_saved c.args.command.now c.loop-made._made old (view_of g.D.Device c.loop-made.self) new (i.steps s) (c.in_err-flush_step.ensures.rest (i.sound s) (λ e. cc)))
    (omega (arith, c.loop-made-test.true)) in
    rw (p.1, p.2) (step_halts c.in_err-flush_step.field-0.0 c.args.self.now.count c.args.command.now old new c.requires.logged.0 stepped (c.in_err-flush_step.ensures.fails (i.sound s)))

pub returns-then-not-branch-clause-stepped : goal.returns-then-not-branch-clause-stepped
returns-then-not-branch-clause-stepped g c = λ s.
    let old = view_of g.D.Device c.args.self.now in
    let new = view_of g.D.Device c.flush_step.new.self in
    let i = c.loop-made.invariant in
    let off = c.if-not-branch.true in
    has_stepped c.args.command.now c.loop-made._made old new
    (steps_saved c.args.command.now c.loop-made._made old (view_of g.D.Device c.loop-made.self) new (i.steps s) (c.in_ok-flush_step.ensures.rest (i.sound s) (λ e. cc)))
    (omega (arith, c.loop-made-test.true))

pub returns-then-not-branch-clause-settled : goal.returns-then-not-branch-clause-settled
returns-then-not-branch-clause-settled g c = λ s.
    let old = view_of g.D.Device c.args.self.now in
    let new = view_of g.D.Device c.flush_step.new.self in
    let i = c.loop-made.invariant in
    let off = c.if-not-branch.true in
    has_settled c.args.command.now _ c.loop-made._made old new
    (steps_saved c.args.command.now c.loop-made._made old (view_of g.D.Device c.loop-made.self) new (i.steps s) (c.in_ok-flush_step.ensures.rest (i.sound s) (λ e. cc)))
    (omega (arith, c.loop-made-test.true)) (inr (c.in_ok-flush_step.ensures.settled (i.sound s) (ap Ok off)))

pub loop-made-preserved : goal.loop-made-preserved
loop-made-preserved g c =
    let i = c.loop-made.invariant in
    let h = c.in_ok-flush_step.ensures in
    record {
      goes = goes_then g.D.Device c.args.self.now c.loop-made.self c.flush_step.new.self i.goes (went_on g.D.Device c.loop-made.self c.flush_step.new.self _ h.ends h.count_stays);
      sound = λ s. h.sound (i.sound s);
      keeps = keeps_then g.D.Device c.args.self.now c.loop-made.self c.flush_step.new.self (g.met.D.Device.since_earlier c.loop-made.self.engine.pager.dev) i.keeps h.keeps;
      log = h.log i.log;
      made = h.counted ∙ ap (λ (r : Result Bool Fault). flushes_after c.loop-made.self.engine.flushes r) (ap Ok c.if-not-branch.false) ∙ ap (λ (n : ℕ). flushed_on n 1) i.made ∙ flushed_once c.args.self.now.engine.flushes c.loop-made._made;
      steps = λ s. steps_then c.args.command.now c.loop-made._made 1 (view_of g.D.Device c.args.self.now) (view_of g.D.Device c.loop-made.self) (view_of g.D.Device c.flush_step.new.self) (i.steps s)
          (h.flushed (i.sound s) (ap Ok c.if-not-branch.false));
    }

pub returns-in_err-make_room-clause-stepped : goal.returns-in_err-make_room-clause-stepped
returns-in_err-make_room-clause-stepped g c = λ s.
    let old = view_of g.D.Device c.args.self.now in
    let new = view_of g.D.Device c.make_room.new.self in
    let i = c.loop-made.invariant in
    has_stepped c.args.command.now c.loop-made._made old new
    (steps_saved c.args.command.now c.loop-made._made old (view_of g.D.Device c.loop-made.self) new (i.steps s) (c.in_err-make_room.ensures.steps (i.sound s)))
    (omega (arith, c.loop-made.auto._made-end))

pub returns-in_err-make_room-clause-fails : goal.returns-in_err-make_room-clause-fails
returns-in_err-make_room-clause-fails g c = λ s.
    let p = err_from_is_err_and c.from_residual-in_err-make_room.result c.from_residual-in_err-make_room.ensures.1 in
    let old = view_of g.D.Device c.args.self.now in
    let new = view_of g.D.Device c.make_room.new.self in
    let i = c.loop-made.invariant in
    let stepped = has_stepped c.args.command.now c.loop-made._made old new
    (steps_saved c.args.command.now c.loop-made._made old (view_of g.D.Device c.loop-made.self) new (i.steps s) (c.in_err-make_room.ensures.steps (i.sound s)))
    (omega (arith, c.loop-made.auto._made-end)) in
    rw (p.1, p.2) (step_halts c.in_err-make_room.field-0.0 c.args.self.now.count c.args.command.now old new c.requires.logged.0 stepped (c.in_err-make_room.ensures.fails (i.sound s)))

pub returns-then-root_size-waiting_limit-clause-stepped :
    goal.returns-then-root_size-waiting_limit-clause-stepped
returns-then-root_size-waiting_limit-clause-stepped g c = λ s.
    let old = view_of g.D.Device c.args.self.now in
    let new = view_of g.D.Device c.make_room.new.self in
    let i = c.loop-made.invariant in
    has_stepped c.args.command.now c.loop-made._made old new
    (steps_saved c.args.command.now c.loop-made._made old (view_of g.D.Device c.loop-made.self) new (i.steps s) (c.in_ok-make_room.ensures.steps (i.sound s)))
    (omega (arith, c.loop-made.auto._made-end))

pub returns-then-root_size-waiting_limit-clause-settled :
    goal.returns-then-root_size-waiting_limit-clause-settled
returns-then-root_size-waiting_limit-clause-settled g c = λ s.
    let old = view_of g.D.Device c.args.self.now in
    let new = view_of g.D.Device c.make_room.new.self in
    let i = c.loop-made.invariant in
    has_settled c.args.command.now _ c.loop-made._made old new
    (steps_saved c.args.command.now c.loop-made._made old (view_of g.D.Device c.loop-made.self) new (i.steps s) (c.in_ok-make_room.ensures.steps (i.sound s)))
    (omega (arith, c.loop-made.auto._made-end)) (inl (omega (arith, c.loop-made.auto._made-end, c.loop-made-test.false)))

pub returns-clause-stepped : goal.returns-clause-stepped
returns-clause-stepped g c = λ s.
    let old = view_of g.D.Device c.args.self.now in
    let new = view_of g.D.Device c.make_room.new.self in
    let i = c.loop-made.invariant in
    has_stepped c.args.command.now c.loop-made._made old new
    (steps_saved c.args.command.now c.loop-made._made old (view_of g.D.Device c.loop-made.self) new (i.steps s) (c.in_ok-make_room.ensures.steps (i.sound s)))
    (omega (arith, c.loop-made.auto._made-end))

pub returns-clause-fails : goal.returns-clause-fails
returns-clause-fails g c = λ s.
    let old = view_of g.D.Device c.args.self.now in
    let new = view_of g.D.Device c.make_room.new.self in
    let i = c.loop-made.invariant in
    let steps = steps_saved c.args.command.now c.loop-made._made old (view_of g.D.Device c.loop-made.self) new (i.steps s) (c.in_ok-make_room.ensures.steps (i.sound s)) in
    let all : c.loop-made._made ≡ flush_limit = omega (arith, c.loop-made.auto._made-end, c.loop-made-test.false) in
    let waits : waiting_limit c.args.command.now < new.tree.table.size = omega (arith, c.root_size.ensures, c.waiting_limit.ensures, c.if-root_size-waiting_limit.false) in
    flushes_worn c.args.self.now.count c.args.command.now c.loop-made._made old new c.requires.logged.0 steps all waits

pub returns-in_err-flush_step-clause-keeps : goal.returns-in_err-flush_step-clause-keeps
returns-in_err-flush_step-clause-keeps g c =
    keeps_then g.D.Device c.args.self.now c.loop-made.self c.flush_step.new.self (g.met.D.Device.since_earlier c.loop-made.self.engine.pager.dev) c.loop-made.invariant.keeps c.in_err-flush_step.ensures.keeps

pub returns-then-not-branch-clause-keeps : goal.returns-then-not-branch-clause-keeps
returns-then-not-branch-clause-keeps g c =
    keeps_then g.D.Device c.args.self.now c.loop-made.self c.flush_step.new.self (g.met.D.Device.since_earlier c.loop-made.self.engine.pager.dev) c.loop-made.invariant.keeps c.in_ok-flush_step.ensures.keeps

pub returns-in_err-make_room-clause-keeps : goal.returns-in_err-make_room-clause-keeps
returns-in_err-make_room-clause-keeps g c =
    keeps_then g.D.Device c.args.self.now c.loop-made.self c.make_room.new.self (g.met.D.Device.since_earlier c.loop-made.self.engine.pager.dev) c.loop-made.invariant.keeps c.in_err-make_room.ensures.keeps

pub returns-then-root_size-waiting_limit-clause-keeps : goal.returns-then-root_size-waiting_limit-clause-keeps
returns-then-root_size-waiting_limit-clause-keeps g c =
    keeps_then g.D.Device c.args.self.now c.loop-made.self c.make_room.new.self (g.met.D.Device.since_earlier c.loop-made.self.engine.pager.dev) c.loop-made.invariant.keeps c.in_ok-make_room.ensures.keeps

pub returns-clause-keeps : goal.returns-clause-keeps
returns-clause-keeps g c =
    keeps_then g.D.Device c.args.self.now c.loop-made.self c.make_room.new.self (g.met.D.Device.since_earlier c.loop-made.self.engine.pager.dev) c.loop-made.invariant.keeps c.in_ok-make_room.ensures.keeps

pub returns-in_err-make_log_room-clause-shows : goal.returns-in_err-make_log_room-clause-shows
returns-in_err-make_log_room-clause-shows g c =
    let p = err_from_is_err_and c.from_residual.result c.from_residual.ensures.1 in
    rw (p.1, p.2) (step_shows g.D.Device c.in_err-make_log_room.field-0.0 c.args.self.now.count c.args.self.now.engine.flushes c.args.command.now c.make_log_room.new.self.engine c.in_err-make_log_room.ensures.shows)

pub returns-in_err-flush_step-clause-shows : goal.returns-in_err-flush_step-clause-shows
returns-in_err-flush_step-clause-shows g c =
    let p = err_from_is_err_and c.from_residual-in_err-flush_step.result c.from_residual-in_err-flush_step.ensures.1 in
    rw (p.1, p.2) (step_shows g.D.Device c.in_err-flush_step.field-0.0 c.args.self.now.count c.args.self.now.engine.flushes c.args.command.now c.flush_step.new.self.engine c.in_err-flush_step.ensures.shows)

pub returns-in_err-make_room-clause-shows : goal.returns-in_err-make_room-clause-shows
returns-in_err-make_room-clause-shows g c =
    let p = err_from_is_err_and c.from_residual-in_err-make_room.result c.from_residual-in_err-make_room.ensures.1 in
    rw (p.1, p.2) (step_shows g.D.Device c.in_err-make_room.field-0.0 c.args.self.now.count c.args.self.now.engine.flushes c.args.command.now c.make_room.new.self.engine c.in_err-make_room.ensures.shows)

pub returns-clause-shows : goal.returns-clause-shows
returns-clause-shows g c =
    let all : c.loop-made._made ≡ flush_limit = omega (arith, c.loop-made.auto._made-end, c.loop-made-test.false) in
    let waits : waiting_limit c.args.command.now < (table_of c.make_room.new.self.engine.pager).size = omega (arith, c.root_size.ensures, c.waiting_limit.ensures, c.if-root_size-waiting_limit.false) in
    record {
      made = c.in_ok-make_room.ensures.flushes ∙ c.loop-made.invariant.made ∙ ap (λ (n : ℕ). flushed_on c.args.self.now.engine.flushes n) all;
      waits = waits;
    }

pub returns-in_err-flush_step-clause-ends : goal.returns-in_err-flush_step-clause-ends
returns-in_err-flush_step-clause-ends g c =
    let p = err_from_is_err_and c.from_residual-in_err-flush_step.result c.from_residual-in_err-flush_step.ensures.1 in
    rw (p.1, p.2) (ends_then g.D.Device c.args.self.now c.loop-made.self c.flush_step.new.self _ c.loop-made.invariant.goes (ends_err g.D.Device c.loop-made.self c.flush_step.new.self c.in_err-flush_step.field-0.0 c.in_err-flush_step.ensures.ends))

pub returns-in_err-make_room-clause-ends : goal.returns-in_err-make_room-clause-ends
returns-in_err-make_room-clause-ends g c =
    let p = err_from_is_err_and c.from_residual-in_err-make_room.result c.from_residual-in_err-make_room.ensures.1 in
    rw (p.1, p.2) (ends_then g.D.Device c.args.self.now c.loop-made.self c.make_room.new.self _ c.loop-made.invariant.goes (ends_err g.D.Device c.loop-made.self c.make_room.new.self c.in_err-make_room.field-0.0 c.in_err-make_room.ensures.ends))

pub returns-then-not-branch-clause-ends : goal.returns-then-not-branch-clause-ends
returns-then-not-branch-clause-ends g c =
    let h = c.in_ok-flush_step.ensures in
    ends_well g.D.Device c.args.self.now c.flush_step.new.self _
    (goes_then g.D.Device c.args.self.now c.loop-made.self c.flush_step.new.self c.loop-made.invariant.goes (went_on g.D.Device c.loop-made.self c.flush_step.new.self _ h.ends h.count_stays))

pub returns-then-root_size-waiting_limit-clause-ends : goal.returns-then-root_size-waiting_limit-clause-ends
returns-then-root_size-waiting_limit-clause-ends g c =
    let h = c.in_ok-make_room.ensures in
    ends_well g.D.Device c.args.self.now c.make_room.new.self _
    (goes_then g.D.Device c.args.self.now c.loop-made.self c.make_room.new.self c.loop-made.invariant.goes (went_on g.D.Device c.loop-made.self c.make_room.new.self _ h.ends h.count_stays))

pub returns-clause-ends : goal.returns-clause-ends
returns-clause-ends g c =
    let h = c.in_ok-make_room.ensures in
    ends_worn g.D.Device c.args.self.now c.make_room.new.self Flushes
    (goes_then g.D.Device c.args.self.now c.loop-made.self c.make_room.new.self c.loop-made.invariant.goes (went_on g.D.Device c.loop-made.self c.make_room.new.self _ h.ends h.count_stays))
