-- Each question goes on from those before it, and each way out ends as its reply or the fault does.
use Rattle.std.proofs.Common.{ℕ, refl, sym, ap, subst, ◌∙◌}
use Rattle.std.proofs.lemmas.Result.{err_from_is_err_and}
use Rattle.std.specs.declared.result.Result.TheVariants.{Ok}
use Rattle.bd_stream.specs.Answering.{seen}
use Rattle.bd_stream.specs.Exporting.{Export}
use Rattle.bd_stream.proofs.EndLemmas.{begin_fair, IsFair}
use Rattle.bd_shell.specs.Fault.{Faults}
use Rattle.bd_shell.specs.Shell.{ShellAt}
use Rattle.bd_shell.proofs.Moving.{stays_more, stays_same}
use Rattle.bd_transfer.specs.Asking.{AsksOne}
use Rattle.bd_transfer.proofs.Asked.{Going, asks_end, asks_err, asks_last, asks_none, fair_more, going_more, going_none, less_more, none_of, one_more}
use Rattle.bd_transfer.proofs.exporting.ask_all.Goals as goal

pub returns-in_err-exporter-clause-asks : goal.returns-in_err-exporter-clause-asks
returns-in_err-exporter-clause-asks g c =
    let p = err_from_is_err_and c.from_residual.result c.from_residual.ensures.1 in
    rw (p.1, p.2) (λ first since. asks_none _ _ _ _ _ _ (going_none c.args.top.now (ShellAt g.D.Device first since c.args.shell.now) (g.K.Sink.written c.args.sink.now)))

pub questions-init : goal.questions-init
questions-init g c = record {
  asked = λ first since. subst (λ s. Going c.args.top.now (ShellAt g.D.Device first since c.args.shell.now) (ShellAt g.D.Device first since c.args.shell.now) s (g.K.Sink.written c.args.sink.now) (g.K.Sink.written c.args.sink.now))
      (sym c.in_ok-exporter.ensures) (going_none c.args.top.now (ShellAt g.D.Device first since c.args.shell.now) (g.K.Sink.written c.args.sink.now));
  fair = subst IsFair (sym c.in_ok-exporter.ensures) (begin_fair c.args.top.now);
  why = ap (λ (s : Export). Rattle.bd_stream.specs.Answering.why_not s.stage) c.in_ok-exporter.ensures;
  going = c.requires.going;
  acks = refl;
  device = stays_same g.D.Device _;
  writes = refl;
  count = refl;
  sink = refl;
}

pub returns-in_err-command-clause-asks : goal.returns-in_err-command-clause-asks
returns-in_err-command-clause-asks g c =
    let p = err_from_is_err_and c.from_residual-in_err-command.result c.from_residual-in_err-command.ensures.1 in
    rw (p.1, p.2) (λ first since. asks_none _ _ _ _ _ _ (c.questions.invariant.asked first since))

pub returns-in_err-end-clause-asks : goal.returns-in_err-end-clause-asks
returns-in_err-end-clause-asks g c =
    let p = err_from_is_err_and c.from_residual-in_err-end.result c.from_residual-in_err-end.ensures.1 in
    rw (p.1, p.2) (λ first since. asks_err c.in_err-end.field-0.0 _ _ _ _ _ _ _ _ _ (c.questions.invariant.asked first since) (c.in_err-end.ensures.one first since))

pub returns-in-Some-2-clause-asks : goal.returns-in-Some-2-clause-asks
returns-in-Some-2-clause-asks g c first since =
    asks_last c.in-Some-2.end _ _ _ _ _ _ _ _ _ (c.questions.invariant.asked first since)
    (subst (λ o. AsksOne (Ok o) (seen c.questions.exporter) (seen c.ask_one.new.exporter) (ShellAt g.D.Device first since c.questions.shell) (ShellAt g.D.Device first since c.ask_one.new.shell)
    (g.K.Sink.written c.questions.sink) (g.K.Sink.written c.ask_one.new.sink)) c.in-Some-2.is (c.in_ok-end.ensures.one first since))

pub questions-smaller : goal.questions-smaller
questions-smaller g c =
    let none = none_of c.in_ok-end.field-0 c.in_default-2.not-Some in
    let at = c.args.shell.now.kept.volume.engine.pager.dev in
    less_more (seen c.questions.exporter) (seen c.ask_one.new.exporter) _ _ _ _ c.questions.invariant.fair
    (one_more _ _ _ _ _ _ (subst (λ o. AsksOne (Ok o) (seen c.questions.exporter) (seen c.ask_one.new.exporter) (ShellAt g.D.Device at 0 c.questions.shell) (ShellAt g.D.Device at 0 c.ask_one.new.shell)
    (g.K.Sink.written c.questions.sink) (g.K.Sink.written c.ask_one.new.sink)) none (c.in_ok-end.ensures.one at 0)))

pub questions-preserved : goal.questions-preserved
questions-preserved g c =
    let none = none_of c.in_ok-end.field-0 c.in_default-2.not-Some in
    let one = λ (first : g.row.D.Denot) (since : ℕ). one_more (seen c.questions.exporter) (seen c.ask_one.new.exporter) (ShellAt g.D.Device first since c.questions.shell) (ShellAt g.D.Device first since c.ask_one.new.shell)
    (g.K.Sink.written c.questions.sink) (g.K.Sink.written c.ask_one.new.sink)
    (subst (λ o. AsksOne (Ok o) (seen c.questions.exporter) (seen c.ask_one.new.exporter) (ShellAt g.D.Device first since c.questions.shell) (ShellAt g.D.Device first since c.ask_one.new.shell)
    (g.K.Sink.written c.questions.sink) (g.K.Sink.written c.ask_one.new.sink)) none (c.in_ok-end.ensures.one first since)) in
    let at = c.args.shell.now.kept.volume.engine.pager.dev in
    let kept = c.in_ok-end.ensures.cause.kept in
    record {
      asked = λ first since. going_more _ _ _ _ _ _ _ _ _ _ (c.questions.invariant.asked first since) (one first since);
      fair = fair_more (seen c.questions.exporter) (seen c.ask_one.new.exporter) _ _ _ _ c.questions.invariant.fair (one at 0);
      why = (one at 0).ends;
      going = c.in_ok-end.ensures.going;
      acks = c.in_ok-end.ensures.unacked ∙ c.questions.invariant.acks;
      device = stays_more g.D.Device _ _ _ c.questions.invariant.device c.in_ok-end.ensures.device;
      writes = c.in_ok-end.ensures.writes ∙ c.questions.invariant.writes;
      count = ap (λ (f : Faults). f.device) kept ∙ c.questions.invariant.count;
      sink = ap (λ (f : Faults). f.sink) kept ∙ c.questions.invariant.sink;
    }

pub returns-clause-asks : goal.returns-clause-asks
returns-clause-asks g c first since =
    let none = none_of c.in_ok-command.field-0 c.in_default.not-Some in
    asks_end _ _ _ _ _ _ _ (c.questions.invariant.asked first since) (sym c.in_ok-command.ensures.asked ∙ none, c.questions.invariant.why)
