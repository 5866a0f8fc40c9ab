-- Each line goes on from the lines before it, and what is left at the end is held.
use Rattle.std.proofs.Common.{◌++◌, refl, sym, ap, ◌∙◌}
use Rattle.std.proofs.lemmas.Result.{err_from_is_err_and}
use Rattle.bd_sessions.specs.Spoken.{Single}
use Rattle.bd_shell.specs.Session.{breaks}
use Rattle.bd_shell.proofs.Executes.{executes_none, executes_one}
use Rattle.bd_shell.proofs.Left.{leaves_nothing}
use Rattle.bd_shell.proofs.Moving.{stays_same, stays_more, caused_after, writes_after, went_on, memory_after}
use Rattle.bd_shell.proofs.Feeding.{fed_none, fed_more, fed_stops, stops_fed, fed_ends, ends_fed, memory_fed, fails_fed, fed_short, at_none, not_break}
use Rattle.bd_shell.proofs.shell.Shell.feed.Goals as goal

pub lines-init : goal.lines-init
lines-init g c = record {
  fed = λ first since. fed_none Single _ _ _ _ c.requires.begun (executes_none _ _);
  going = c.requires.going;
  device = stays_same g.D.Device _;
  writes = refl;
  counts = refl;
}

pub end_line-requires : goal.end_line-requires
end_line-requires g c = record {
  short = let fed = c.lines.invariant.fed c.args.self.now.kept.volume.engine.pager.dev 0 in
      fed_short c.lines.self.line.items (c.args.self.now.line.items ++ fed.front) fed.line_is;
  going = c.lines.invariant.going;
}

pub returns-in_err-end_line-clause-err : goal.returns-in_err-end_line-clause-err
returns-in_err-end_line-clause-err g c =
    let p = err_from_is_err_and c.from_residual.result c.from_residual.ensures.1 in
    rw (p.1, p.2) (λ first since. fails_fed Single c.in_err-end_line.field-0.0 _ _ _ _ _ _ _ _ _ _ _ _ (c.lines.invariant.fed first since) c.in-Some.ensures (c.in_err-end_line.ensures.err first since))

pub returns-in_err-end_line-clause-device : goal.returns-in_err-end_line-clause-device
returns-in_err-end_line-clause-device g c = stays_more g.D.Device _ _ _ c.lines.invariant.device c.in_err-end_line.ensures.device

pub returns-in_err-end_line-clause-writes : goal.returns-in_err-end_line-clause-writes
returns-in_err-end_line-clause-writes g c =
    let p = err_from_is_err_and c.from_residual.result c.from_residual.ensures.1 in
    rw (p.1, p.2) (writes_after g.D.Device _ _ _ c.in_err-end_line.field-0.0 c.lines.invariant.writes c.in_err-end_line.ensures.writes)

pub returns-in_err-end_line-clause-cause : goal.returns-in_err-end_line-clause-cause
returns-in_err-end_line-clause-cause g c =
    let p = err_from_is_err_and c.from_residual.result c.from_residual.ensures.1 in
    rw (p.1, p.2) (caused_after _ _ _ _ c.in_err-end_line.field-0.0 c.lines.invariant.counts c.in_err-end_line.ensures.cause)

pub returns-in-Break-clause-ok : goal.returns-in-Break-clause-ok
returns-in-Break-clause-ok g c first since =
    stops_fed Single _ _ _ _ _ _ _ _ _ _ _ _ (c.lines.invariant.fed first since) c.in-Some.ensures
    (sym c.in_ok-end_line.ensures.flow ∙ ap breaks c.in-Break.is)
    (executes_one _ _ _ _ _ (c.in_ok-end_line.ensures.ok first since))

pub returns-in-Break-clause-flow : goal.returns-in-Break-clause-flow
returns-in-Break-clause-flow g c =
    let fed = c.lines.invariant.fed c.args.self.now.kept.volume.engine.pager.dev 0 in
    sym (fed_stops Single c.args.self.now.line.items c.args.piece.now fed.front c.lines.rest.now c.in-Some.last.now c.in-Some.tail.now c.lines.self.line.items fed.piece_is c.in-Some.ensures fed.line_is fed.no_stop
    (sym c.in_ok-end_line.ensures.flow ∙ ap breaks c.in-Break.is)).stop

pub returns-in-Break-clause-device : goal.returns-in-Break-clause-device
returns-in-Break-clause-device g c = stays_more g.D.Device _ _ _ c.lines.invariant.device c.in_ok-end_line.ensures.device

pub returns-in-Break-clause-writes : goal.returns-in-Break-clause-writes
returns-in-Break-clause-writes g c = c.in_ok-end_line.ensures.writes ∙ c.lines.invariant.writes

pub returns-in-Break-clause-cause : goal.returns-in-Break-clause-cause
returns-in-Break-clause-cause g c = went_on _ _ _ _ (c.in_ok-end_line.ensures.cause.kept ∙ c.lines.invariant.counts)

pub lines-preserved : goal.lines-preserved
lines-preserved g c = record {
  fed = λ first since. fed_more Single _ _ _ _ _ _ _ _ _ _ _ _ _ (c.lines.invariant.fed first since) c.in-Some.ensures
      (sym c.in_ok-end_line.ensures.flow ∙ not_break c.in_ok-end_line.field-0 c.in_default-2.not-Break)
      c.in_ok-end_line.ensures.line
      (executes_one _ _ _ _ _ (c.in_ok-end_line.ensures.ok first since));
  going = c.in_ok-end_line.ensures.going;
  device = stays_more g.D.Device _ _ _ c.lines.invariant.device c.in_ok-end_line.ensures.device;
  writes = c.in_ok-end_line.ensures.writes ∙ c.lines.invariant.writes;
  counts = c.in_ok-end_line.ensures.cause.kept ∙ c.lines.invariant.counts;
}

pub hold-requires : goal.hold-requires
hold-requires g c =
    let fed = c.lines.invariant.fed c.args.self.now.kept.volume.engine.pager.dev 0 in
    fed_short c.lines.self.line.items (c.args.self.now.line.items ++ fed.front) fed.line_is

pub returns-clause-ok : goal.returns-clause-ok
returns-clause-ok g c first since =
    ends_fed Single _ _ _ _ _ _ _ _ (c.lines.invariant.fed first since) (at_none _ c.cut_line.result c.cut_line.ensures c.in_default.not-Some)

pub returns-clause-line : goal.returns-clause-line
returns-clause-line g c goes_on =
    (fed_ends Single _ _ _ _ _ _ _ _ _ (c.lines.invariant.fed c.args.self.now.kept.volume.engine.pager.dev 0) (at_none _ c.cut_line.result c.cut_line.ensures c.in_default.not-Some) c.in_ok-hold.ensures.ok).line_is

pub returns-clause-flow : goal.returns-clause-flow
returns-clause-flow g c =
    sym (fed_ends Single _ _ _ _ _ _ _ _ _ (c.lines.invariant.fed c.args.self.now.kept.volume.engine.pager.dev 0) (at_none _ c.cut_line.result c.cut_line.ensures c.in_default.not-Some) c.in_ok-hold.ensures.ok).no_stop

pub returns-clause-cause : goal.returns-clause-cause
returns-clause-cause g c = went_on _ _ _ _ c.lines.invariant.counts

pub returns-in_err-hold-clause-err : goal.returns-in_err-hold-clause-err
returns-in_err-hold-clause-err g c =
    let p = err_from_is_err_and c.from_residual-in_err-hold.result c.from_residual-in_err-hold.ensures.1 in
    rw (p.1, p.2) (λ first since. memory_fed Single _ _ _ _ _ _ _ _ _ _ (c.lines.invariant.fed first since) c.in_err-hold.ensures.some refl refl (λ t h. leaves_nothing t _ h))

pub returns-in_err-hold-clause-writes : goal.returns-in_err-hold-clause-writes
returns-in_err-hold-clause-writes g c =
    let p = err_from_is_err_and c.from_residual-in_err-hold.result c.from_residual-in_err-hold.ensures.1 in
    rw (p.1, p.2) c.lines.invariant.writes

pub returns-in_err-hold-clause-cause : goal.returns-in_err-hold-clause-cause
returns-in_err-hold-clause-cause g c =
    let p = err_from_is_err_and c.from_residual-in_err-hold.result c.from_residual-in_err-hold.ensures.1 in
    rw (p.1, p.2) (memory_after _ _ _ c.lines.invariant.counts)
