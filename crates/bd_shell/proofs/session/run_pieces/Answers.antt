-- Each piece goes on from those before it, and each way out ends as the script or the fault does.
use Rattle.std.proofs.Common.{◌+◌, refl, sym, ap, subst, ◌∙◌}
use Rattle.std.proofs.lemmas.Result.{err_from_is_err_and}
use Rattle.std.specs.Io.KnownBytes.{IsAtEnd}
use Rattle.std.specs.declared.ops.ControlFlow.{ControlFlow}
use Rattle.std.specs.declared.result.Result.{Result}
use Rattle.std.specs.declared.result.Result.TheVariants.{Err}
use Rattle.bd_device.proofs.Calls.{stays_then}
use Rattle.bd_sessions.specs.Spoken.{Single}
use Rattle.bd_shell.specs.Fault.{Faults}
use Rattle.bd_shell.specs.declared.fault.Fault.{Fault}
use Rattle.bd_shell.specs.declared.fault.Fault.TheVariants.{Source}
use Rattle.bd_shell.specs.Transcript.{output}
use Rattle.bd_shell.specs.Session.{RunsPieces, breaks}
use Rattle.bd_shell.specs.Shell.{ShellAt, acks_in, held_of}
use Rattle.bd_shell.proofs.Moving.{stays_same}
use Rattle.bd_shell.proofs.Scripts.{Stands, stands_first, gave, gave_more, gave_end, stands_held, stands_more, stands_kept, session_stops, session_ends, session_breaks, session_fails, session_source, session_keeps, session_too_long, ends_by}
use Rattle.bd_shell.proofs.session.run_pieces.Goals as goal

pub pieces-init : goal.pieces-init
pieces-init g c = record {
  stands = λ first since. stands_first Single _ _ _ _ _ c.requires.line;
  going = c.requires.going;
  device = stays_same g.D.Device _;
  writes = refl;
  count = refl;
  source = refl;
  sink = refl;
}

pub returns-in_err-flush-clause-session : goal.returns-in_err-flush-clause-session
returns-in_err-flush-clause-session g c =
    let p = err_from_is_err_and c.from_residual.result c.from_residual.ensures.1 in
    rw (p.1, p.2, c.in_err-flush.ensures.kind) (λ first since. session_keeps Single _ _ _ _ _ _ _ _ _ _ _ (c.pieces.invariant.stands first since) c.in_err-flush.ensures.bytes refl)

pub feed-requires-clause-begun : goal.feed-requires-clause-begun
feed-requires-clause-begun g c = stands_held (c.pieces.invariant.stands c.args.shell.now.kept.volume.engine.pager.dev 0)

pub returns-in_err-feed-in-Ok-Piece-clause-session : goal.returns-in_err-feed-in-Ok-Piece-clause-session
returns-in_err-feed-in-Ok-Piece-clause-session g c =
    let p = err_from_is_err_and c.from_residual-in_err-feed-in-Ok-Piece.result c.from_residual-in_err-feed-in-Ok-Piece.ensures.1 in
    let got = gave _ c.pieces.taken c.in-Ok-Piece.size c.next_piece.new.piece _ _ _ _ c.in-Ok-Piece.field-0-is c.next_piece.array_long c.in-Ok-Piece.ensures.ok c.in-Ok-Piece.ensures.told in
    rw (p.1, p.2) (λ first since. session_breaks Single c.in_err-feed-in-Ok-Piece.field-0.0 _ _ _ _ _ _ _ _ _ _ _ _ _ _ _
    (stands_kept Single _ _ _ _ _ _ _ _ _ _ _ (c.pieces.invariant.stands first since) c.in_ok-flush.ensures.bytes refl) got.fits got.got got.short got.told
    (c.in_err-feed-in-Ok-Piece.ensures.err first since))

pub pieces-preserved : goal.pieces-preserved
pieces-preserved g c =
    let got = gave _ c.pieces.taken c.in-Ok-Piece.size c.next_piece.new.piece _ _ _ _ c.in-Ok-Piece.field-0-is c.next_piece.array_long c.in-Ok-Piece.ensures.ok c.in-Ok-Piece.ensures.told in
    let fed = c.in_ok-feed-in-Ok-Piece.ensures in
    let goes_on = ap breaks c.in-Continue.is in
    let D = g.D.Device in
    record {
      stands = λ first since.
          let at = stands_kept Single _ _ _ _ _ _ _ _ _ _ _ (c.pieces.invariant.stands first since) c.in_ok-flush.ensures.bytes refl in
          subst (λ n. Stands Single (ShellAt D first since c.args.shell.now) (ShellAt D first since c.feed.new.self) (held_of c.feed.new.self) (c.pieces.taken + n)
          (g.S.Source.left c.args.src.now) (g.S.Source.left c.next_piece.new.src)
          (output (g.K.Sink.written c.args.sink.now) (acks_in c.args.shell.now)) (output (g.K.Sink.written c.feed.new.sink) (acks_in c.feed.new.self))
          (g.S.Source.takes c.args.src.now) (g.S.Source.takes c.next_piece.new.src)) got.long
          (stands_more Single _ _ _ _ _ _ _ _ _ _ _ _ _ _ _ _ at got.fits got.got got.some got.short got.told (fed.ok first since) (sym fed.flow ∙ goes_on) (fed.line goes_on));
      going = fed.going;
      device = stays_then c.pieces.invariant.device fed.device;
      writes = fed.writes ∙ c.pieces.invariant.writes;
      count = ap (λ (f : Faults). f.device) fed.cause.kept ∙ c.pieces.invariant.count;
      source = c.in-Ok-Piece.ensures.cause.kept ∙ c.pieces.invariant.source;
      sink = ap (λ (f : Faults). f.sink) fed.cause.kept ∙ ap (λ (f : Faults). f.sink) c.in_ok-flush.ensures.cause.kept ∙ c.pieces.invariant.sink;
    }

pub returns-in-Break-clause-session : goal.returns-in-Break-clause-session
returns-in-Break-clause-session g c first since =
    let at = stands_kept Single _ _ _ _ _ _ _ _ _ _ _ (c.pieces.invariant.stands first since) c.in_ok-flush.ensures.bytes refl in
    let got = gave _ c.pieces.taken c.in-Ok-Piece.size c.next_piece.new.piece _ _ _ _ c.in-Ok-Piece.field-0-is c.next_piece.array_long c.in-Ok-Piece.ensures.ok c.in-Ok-Piece.ensures.told in
    session_stops Single _ _ _ _ _ _ _ _ _ _ _ _ _ _ _ _ at got.fits got.got got.short got.told (c.in_ok-feed-in-Ok-Piece.ensures.ok first since)
    (sym c.in_ok-feed-in-Ok-Piece.ensures.flow ∙ ap breaks c.in-Break.is) refl

pub returns-in-Ok-End-clause-session : goal.returns-in-Ok-End-clause-session
returns-in-Ok-End-clause-session g c first since =
    let got = gave_end _ c.pieces.taken c.next_piece.new.piece _ _ _ _ c.in-Ok-End.field-0-is c.in-Ok-End.ensures.ok c.in-Ok-End.ensures.told in
    let D = g.D.Device in
    let begun = ShellAt D first since c.args.shell.now in
    let script = g.S.Source.left c.args.src.now in
    let rest = g.S.Source.left c.next_piece.new.src in
    let flushed = stands_kept Single _ _ _ _ _ _ _ _ _ _ _ (c.pieces.invariant.stands first since) c.in_ok-flush.ensures.bytes refl in
    let stands = subst (λ r. Stands Single begun (ShellAt D first since c.pieces.shell) (held_of c.pieces.shell) c.pieces.taken script r
    (output (g.K.Sink.written c.args.sink.now) (acks_in c.args.shell.now)) (output (g.K.Sink.written c.flush.new.sink) (acks_in c.pieces.shell)) (g.S.Source.takes c.args.src.now) (g.S.Source.takes c.pieces.src)) (sym got.1) flushed in
    let end = subst IsAtEnd (sym got.1) got.0 in
    let P : Result (ControlFlow (Unit {0}) (Unit {0})) Fault → Type 0 = λ r. RunsPieces Single r begun (ShellAt D first since c.finish.new.self) script rest (g.S.Source.takes c.args.src.now) (g.S.Source.takes c.next_piece.new.src)
    (output (g.K.Sink.written c.args.sink.now) (acks_in c.args.shell.now)) (output (g.K.Sink.written c.finish.new.sink) (acks_in c.finish.new.self)) in
    ends_by P _ _ _ _ c.finish.result
    c.finish.ensures.ok c.finish.ensures.flow c.finish.ensures.err c.finish.ensures.some
    (λ flow ok stops. session_ends Single _ _ _ flow _ _ _ _ _ _ _ _ _ _ stands end got.2 (ok first since) stops)
    (λ e fails some. session_fails Single e _ _ _ _ _ _ _ _ _ _ _ _ _ stands end got.2 some (fails first since))

pub returns-in-Ok-TooLong-clause-session : goal.returns-in-Ok-TooLong-clause-session
returns-in-Ok-TooLong-clause-session g c first since =
    let at = stands_kept Single _ _ _ _ _ _ _ _ _ _ _ (c.pieces.invariant.stands first since) c.in_ok-flush.ensures.bytes refl in
    let got = gave_more _ c.pieces.taken c.next_piece.new.piece _ _ _ _ c.in-Ok-TooLong.field-0-is c.next_piece.array_long c.in-Ok-TooLong.ensures.ok c.in-Ok-TooLong.ensures.told in
    session_too_long Single _ _ _ _ _ _ _ _ _ _ _ _ _ at got.0 got.1 got.2 got.3

pub returns-in-Err-clause-session : goal.returns-in-Err-clause-session
returns-in-Err-clause-session g c first since =
    let at = stands_kept Single _ _ _ _ _ _ _ _ _ _ _ (c.pieces.invariant.stands first since) c.in_ok-flush.ensures.bytes refl in
    subst (λ r. RunsPieces Single (Err Source) (ShellAt g.D.Device first since c.args.shell.now) (ShellAt g.D.Device first since c.pieces.shell) (g.S.Source.left c.args.src.now) r (g.S.Source.takes c.args.src.now)
    (g.S.Source.takes c.next_piece.new.src) (output (g.K.Sink.written c.args.sink.now) (acks_in c.args.shell.now)) (output (g.K.Sink.written c.flush.new.sink) (acks_in c.pieces.shell)))
    (sym c.in-Err.ensures.err) (session_source Single _ _ _ _ _ _ _ _ _ _ _ at c.in-Err.ensures.told)

pub next_piece-requires-clause-within : goal.next_piece-requires-clause-within
next_piece-requires-clause-within g c = (c.pieces.invariant.stands c.args.shell.now.kept.volume.engine.pager.dev 0).few
