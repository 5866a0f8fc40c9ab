-- Each piece goes on from those before it, and each way out ends as the stream or the fault does.
use Rattle.std.proofs.Common.{take, refl, sym, ap, subst, ◌∙◌}
use Rattle.std.proofs.lemmas.Result.{err_from_is_err_and}
use Rattle.std.specs.declared.result.Result.TheVariants.{Ok, Err}
use Rattle.bd_stream.specs.Feeding.{seen}
use Rattle.bd_stream.specs.Within.{IsWell}
use Rattle.bd_stream.proofs.WellLemmas.{start_well}
use Rattle.bd_shell.specs.Fault.{Faults}
use Rattle.bd_shell.specs.Shell.{ShellAt, device_in}
use Rattle.bd_shell.proofs.Moving.{caused_after, is_caused_beside, stays_more, stays_same, went_on}
use Rattle.bd_transfer.specs.Giving.{FeedsPiece}
use Rattle.bd_transfer.proofs.Arriving.{both_same, ends_beyond, ends_either, ends_piece, ends_source, err_piece, fed_first, fed_left, fed_more, got_end, got_more, got_piece, taken_none}
use Rattle.bd_transfer.proofs.importing.import_pieces.Goals as goal

pub returns-in_err-importer-clause-imports : goal.returns-in_err-importer-clause-imports
returns-in_err-importer-clause-imports g c =
    let p = err_from_is_err_and c.from_residual.result c.from_residual.ensures.1 in
    rw (p.1, p.2) (λ first since. taken_none c.args.target.now _ _ _)

pub pieces-init : goal.pieces-init
pieces-init g c = record {
  fed = λ first since. fed_first c.args.target.now _ (seen c.in_ok-importer.importer) _ _ c.in_ok-importer.ensures;
  well = subst IsWell (sym c.in_ok-importer.ensures) (start_well c.args.target.now (c.as_bytes-text.ensures.names, c.as_bytes-text.ensures.length));
  going = c.requires.going;
  acks = refl;
  device = stays_same g.D.Device _;
  writes = refl;
  failed = refl;
  source = refl;
}

pub next_piece-requires : goal.next_piece-requires
next_piece-requires g c = record { within = (c.pieces.invariant.fed (device_in c.args.shell.now) 0).few }

pub returns-in_err-more-in-Ok-Piece-clause-imports : goal.returns-in_err-more-in-Ok-Piece-clause-imports
returns-in_err-more-in-Ok-Piece-clause-imports g c =
    let p = err_from_is_err_and c.from_residual-in_err-more-in-Ok-Piece.result c.from_residual-in_err-more-in-Ok-Piece.ensures.1 in
    let got = got_piece _ c.pieces.taken c.in-Ok-Piece.size c.next_piece.new.piece _ _ _ _ c.in-Ok-Piece.field-0-is c.next_piece.array_long c.in-Ok-Piece.ensures.ok c.in-Ok-Piece.ensures.told in
    rw (p.1, p.2) (λ first since. err_piece _ _ _ _ _ _ _ _ _ _ _ _ _ _ _ (c.pieces.invariant.fed first since) got.0 c.in_err-more-in-Ok-Piece.field-0.0 (c.in_err-more-in-Ok-Piece.ensures.feeds first since))

pub returns-in_err-more-in-Ok-Piece-clause-cause : goal.returns-in_err-more-in-Ok-Piece-clause-cause
returns-in_err-more-in-Ok-Piece-clause-cause g c =
    let p = err_from_is_err_and c.from_residual-in_err-more-in-Ok-Piece.result c.from_residual-in_err-more-in-Ok-Piece.ensures.1 in
    let e = c.in_err-more-in-Ok-Piece.field-0.0 in
    rw (p.1, p.2) (λ sink. caused_after _ _ _ _ e (both_same _ _ _ _ sink c.pieces.invariant.failed (c.in-Ok-Piece.ensures.cause.kept ∙ c.pieces.invariant.source))
    (is_caused_beside (Err e) _ sink _ sink (g.S.Source.fault_count c.next_piece.new.src) _ (c.in_err-more-in-Ok-Piece.ensures.cause sink)))

pub pieces-preserved : goal.pieces-preserved
pieces-preserved g c =
    let got = got_piece _ c.pieces.taken c.in-Ok-Piece.size c.next_piece.new.piece _ _ _ _ c.in-Ok-Piece.field-0-is c.next_piece.array_long c.in-Ok-Piece.ensures.ok c.in-Ok-Piece.ensures.told in
    let fed = c.in_ok-more-in-Ok-Piece.ensures in
    record {
      fed = λ first since. fed_more _ _ _ _ _ _ c.in-More.more _ _ _ _ _ _ _ _ _ _ _ (c.pieces.invariant.fed first since) got.0
          (subst (λ r. FeedsPiece (Ok r) (seen c.pieces.importer) (seen c.feed_piece.new.importer) (take c.in-Ok-Piece.size c.next_piece.new.piece) (ShellAt g.D.Device first since c.pieces.shell) (ShellAt g.D.Device first since c.feed_piece.new.shell)) c.in-More.is (fed.feeds first since))
          got.1 c.saturating_add-count.ensures;
      well = fed.well;
      going = fed.going;
      acks = fed.unacked ∙ c.pieces.invariant.acks;
      device = stays_more g.D.Device _ _ _ c.pieces.invariant.device fed.device;
      writes = fed.writes ∙ c.pieces.invariant.writes;
      failed = ap (λ (f : Faults). f.device) (fed.cause 0).kept ∙ c.pieces.invariant.failed;
      source = c.in-Ok-Piece.ensures.cause.kept ∙ c.pieces.invariant.source;
    }

pub returns-in-Ended-clause-imports : goal.returns-in-Ended-clause-imports
returns-in-Ended-clause-imports g c first since =
    let got = got_piece _ c.pieces.taken c.in-Ok-Piece.size c.next_piece.new.piece _ _ _ _ c.in-Ok-Piece.field-0-is c.next_piece.array_long c.in-Ok-Piece.ensures.ok c.in-Ok-Piece.ensures.told in
    ends_piece _ _ _ _ _ _ _ _ _ _ _ _ _ _ _ (c.pieces.invariant.fed first since) got.0 c.in-Ended.end
    (subst (λ r. FeedsPiece (Ok r) (seen c.pieces.importer) (seen c.feed_piece.new.importer) (take c.in-Ok-Piece.size c.next_piece.new.piece) (ShellAt g.D.Device first since c.pieces.shell) (ShellAt g.D.Device first since c.feed_piece.new.shell)) c.in-Ended.is (c.in_ok-more-in-Ok-Piece.ensures.feeds first since))

pub returns-in-Ended-clause-cause : goal.returns-in-Ended-clause-cause
returns-in-Ended-clause-cause g c sink =
    went_on _ _ _ _ (both_same _ _ _ _ sink (ap (λ (f : Faults). f.device) (c.in_ok-more-in-Ok-Piece.ensures.cause sink).kept ∙ c.pieces.invariant.failed) (c.in-Ok-Piece.ensures.cause.kept ∙ c.pieces.invariant.source))

pub returns-in-Ok-End-clause-imports : goal.returns-in-Ok-End-clause-imports
returns-in-Ok-End-clause-imports g c first since =
    let got = got_end _ c.pieces.taken c.next_piece.new.piece _ _ _ _ c.in-Ok-End.field-0-is c.in-Ok-End.ensures.ok c.in-Ok-End.ensures.told in
    ends_either _ _ _ _ _ _ _ _ _ _ (fed_left _ _ _ _ _ _ _ _ _ _ _ got.1 (c.pieces.invariant.fed first since)) c.end_at.result _ got.2 got.0 c.end_at.ensures.whole c.end_at.ensures.early

pub returns-in-Ok-Beyond-clause-imports : goal.returns-in-Ok-Beyond-clause-imports
returns-in-Ok-Beyond-clause-imports g c first since =
    let got = got_more _ c.pieces.taken c.next_piece.new.piece _ _ _ _ c.in-Ok-Beyond.field-0-is c.next_piece.array_long c.in-Ok-Beyond.ensures.ok c.in-Ok-Beyond.ensures.told in
    ends_beyond _ _ _ _ _ _ _ _ _ _ (c.pieces.invariant.fed first since) _ _ _ got.0 got.1 got.2 got.3

pub returns-in-Err-clause-imports : goal.returns-in-Err-clause-imports
returns-in-Err-clause-imports g c first since =
    ends_source _ _ _ _ _ _ _ _ _ _ (fed_left _ _ _ _ _ _ _ _ _ _ _ c.in-Err.ensures.err (c.pieces.invariant.fed first since)) _ c.in-Err.ensures.told
