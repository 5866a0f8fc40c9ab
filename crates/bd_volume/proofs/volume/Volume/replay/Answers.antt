-- Each command is one more, and a fault comes after those before it.
use Rattle.std.proofs.Common.{◌≡◌, ◌<◌, ◌+◌, ℕ, List, [], ◌∷◌, length, drop, get_or, refl, sym, ap, ◌∙◌, arith}
use Rattle.std.proofs.lemmas.Result.{err_from_is_err_and}
use Rattle.std.proofs.lemmas.List.{drop_more, drop_all}
use Rattle.bd_checkpoint.specs.declared.commands.PlacedCommand.{PlacedCommand}
use Rattle.bd_volume.proofs.Early.{early_goes, early_fails, goes_none, goes_ok, goes_both}
use Rattle.bd_volume.proofs.Replayed.{front_none, front_same, front_more, cause_then, cause_ok}
use Rattle.bd_volume.proofs.volume.Volume.replay.Goals as goal

pub loop-placed-init : goal.loop-placed-init
loop-placed-init g c = record {
  front = front_none g.D.Device c.args.commands.now c.args.self.now;
  goes = goes_none g.D.Device c.args.how c.args.self.now c.requires.going;
  faults = refl;
}

-- the next one is what is left of them first
next_placed : (list : List PlacedCommand) (i : ℕ) (p : PlacedCommand) → i < length list → p ≡ get_or list i p → drop i list ≡ p ∷ drop (i + 1) list
next_placed list i p lt item = drop_more list i p lt ∙ ap (λ (q : PlacedCommand). q ∷ drop (i + 1) list) (sym item)

pub loop-placed-preserved : goal.loop-placed-preserved
loop-placed-preserved g c =
    let i = c.loop-placed.invariant in
    let h = c.in_ok-replay_one.ensures in
    let list = c.args.commands.now in
    let at = c.loop-placed.placed-index in
    let next = next_placed list at c.placed-item.result c.loop-placed-test.true c.placed-item.is in
    record {
      front = front_more g.D.Device list (drop (at + 1) list) c.placed-item.result c.args.self.now c.loop-placed.self c.replay_one.new.self (front_same g.D.Device list (drop at list) (c.placed-item.result ∷ drop (at + 1) list) c.args.self.now c.loop-placed.self next i.front)
          h.writes.early.good h.sound h.replays h.counts h.few;
      goes = goes_both g.D.Device c.args.how c.args.self.now c.loop-placed.self c.replay_one.new.self i.goes (goes_ok g.D.Device c.args.how c.loop-placed.self c.replay_one.new.self _ h.writes);
      faults = h.cause.kept ∙ i.faults;
    }

pub returns-in_err-replay_one-clause-fails : goal.returns-in_err-replay_one-clause-fails
returns-in_err-replay_one-clause-fails g c =
    let p = err_from_is_err_and c.from_residual.result c.from_residual.ensures.1 in
    let list = c.args.commands.now in
    let at = c.loop-placed.placed-index in
    let next = next_placed list at c.placed-item.result c.loop-placed-test.true c.placed-item.is in
    rw (p.1, p.2) (record {
      next = c.placed-item.result;
      rest = drop (at + 1) list;
      mid = c.loop-placed.self;
      before = front_same g.D.Device list (drop at list) (c.placed-item.result ∷ drop (at + 1) list) c.args.self.now c.loop-placed.self next c.loop-placed.invariant.front;
      cause = c.in_err-replay_one.ensures.fails;
    })

pub returns-in_err-replay_one-clause-writes : goal.returns-in_err-replay_one-clause-writes
returns-in_err-replay_one-clause-writes g c =
    let p = err_from_is_err_and c.from_residual.result c.from_residual.ensures.1 in
    rw (p.1, p.2) (early_fails g.D.Device c.args.how c.args.self.now c.loop-placed.self c.replay_one.new.self c.in_err-replay_one.field-0.0 c.loop-placed.invariant.goes c.loop-placed.invariant.faults c.in_err-replay_one.ensures.writes)

pub returns-in_err-replay_one-clause-cause : goal.returns-in_err-replay_one-clause-cause
returns-in_err-replay_one-clause-cause g c =
    let p = err_from_is_err_and c.from_residual.result c.from_residual.ensures.1 in
    rw (p.1, p.2) (cause_then g.D.Device _ c.args.self.now c.loop-placed.self c.replay_one.new.self c.loop-placed.invariant.faults (record { kept = tt; failed = c.in_err-replay_one.ensures.cause.failed }))

pub returns-clause-replays : goal.returns-clause-replays
returns-clause-replays g c =
    let list = c.args.commands.now in
    let at = c.loop-placed.placed-index in
    let none : drop at list ≡ [] = drop_all at list (omega (arith, c.loop-placed-test.false)) in
    front_same g.D.Device list (drop at list) [] c.args.self.now c.loop-placed.self none c.loop-placed.invariant.front

pub returns-clause-cause : goal.returns-clause-cause
returns-clause-cause g c = cause_ok g.D.Device c.args.self.now c.loop-placed.self _ c.loop-placed.invariant.faults

pub returns-clause-writes : goal.returns-clause-writes
returns-clause-writes g c = early_goes g.D.Device c.args.how c.args.self.now c.loop-placed.self _ c.loop-placed.invariant.goes

pub returns-in_err-replay_one-clause-shows : goal.returns-in_err-replay_one-clause-shows
returns-in_err-replay_one-clause-shows g c =
    let p = err_from_is_err_and c.from_residual.result c.from_residual.ensures.1 in
    let list = c.args.commands.now in
    let at = c.loop-placed.placed-index in
    let next = next_placed list at c.placed-item.result c.loop-placed-test.true c.placed-item.is in
    rw (p.1, p.2) (record {
      next = c.placed-item.result;
      rest = drop (at + 1) list;
      mid = c.loop-placed.self;
      before = front_same g.D.Device list (drop at list) (c.placed-item.result ∷ drop (at + 1) list) c.args.self.now c.loop-placed.self next c.loop-placed.invariant.front;
      shows = c.in_err-replay_one.ensures.shows;
    })
