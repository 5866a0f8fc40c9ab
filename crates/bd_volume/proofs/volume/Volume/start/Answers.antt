-- A volume starts from what is found, and replays it.
use Rattle.std.proofs.Common.{◌<◌, length, List, [], ℕ, sym, subst, ap, ◌∙◌}
use Rattle.std.specs.List.{concat}
use Rattle.std.proofs.lemmas.Result.{err_from_is_err_and}
use Rattle.std.specs.Prelude.{IfSome, IsSomeAnd}
use Rattle.bd_model.specs.Tree.{Tree}
use Rattle.bd_device.specs.Changes.{StaysBut}
use Rattle.bd_image.specs.ImageTree.{ImageStandsFor}
use Rattle.bd_log.specs.Logs.{LogState}
use Rattle.bd_pager.specs.Slots.{IsSpare}
use Rattle.bd_checkpoint.specs.declared.commands.PlacedCommand.{PlacedCommand}
use Rattle.bd_checkpoint.specs.Recovering.{FailsFirst}
use Rattle.bd_volume.specs.declared.volume.Volume.{Volume}
use Rattle.bd_volume.specs.declared.volume.replaying.Replay.TheVariants.{Spills}
use Rattle.bd_volume.specs.Replays.{ReplaysFront, StopsReplaying, ShowsReplay}
use Rattle.bd_volume.specs.Starts.{OnlyStarts, HasStarted}
use Rattle.bd_volume.specs.Unstarted.{device_left}
use Rattle.bd_volume.specs.Volume.{StandsFor, IsFirstView, view_of, device_of, stop_of}
use Rattle.bd_volume.proofs.Started.{open_cause, unworn_as, unworn, replay_shows, started_for, without_walk_stands, first_views, replay_cause, replay_undamaged, replay_wears}
use Rattle.bd_volume.proofs.Starts.{settles_start, settled_starts, slots_started, replays_start, replays_started}
use Rattle.bd_volume.proofs.volume.Volume.start.Goals as goal

pub returns-in_err-engine-clause-cause : goal.returns-in_err-engine-clause-cause
returns-in_err-engine-clause-cause g c =
    let p = err_from_is_err_and c.from_residual.result c.from_residual.ensures.1 in
    let r = c.in_err-engine.field-0.0 in
    rw p.1 (open_cause g.D.Device c.args.device r.device (device_left p.0) r.fault p.0.fault p.2.0 p.2.1 c.in_err-engine.ensures.cause)

pub returns-in_err-engine-clause-wears : goal.returns-in_err-engine-clause-wears
returns-in_err-engine-clause-wears g c = λ t n.
    let p = err_from_is_err_and c.from_residual.result c.from_residual.ensures.1 in
    rw p.1 (unworn (g.D.Device.contents c.args.device) c.in_err-engine.field-0.0.fault p.0.fault p.2.0 t n)

pub returns-in_err-engine-clause-left : goal.returns-in_err-engine-clause-left
returns-in_err-engine-clause-left g c =
    let p = err_from_is_err_and c.from_residual.result c.from_residual.ensures.1 in
    rw p.1 (subst (λ (d : g.row.D.Denot). OnlyStarts g.D.Device c.args.device d) (sym p.2.1) (settles_start g.D.Device c.args.device c.in_err-engine.field-0.0.device c.in_err-engine.ensures.left))

pub returns-in_err-engine-clause-starts : goal.returns-in_err-engine-clause-starts
returns-in_err-engine-clause-starts g c =
    let p = err_from_is_err_and c.from_residual.result c.from_residual.ensures.1 in
    let Starts : g.row.D.Denot → Type 0 = λ d. 0 < g.D.Device.block_count c.args.device → ¬ FailsFirst g.D.Device c.args.device d → (t : Tree) (n : ℕ) → IsSomeAnd (g.D.Device.contents c.args.device) (ImageStandsFor t n) → HasStarted g.D.Device c.args.device d t n in
    rw p.1 (subst Starts (sym p.2.1) (λ some calm t n stands. settled_starts g.D.Device c.args.device c.in_err-engine.field-0.0.device t n (c.in_err-engine.ensures.settles some calm) stands))

pub returns-in-Ok-clause-stands : goal.returns-in-Ok-clause-stands
returns-in-Ok-clause-stands g c = λ t n h.
    let e = c.in_ok-engine.ensures in
    let a : Volume g.row.D.Denot = record { engine = c.in_ok-engine.field-0.engine; count = c.saved_count-count.result } in
    let k = c.in-Ok.ensures in
    subst (λ (w : Volume g.row.D.Denot). StandsFor g.D.Device w t n) (sym c.forget_walk.ensures)
    (without_walk_stands g.D.Device c.replay.new.self t n (started_for g.D.Device Spills c.args.device a c.replay.new.self e.fresh _ c.in_ok-engine.field-0.commands.items t n c.saved_count-count.ensures e.idle e.reads e.only k.writes (subst (λ (l : List PlacedCommand). ReplaysFront g.D.Device l [] a c.replay.new.self) c.deref.ensures.value k.replays) (e.replay t n h) h))

pub returns-in-Ok-clause-first : goal.returns-in-Ok-clause-first
returns-in-Ok-clause-first g c =
    let e = c.in_ok-engine.ensures in
    let a : Volume g.row.D.Denot = record { engine = c.in_ok-engine.field-0.engine; count = c.saved_count-count.result } in
    subst (λ (w : Volume g.row.D.Denot). (t : Tree) (n : ℕ) → IfSome (g.D.Device.contents c.args.device) (λ image. ImageStandsFor t n image → IsFirstView image (view_of g.D.Device w))) (sym c.forget_walk.ensures)
    (first_views g.D.Device (g.D.Device.contents c.args.device) a c.replay.new.self e.fresh c.in_ok-engine.field-0.commands.items (subst (λ (l : List PlacedCommand). ReplaysFront g.D.Device l [] a c.replay.new.self) c.deref.ensures.value c.in-Ok.ensures.replays) e.replay e.first)

pub returns-in-Ok-clause-going : goal.returns-in-Ok-clause-going
returns-in-Ok-clause-going g c = ap (λ (w : Volume g.row.D.Denot). stop_of w) c.forget_walk.ensures ∙ c.in-Ok.ensures.writes.stop.ok.stop_is

pub returns-in-Ok-clause-idle : goal.returns-in-Ok-clause-idle
returns-in-Ok-clause-idle g c =
    ap (λ (w : Volume g.row.D.Denot). length (concat w.engine.log.waiting)) c.forget_walk.ensures
    ∙ ap (λ (l : LogState). length (concat l.waiting)) c.in-Ok.ensures.writes.early.log ∙ ap (λ (w : List (List ℕ)). length (concat w)) c.in_ok-engine.ensures.idle

pub returns-in-Ok-clause-started : goal.returns-in-Ok-clause-started
returns-in-Ok-clause-started g c = λ t n stands.
    let e = c.in_ok-engine.ensures in
    let a : Volume g.row.D.Denot = record { engine = c.in_ok-engine.field-0.engine; count = c.saved_count-count.result } in
    subst (λ (w : Volume g.row.D.Denot). HasStarted g.D.Device c.args.device (device_of w) t n) (sym c.forget_walk.ensures)
    (replays_started g.D.Device Spills c.args.device a c.replay.new.self _ t n e.reads e.only e.settled c.in-Ok.ensures.writes stands)

pub returns-in-Ok-clause-only : goal.returns-in-Ok-clause-only
returns-in-Ok-clause-only g c =
    let e = c.in_ok-engine.ensures in
    let a : Volume g.row.D.Denot = record { engine = c.in_ok-engine.field-0.engine; count = c.saved_count-count.result } in
    subst (λ (w : Volume g.row.D.Denot). OnlyStarts g.D.Device c.args.device (device_of w)) (sym c.forget_walk.ensures)
    (replays_start g.D.Device Spills c.args.device a c.replay.new.self _ e.reads e.only e.stored c.in-Ok.ensures.writes)

pub returns-in-Ok-clause-slots : goal.returns-in-Ok-clause-slots
returns-in-Ok-clause-slots g c =
    let a : Volume g.row.D.Denot = record { engine = c.in_ok-engine.field-0.engine; count = c.saved_count-count.result } in
    subst (λ (w : Volume g.row.D.Denot). StaysBut (IsSpare w.engine.pager.spare) (g.D.Device.contents c.args.device) (g.D.Device.contents (device_of w))) (sym c.forget_walk.ensures)
    (slots_started g.D.Device Spills c.args.device a c.replay.new.self _ c.in_ok-engine.ensures.reads c.in-Ok.ensures.writes)

pub returns-in-Ok-clause-faults : goal.returns-in-Ok-clause-faults
returns-in-Ok-clause-faults g c =
    ap (λ (w : Volume g.row.D.Denot). g.D.Device.fault_count (device_of w)) c.forget_walk.ensures ∙ c.in-Ok.ensures.cause.kept ∙ c.in_ok-engine.ensures.faults

pub returns-in-Ok-clause-write_faults : goal.returns-in-Ok-clause-write_faults
returns-in-Ok-clause-write_faults g c =
    ap (λ (w : Volume g.row.D.Denot). g.D.Device.write_fault_count (device_of w)) c.forget_walk.ensures ∙ c.in-Ok.ensures.writes.stop.ok.write_faults ∙ c.in_ok-engine.ensures.reads.write_faults

pub returns-clause-cause : goal.returns-clause-cause
returns-clause-cause g c =
    let e = c.in_ok-engine.ensures in
    let h = c.in-Err.ensures in
    let a : Volume g.row.D.Denot = record { engine = c.in_ok-engine.field-0.engine; count = c.saved_count-count.result } in
    replay_cause g.D.Device c.args.device a c.replay.new.self e.fresh c.in_ok-engine.field-0.commands.items c.in-Err.fault c.log_records_are_prefix_free.ensures e.reads.kept e.known e.stored e.placed e.each e.faults (subst (λ (l : List PlacedCommand). StopsReplaying g.D.Device c.in-Err.fault l a) c.deref.ensures.value h.fails) h.cause.failed

pub returns-clause-undamaged : goal.returns-clause-undamaged
returns-clause-undamaged g c = λ t n stands block.
    let a : Volume g.row.D.Denot = record { engine = c.in_ok-engine.field-0.engine; count = c.saved_count-count.result } in
    replay_undamaged g.D.Device a c.in_ok-engine.ensures.fresh c.in_ok-engine.field-0.commands.items c.in-Err.fault block t n (c.in_ok-engine.ensures.replay t n stands) c.sound_nodes_are_undamaged.ensures (subst (λ (l : List PlacedCommand). StopsReplaying g.D.Device c.in-Err.fault l a) c.deref.ensures.value c.in-Err.ensures.fails)

pub returns-clause-wears : goal.returns-clause-wears
returns-clause-wears g c = λ t n.
    let e = c.in_ok-engine.ensures in
    let a : Volume g.row.D.Denot = record { engine = c.in_ok-engine.field-0.engine; count = c.saved_count-count.result } in
    replay_wears g.D.Device (g.D.Device.contents c.args.device) a e.fresh c.in_ok-engine.field-0.commands.items c.in-Err.fault t n c.saved_count-count.ensures e.placed (e.first t n) (e.replay t n) (subst (λ (l : List PlacedCommand). StopsReplaying g.D.Device c.in-Err.fault l a) c.deref.ensures.value c.in-Err.ensures.fails)

pub returns-in_err-engine-clause-shows : goal.returns-in_err-engine-clause-shows
returns-in_err-engine-clause-shows g c =
    let p = err_from_is_err_and c.from_residual.result c.from_residual.ensures.1 in
    rw p.1 (λ which is. unworn_as c.in_err-engine.field-0.0.fault p.0.fault which p.2.0 is)

pub returns-clause-shows : goal.returns-clause-shows
returns-clause-shows g c = λ which is.
    let e = c.in_ok-engine.ensures in
    let a : Volume g.row.D.Denot = record { engine = c.in_ok-engine.field-0.engine; count = c.saved_count-count.result } in
    replay_shows g.D.Device (g.D.Device.contents c.args.device) a c.replay.new.self c.in_ok-engine.field-0.commands.items c.in-Err.fault which c.saved_count-count.ensures e.flushes e.placed c.in-Err.ensures.writes.early.live
    (subst (λ (l : List PlacedCommand). ShowsReplay g.D.Device c.in-Err.fault l a c.replay.new.self) c.deref.ensures.value c.in-Err.ensures.shows) is

pub returns-clause-left : goal.returns-clause-left
returns-clause-left g c =
    let e = c.in_ok-engine.ensures in
    let a : Volume g.row.D.Denot = record { engine = c.in_ok-engine.field-0.engine; count = c.saved_count-count.result } in
    replays_start g.D.Device Spills c.args.device a c.replay.new.self _ e.reads e.only e.stored c.in-Err.ensures.writes

pub returns-clause-starts : goal.returns-clause-starts
returns-clause-starts g c = λ some calm t n stands.
    let e = c.in_ok-engine.ensures in
    let a : Volume g.row.D.Denot = record { engine = c.in_ok-engine.field-0.engine; count = c.saved_count-count.result } in
    replays_started g.D.Device Spills c.args.device a c.replay.new.self _ t n e.reads e.only e.settled c.in-Err.ensures.writes stands
