use Rattle.std.proofs.Common.{◌≡◌, [], map, Option, IfSome, refl, sym, ap, subst}
use Rattle.std.specs.Prelude.{All, IsSome}
use Rattle.bd_device.specs.Blocks.{Image}
use Rattle.bd_device.specs.Device.{left_now, OnlyReads}
use Rattle.bd_device.specs.Moments.{IsOnly}
use Rattle.bd_super.specs.Live.{IsLive}
use Rattle.bd_log.specs.Logs.{LogState}
use Rattle.bd_image.specs.Versions.{version_of}
use Rattle.bd_checkpoint.specs.Commands.{IsPlacedIn}
use Rattle.bd_image.specs.ImageTree.{ImageStandsFor}
use Rattle.bd_pager.specs.Pagers.{is_known}
use Rattle.bd_checkpoint.specs.Recovering.{HasSettled, IsBadIn, IsFoundIn, LeadsTo}
use Rattle.bd_checkpoint.proofs.Causes.{cause_on, found_is_bad}
use Rattle.bd_checkpoint.proofs.Starting.{PartsAreOne}
use Rattle.bd_engine.specs.Engines.{EngineState, view_of}
use Rattle.bd_engine.specs.Stored.{IsFound, IsStoredBy, ArePlaced}
use Rattle.bd_engine.proofs.Starting.{opened_standing, first_view, stored_by, are_placed}
use Rattle.bd_engine.proofs.Recalls.{kept_none, sound_with}
use Rattle.bd_engine.proofs.engine.Engine.open.Goals as goal

pub over-requires : goal.over-requires
over-requires g c =
    let r = c.in-Ok.recovered in
    opened_standing g.D.Device (g.D.Device.contents c.args.dev) r.pager r.log r.live c.in-Ok.ensures.opened c.in-Ok.ensures.open c.in-Ok.ensures.idle
    c.in-Ok.ensures.reads.kept c.in-Ok.ensures.stored (λ told. c.in-Ok.ensures.known (subst (λ (o : Option Image). IsSome o) c.in-Ok.ensures.reads.kept told)) c.in-Ok.ensures.room

pub returns-in-Err-clause-cause : goal.returns-in-Err-clause-cause
returns-in-Err-clause-cause g c =
    let D = g.D.Device in
    let known = D.contents c.args.dev in
    cause_on D c.args.dev c.args.dev c.in-Err.refused.device (IsFoundIn known) (IsBadIn known) c.in-Err.refused.fault refl (found_is_bad known) c.in-Err.ensures.cause

pub returns-clause-known : goal.returns-clause-known
returns-clause-known g c = λ told. subst (λ (e : EngineState g.row.D.Denot). is_known g.D.Device e.pager) (sym c.over.ensures.started) (c.in-Ok.ensures.known told)

pub returns-clause-flushes : goal.returns-clause-flushes
returns-clause-flushes g c = ap (λ (e : EngineState g.row.D.Denot). e.flushes) c.over.ensures.started

pub returns-clause-first : goal.returns-clause-first
returns-clause-first g c = λ tree count.
    let D = g.D.Device in
    let known = D.contents c.args.dev in
    let r = c.in-Ok.recovered in
    let one : PartsAreOne = record { tables = c.tables_are_read_again.ensures; batches = c.batches_are_one.ensures } in
    let is_live = subst (λ (o : Option Image). IfSome o (λ image. IsLive image r.live)) c.in-Ok.ensures.reads.kept c.in-Ok.ensures.open.live_is in
    subst (λ (e : EngineState g.row.D.Denot). IfSome known (λ image. ImageStandsFor tree count image → IsFound image (view_of D e) (map (λ p. p.command) r.commands.items))) (sym c.over.ensures.started)
    (first_view D one known r.pager c.over.result.recalled r.log r.live c.in-Ok.ensures.opened c.in-Ok.ensures.stored is_live c.in-Ok.ensures.batches c.in-Ok.ensures.idle r.commands.items c.in-Ok.ensures.commands tree count)

pub returns-clause-replay : goal.returns-clause-replay
returns-clause-replay g c = λ tree count stands.
    let D = g.D.Device in
    let r = c.in-Ok.recovered in
    subst (λ (e : EngineState g.row.D.Denot). LeadsTo D e.pager e.live r.commands.items tree count) (sym c.over.ensures.started) (c.in-Ok.ensures.replay tree count stands)

pub returns-clause-only : goal.returns-clause-only
returns-clause-only g c =
    let D = g.D.Device in
    subst (λ (e : EngineState g.row.D.Denot). IsOnly (D.contents e.pager.dev) (left_now D e.pager.dev)) (sym c.over.ensures.started) c.in-Ok.ensures.only

pub returns-clause-reads : goal.returns-clause-reads
returns-clause-reads g c =
    let D = g.D.Device in
    subst (λ (e : EngineState g.row.D.Denot). OnlyReads D c.args.dev e.pager.dev) (sym c.over.ensures.started) c.in-Ok.ensures.reads

pub returns-clause-faults : goal.returns-clause-faults
returns-clause-faults g c =
    let D = g.D.Device in
    subst (λ (e : EngineState g.row.D.Denot). D.fault_count e.pager.dev ≡ D.fault_count c.args.dev) (sym c.over.ensures.started) c.in-Ok.ensures.faults

pub returns-clause-placed : goal.returns-clause-placed
returns-clause-placed g c =
    let D = g.D.Device in
    let known = D.contents c.args.dev in
    let r = c.in-Ok.recovered in
    let is_live = subst (λ (o : Option Image). IfSome o (λ image. IsLive image r.live)) c.in-Ok.ensures.reads.kept c.in-Ok.ensures.open.live_is in
    subst (λ (e : EngineState g.row.D.Denot). IfSome known (λ image. ArePlaced image e.live r.commands.items)) (sym c.over.ensures.started)
    (are_placed known r.log r.live r.commands.items is_live c.in-Ok.ensures.batches c.in-Ok.ensures.commands)

pub returns-clause-each : goal.returns-clause-each
returns-clause-each g c =
    let r = c.in-Ok.recovered in
    subst (λ (e : EngineState g.row.D.Denot). All (IsPlacedIn (version_of e.live)) r.commands.items) (sym c.over.ensures.started) c.in-Ok.ensures.commands.each

pub returns-clause-stored : goal.returns-clause-stored
returns-clause-stored g c =
    let D = g.D.Device in
    let known = D.contents c.args.dev in
    let r = c.in-Ok.recovered in
    let is_live = subst (λ (o : Option Image). IfSome o (λ image. IsLive image r.live)) c.in-Ok.ensures.reads.kept c.in-Ok.ensures.open.live_is in
    subst (λ (e : EngineState g.row.D.Denot). IfSome known (IsStoredBy D e)) (sym c.over.ensures.started)
    (stored_by D known r.pager c.over.result.recalled r.log r.live c.in-Ok.ensures.opened c.in-Ok.ensures.stored is_live)

pub returns-clause-idle : goal.returns-clause-idle
returns-clause-idle g c =
    subst (λ (e : EngineState g.row.D.Denot). e.log.waiting ≡ []) (sym c.over.ensures.started) (ap (λ (l : LogState). l.waiting) c.in-Ok.ensures.idle)

pub returns-clause-settled : goal.returns-clause-settled
returns-clause-settled g c =
    subst (λ (e : EngineState g.row.D.Denot). HasSettled g.D.Device c.args.dev e.pager.dev) (sym c.over.ensures.started) c.in-Ok.ensures.settled

pub returns-clause-fresh : goal.returns-clause-fresh
returns-clause-fresh g c = λ h.
    sound_with g.D.Device c.over.result h (kept_none _ c.over.result.recalled c.over.ensures.fresh)
