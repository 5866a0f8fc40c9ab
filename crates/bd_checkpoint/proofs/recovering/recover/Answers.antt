use Rattle.std.proofs.Common.{◌≡◌, ℕ, List, Option, IfSome, sym, ap, subst, ◌∙◌}
use Rattle.std.specs.Prelude.{IsSome}
use Rattle.bd_device.specs.Blocks.{Image}
use Rattle.bd_device.specs.Device.{left_now, IsImageCause}
use Rattle.bd_device.specs.Moments.{Nothing}
use Rattle.bd_device.proofs.Calls.{reads_then}
use Rattle.bd_device.proofs.Moments.{after}
use Rattle.bd_super.specs.Superblocks.{log_block}
use Rattle.bd_super.specs.Live.{IsLive}
use Rattle.bd_log.specs.Batches.{AreBatches}
use Rattle.bd_pager.specs.Opened.{IsOpened}
use Rattle.bd_pager.specs.Pagers.{Paged, cache_room, is_known}
use Rattle.bd_checkpoint.specs.Following.{HasTableOf, saved_by}
use Rattle.bd_checkpoint.specs.Kept.{Saved, IsOpenOn}
use Rattle.bd_checkpoint.specs.Resuming.{IsFoundUnder}
use Rattle.bd_checkpoint.specs.Recovering.{OnlySettles, HasSettled, IsFoundIn, saved_of}
use Rattle.bd_checkpoint.proofs.Causes.{reads_settle, settled_then, only_then, cause_on, bad_log, no_damage}
use Rattle.bd_checkpoint.proofs.Opened.{AreDecoded, stored_known, opened_on, known_on}
use Rattle.bd_checkpoint.proofs.Replaying.{replays}
use Rattle.bd_checkpoint.proofs.Starting.{PartsAreOne}
use Rattle.bd_checkpoint.proofs.recovering.recover.Goals as goal

pub returns-in-Err-clause-undamaged : goal.returns-in-Err-clause-undamaged
returns-in-Err-clause-undamaged g c = λ tree count stands block same.
    no_damage c.trees_are_undamaged.ensures g.D.Device c.args.dev c.in-Err.refused.device (g.D.Device.contents c.args.dev) c.in-Err.refused.fault c.in-Err.ensures.cause tree count stands block same

pub returns-in-Err-read_log-clause-undamaged : goal.returns-in-Err-read_log-clause-undamaged
returns-in-Err-read_log-clause-undamaged g c = λ tree count stands block same.
    let D = g.D.Device in
    let old = c.args.dev in
    let live = c.in-Ok.start.0 in
    let mid = c.in-Ok.start.1.dev in
    let new = c.read_log.new.pager.dev in
    let fault = c.in-Err-read_log.fault in
    let cause : IsImageCause D old new (IsFoundIn (D.contents old)) fault =
    cause_on D old mid new (IsFoundUnder (D.contents mid) live) (IsFoundIn (D.contents old)) fault c.in-Ok.ensures.faults
    (λ b bad. bad_log (D.contents old) live c.in-Ok.ensures.live b (subst (λ (o : Option Image). IsFoundUnder o live b) c.in-Ok.ensures.reads.kept bad)) c.in-Err-read_log.ensures.cause.failed in
    no_damage c.trees_are_undamaged.ensures D old new (D.contents old) fault cause tree count stands block same

pub returns-in-Err-read_log-clause-left : goal.returns-in-Err-read_log-clause-left
returns-in-Err-read_log-clause-left g c =
    let D = g.D.Device in
    let old = c.args.dev in
    subst (λ (d : g.row.D.Denot). OnlySettles D old d) (sym c.into_device-device.ensures)
    (reads_settle D old c.read_log.new.pager.dev (reads_then c.in-Ok.ensures.reads c.in-Err-read_log.ensures.reads))

pub returns-clause-open : goal.returns-clause-open
returns-clause-open g c =
    let D = g.D.Device in
    let live = c.in-Ok.start.0 in
    let p = c.in-Ok.start.1 in
    let new = c.read_log.new.pager in
    let opened = c.in-Ok.ensures.opened in
    let kept = sym c.in-Ok.ensures.reads.kept in
    let same : saved_by live p.saved ≡ saved_of new =
    ap (λ (l : List ℕ). let s : Saved = record { at = l; table = p.saved } in s) (sym opened.at_is) ∙ sym (ap (λ (q : Paged g.row.D.Denot). saved_of q) c.in-Ok-read_log.ensures.pager) in
    subst (λ (s : Saved). IsOpenOn D new.dev live s c.in-Ok-read_log.read.0) same
    (c.in-Ok-read_log.ensures.open p.saved (record {
      fits = c.in-Ok.ensures.fits;
      size = c.in-Ok.ensures.size;
      only = c.in-Ok.ensures.only;
      live_is = subst (λ (o : Option Image). IfSome o (λ image. IsLive image live)) kept c.in-Ok.ensures.live;
      table_is = subst (λ (o : Option Image). IfSome o (HasTableOf live p.saved)) kept opened.table_held;
    }))

pub returns-clause-only : goal.returns-clause-only
returns-clause-only g c =
    let D = g.D.Device in
    let mid = c.in-Ok.start.1.dev in
    let new = c.read_log.new.pager.dev in
    let reads = c.in-Ok-read_log.ensures.reads in
    only_then (D.contents mid) (D.contents new) (left_now D mid) (left_now D new) reads.kept
    (after Nothing (left_now D mid) reads.time (g.met.D.Device.since_earlier new) (λ image is. is) (λ image none. absurd none)) c.in-Ok.ensures.only

pub returns-clause-opened : goal.returns-clause-opened
returns-clause-opened g c =
    let known = g.D.Device.contents c.args.dev in
    let live = c.in-Ok.start.0 in
    subst (λ (q : Paged g.row.D.Denot). IsOpened known live.slots live.table q) (sym c.in-Ok-read_log.ensures.pager)
    (opened_on known live.slots live.table c.in-Ok.start.1 c.read_log.new.pager.dev c.in-Ok.ensures.opened)

pub returns-clause-known : goal.returns-clause-known
returns-clause-known g c = λ told.
    let D = g.D.Device in
    subst (λ (q : Paged g.row.D.Denot). is_known D q) (sym c.in-Ok-read_log.ensures.pager)
    (known_on D c.in-Ok.start.1 c.read_log.new.pager.dev c.in-Ok-read_log.ensures.reads.kept (c.in-Ok.ensures.known told))

pub returns-clause-stored : goal.returns-clause-stored
returns-clause-stored g c =
    let D = g.D.Device in
    let known = D.contents c.args.dev in
    let live = c.in-Ok.start.0 in
    let new = c.read_log.new.pager in
    let decoded : AreDecoded = record { found = c.images_are_decoded.ensures.found; image = c.images_are_decoded.ensures.image; one = c.images_are_of_one_node.ensures } in
    let opened : IsOpened known live.slots live.table new = subst (λ (q : Paged g.row.D.Denot). IsOpened known live.slots live.table q) (sym c.in-Ok-read_log.ensures.pager)
    (opened_on known live.slots live.table c.in-Ok.start.1 new.dev c.in-Ok.ensures.opened) in
    stored_known D decoded known live.slots live.table new opened (c.in-Ok-read_log.ensures.reads.kept ∙ c.in-Ok.ensures.reads.kept)

pub returns-clause-replay : goal.returns-clause-replay
returns-clause-replay g c =
    let D = g.D.Device in
    let known = D.contents c.args.dev in
    let live = c.in-Ok.start.0 in
    let new = c.read_log.new.pager in
    let log = c.in-Ok-read_log.read.0 in
    let decoded : AreDecoded = record { found = c.images_are_decoded.ensures.found; image = c.images_are_decoded.ensures.image; one = c.images_are_of_one_node.ensures } in
    let one : PartsAreOne = record { tables = c.tables_are_read_again.ensures; batches = c.batches_are_one.ensures } in
    let opened : IsOpened known live.slots live.table new = subst (λ (q : Paged g.row.D.Denot). IsOpened known live.slots live.table q) (sym c.in-Ok-read_log.ensures.pager)
    (opened_on known live.slots live.table c.in-Ok.start.1 new.dev c.in-Ok.ensures.opened) in
    let told : IsSome known → is_known D new = λ some.
    subst (λ (q : Paged g.row.D.Denot). is_known D q) (sym c.in-Ok-read_log.ensures.pager)
    (known_on D c.in-Ok.start.1 new.dev c.in-Ok-read_log.ensures.reads.kept (c.in-Ok.ensures.known some)) in
    let batches = subst (λ (o : Option Image). IfSome o (λ image. AreBatches image (log_block live.half) live.epoch log.batches log.place)) c.in-Ok.ensures.reads.kept c.in-Ok-read_log.ensures.batches in
    replays D new one c.log_records_are_prefix_free.ensures live log.place log.batches c.in-Ok-read_log.read.1.items known told
    (stored_known D decoded known live.slots live.table new opened (c.in-Ok-read_log.ensures.reads.kept ∙ c.in-Ok.ensures.reads.kept)) c.in-Ok.ensures.live opened.table_held batches c.in-Ok-read_log.ensures.commands

pub returns-clause-reads : goal.returns-clause-reads
returns-clause-reads g c = reads_then c.in-Ok.ensures.reads c.in-Ok-read_log.ensures.reads

pub returns-in-Err-read_log-clause-settles : goal.returns-in-Err-read_log-clause-settles
returns-in-Err-read_log-clause-settles g c = λ some none.
    subst (λ (d : g.row.D.Denot). HasSettled g.D.Device c.args.dev d) (sym c.into_device-device.ensures)
    (settled_then g.D.Device c.args.dev c.in-Ok.start.1.dev c.read_log.new.pager.dev c.in-Ok.ensures.settled c.in-Err-read_log.ensures.reads)

pub returns-clause-settled : goal.returns-clause-settled
returns-clause-settled g c = settled_then g.D.Device c.args.dev c.in-Ok.start.1.dev c.read_log.new.pager.dev c.in-Ok.ensures.settled c.in-Ok-read_log.ensures.reads

pub returns-clause-room : goal.returns-clause-room
returns-clause-room g c = ap (λ (q : Paged g.row.D.Denot). cache_room q) c.in-Ok-read_log.ensures.pager ∙ c.in-Ok.ensures.room
