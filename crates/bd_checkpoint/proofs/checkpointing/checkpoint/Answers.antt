use Rattle.std.proofs.Common.{◌≡◌, ℕ, Option, Err, sym, ap, subst, ◌∙◌, rules, arith}
use Rattle.std.specs.Prelude.{IsSome}
use Rattle.bd_slots.specs.Layout.{image_blocks}
use Rattle.bd_device.specs.Changes.{StaysBut}
use Rattle.bd_device.specs.Device.{left_now, Goes, Stays}
use Rattle.bd_device.specs.Moments.{IsOnly}
use Rattle.bd_device.proofs.Calls.{stays_then}
use Rattle.bd_message.specs.declared.fault.MapFault.{MapFault}
use Rattle.bd_super.specs.Superblocks.{log_block, other}
use Rattle.bd_super.specs.declared.superblock.Super.{Super}
use Rattle.bd_log.specs.Logs.{LogState, fresh_log}
use Rattle.bd_pager.specs.declared.written.Written.{Written}
use Rattle.bd_pager.specs.Pagers.{Paged, nodes_of}
use Rattle.bd_image.specs.Standing.{IsOldOrNew}
use Rattle.bd_checkpoint.specs.Following.{super_after}
use Rattle.bd_checkpoint.specs.Kept.{IsOpenOn, AllStandFor}
use Rattle.bd_checkpoint.specs.Recovering.{saved_of}
use Rattle.bd_checkpoint.specs.Saving.{IsCheckpointCause}
use Rattle.bd_checkpoint.specs.Surviving.{IsOfHalfOrSpare}
use Rattle.bd_checkpoint.proofs.Checkpointed.{writes_mid, writes_last, written_cause, failed_after, open_mid, time_mid, stopped_mid, time_last, stopped_last, place_mid, slots_mid, next_mid, follows_mid, size_mid}
use Rattle.bd_checkpoint.proofs.Published.{of_today}
use Rattle.bd_checkpoint.proofs.Marked.{untouched, unsaved, written_for, at_new, device_new, saved_new, open_new}
use Rattle.bd_checkpoint.proofs.Starting.{PartsAreOne}
use Rattle.bd_checkpoint.proofs.checkpointing.checkpoint.Goals as goal

-- ---- the nodes weren't written

pub write_out-requires-clause-size : goal.write_out-requires-clause-size
write_out-requires-clause-size g c = c.requires.open.size ∙ ap image_blocks (sym c.requires.spare.count)

pub write_out-requires-clause-slots : goal.write_out-requires-clause-slots
write_out-requires-clause-slots g c = omega (arith, c.requires.spare.count, c.requires.open.fits.slots.1)

pub returns-in-Err-clause-time : goal.returns-in-Err-clause-time
returns-in-Err-clause-time g c = λ tree known of.
    let mid = c.write_out.new.self in
    let one : PartsAreOne = record { tables = c.tables_are_read_again.ensures; batches = c.batches_are_one.ensures } in
    time_mid g.D.Device one c.args.pager.now mid (g.met.D.Device.since_earlier mid.dev) c.args.live.now c.args.log.now c.requires.open c.requires.spare c.in-Err.ensures.spills tree c.args.count

pub returns-in-Err-clause-unsaved : goal.returns-in-Err-clause-unsaved
returns-in-Err-clause-unsaved g c =
    let mid = c.write_out.new.self in
    unsaved g.D.Device c.args.pager.now mid mid c.in-Err.ensures.spills (untouched g.D.Device mid)

pub returns-in-Err-clause-goes_on : goal.returns-in-Err-clause-goes_on
returns-in-Err-clause-goes_on g c =
    let mid = c.write_out.new.self in
    let one : PartsAreOne = record { tables = c.tables_are_read_again.ensures; batches = c.batches_are_one.ensures } in
    stopped_mid g.D.Device one c.args.pager.now mid (g.met.D.Device.since_earlier mid.dev) c.args.live.now c.args.log.now c.requires.open c.requires.spare c.in-Err.ensures.spills c.in-Err.fault c.in-Err.ensures.cause.failed
    (λ e. ap (λ (p : Paged g.row.D.Denot). p.dev) (c.in-Err.ensures.no_memory (ap Err e))) c.in-Err.ensures.write_faults

pub returns-in-Err-clause-cause : goal.returns-in-Err-clause-cause
returns-in-Err-clause-cause g c =
    let old = c.args.pager.now.dev in
    let mid = c.write_out.new.self.dev in
    subst (λ (f : MapFault). IsCheckpointCause g.D.Device old mid c.args.live.now f) (sym c.map_fault.ensures)
    (written_cause g.D.Device old mid c.args.live.now c.in-Err.fault c.in-Err.ensures.cause.failed (λ e. ap (λ (p : Paged g.row.D.Denot). p.dev) (c.in-Err.ensures.no_memory (ap Err e))))

pub returns-in-Err-clause-writes : goal.returns-in-Err-clause-writes
returns-in-Err-clause-writes g c = writes_mid g.D.Device c.args.pager.now c.write_out.new.self (other c.args.live.now.half) c.in-Err.ensures.spills

-- ---- the superblock is published

pub publish_by-requires-clause-fits : goal.publish_by-requires-clause-fits
publish_by-requires-clause-fits g c =
    let mid = c.write_out.new.self in
    let one : PartsAreOne = record { tables = c.tables_are_read_again.ensures; batches = c.batches_are_one.ensures } in
    c.next_super-next.ensures.fits c.requires.open.fits (place_mid g.D.Device one c.args.pager.now mid (g.met.D.Device.since_earlier mid.dev) c.args.live.now c.args.log.now c.requires.open c.requires.spare c.in-Ok.ensures.spills c.in-Ok.table c.in-Ok.ensures.written)

pub publish_by-requires-clause-version : goal.publish_by-requires-clause-version
publish_by-requires-clause-version g c =
    let mid = c.write_out.new.self in
    let one : PartsAreOne = record { tables = c.tables_are_read_again.ensures; batches = c.batches_are_one.ensures } in
    of_today c.args.live.now c.next_super-next.result (next_mid g.D.Device one c.args.pager.now mid (g.met.D.Device.since_earlier mid.dev) c.args.live.now c.args.log.now c.requires.open c.requires.spare c.in-Ok.ensures.spills c.in-Ok.table c.in-Ok.ensures.written c.next_super-next.result c.args.count c.next_super-next.ensures.next)

pub publish_by-requires-clause-size : goal.publish_by-requires-clause-size
publish_by-requires-clause-size g c =
    let mid = c.write_out.new.self in
    let one : PartsAreOne = record { tables = c.tables_are_read_again.ensures; batches = c.batches_are_one.ensures } in
    size_mid g.D.Device one c.args.pager.now mid (g.met.D.Device.since_earlier mid.dev) c.args.live.now c.args.log.now c.requires.open c.requires.spare c.in-Ok.ensures.spills c.in-Ok.table c.in-Ok.ensures.written c.next_super-next.result c.args.count c.next_super-next.ensures.next

pub publish_by-requires-clause-follows : goal.publish_by-requires-clause-follows
publish_by-requires-clause-follows g c =
    let mid = c.write_out.new.self in
    let one : PartsAreOne = record { tables = c.tables_are_read_again.ensures; batches = c.batches_are_one.ensures } in
    follows_mid g.D.Device one c.args.pager.now mid (g.met.D.Device.since_earlier mid.dev) c.args.live.now c.args.log.now c.requires.open c.requires.spare c.in-Ok.ensures.spills c.in-Ok.table c.in-Ok.ensures.written c.next_super-next.result c.args.count c.next_super-next.ensures.next

pub publish_by-requires-clause-settled : goal.publish_by-requires-clause-settled
publish_by-requires-clause-settled g c =
    let mid = c.write_out.new.self in
    let one : PartsAreOne = record { tables = c.tables_are_read_again.ensures; batches = c.batches_are_one.ensures } in
    (open_mid g.D.Device one c.args.pager.now mid (g.met.D.Device.since_earlier mid.dev) c.args.live.now c.args.log.now c.requires.open c.requires.spare c.in-Ok.ensures.spills).settled

pub publish_by-requires-clause-unlent : goal.publish_by-requires-clause-unlent
publish_by-requires-clause-unlent g c = ap (λ (p : Paged g.row.D.Denot). p.is_lent) c.in-Ok.ensures.spills.rest ∙ c.requires.unlent

-- ---- it failed

pub returns-in-Err-publish_by-clause-time : goal.returns-in-Err-publish_by-clause-time
returns-in-Err-publish_by-clause-time g c = λ tree known of.
    let mid = c.write_out.new.self in
    let one : PartsAreOne = record { tables = c.tables_are_read_again.ensures; batches = c.batches_are_one.ensures } in
    let last = c.publish_by.new.pager in
    let next = c.next_super-next.result in
    let published : Goes g.D.Device mid.dev last.dev (IsOldOrNew (left_now g.D.Device mid.dev) tree c.args.count) =
    subst (λ (n : ℕ). Goes g.D.Device mid.dev last.dev (IsOldOrNew (left_now g.D.Device mid.dev) tree n)) (ap (λ (s : Super). s.count) c.next_super-next.ensures.next)
    (c.in-Err-publish_by.ensures.time c.args.live.now (saved_of c.args.pager.now) c.args.log.now c.in-Ok.ensures.written.written.table (nodes_of g.D.Device mid) tree (next_mid g.D.Device one c.args.pager.now mid (g.met.D.Device.since_earlier mid.dev) c.args.live.now c.args.log.now c.requires.open c.requires.spare c.in-Ok.ensures.spills c.in-Ok.table c.in-Ok.ensures.written c.next_super-next.result c.args.count c.next_super-next.ensures.next) (open_mid g.D.Device one c.args.pager.now mid (g.met.D.Device.since_earlier mid.dev) c.args.live.now c.args.log.now c.requires.open c.requires.spare c.in-Ok.ensures.spills) (written_for g.D.Device c.args.pager.now mid c.in-Ok.ensures.spills c.in-Ok.table c.in-Ok.ensures.written c.next_super-next.result (slots_mid g.D.Device one c.args.pager.now mid (g.met.D.Device.since_earlier mid.dev) c.args.live.now c.args.log.now c.requires.open c.requires.spare c.in-Ok.ensures.spills c.in-Ok.table c.in-Ok.ensures.written c.next_super-next.result c.args.count c.next_super-next.ensures.next) (ap (λ (s : Super). s.table) c.next_super-next.ensures.next) c.images_are_decoded.ensures.image tree known of)) in
    time_last g.D.Device one c.args.pager.now mid (g.met.D.Device.since_earlier mid.dev) c.args.live.now c.args.log.now c.requires.open c.requires.spare c.in-Ok.ensures.spills last.dev (g.met.D.Device.since_earlier last.dev) tree c.args.count published

pub returns-in-Err-publish_by-clause-unsaved : goal.returns-in-Err-publish_by-clause-unsaved
returns-in-Err-publish_by-clause-unsaved g c = unsaved g.D.Device c.args.pager.now c.write_out.new.self c.publish_by.new.pager c.in-Ok.ensures.spills c.in-Err-publish_by.ensures.pager

pub returns-in-Err-publish_by-clause-goes_on : goal.returns-in-Err-publish_by-clause-goes_on
returns-in-Err-publish_by-clause-goes_on g c =
    let mid = c.write_out.new.self in
    let one : PartsAreOne = record { tables = c.tables_are_read_again.ensures; batches = c.batches_are_one.ensures } in
    let last = c.publish_by.new.pager in
    stopped_last g.D.Device one c.args.pager.now mid (g.met.D.Device.since_earlier mid.dev) c.args.live.now c.args.log.now c.requires.open c.requires.spare c.in-Ok.ensures.spills last.dev (g.met.D.Device.since_earlier last.dev) c.in-Ok.ensures.write_faults c.in-Err-publish_by.ensures.write_faults.failed

pub returns-in-Err-publish_by-clause-cause : goal.returns-in-Err-publish_by-clause-cause
returns-in-Err-publish_by-clause-cause g c = failed_after g.D.Device c.args.pager.now.dev c.write_out.new.self.dev c.publish_by.new.pager.dev c.in-Ok.ensures.cause.kept c.in-Err-publish_by.ensures.cause.failed

pub returns-in-Err-publish_by-clause-writes : goal.returns-in-Err-publish_by-clause-writes
returns-in-Err-publish_by-clause-writes g c =
    writes_last g.D.Device c.args.pager.now c.write_out.new.self (other c.args.live.now.half) c.in-Ok.ensures.spills c.next_super-next.result.half c.publish_by.new.pager.dev (ap (λ (s : Super). s.half) c.next_super-next.ensures.next) c.in-Err-publish_by.ensures.outside

-- ---- it was published

pub mark_saved-requires : goal.mark_saved-requires
mark_saved-requires g c =
    subst (λ (o : Option Written). IsSome o) (sym (ap (λ (p : Paged g.row.D.Denot). p.written) c.in-Ok-publish_by.ensures.pager.rest ∙ c.in-Ok.ensures.written.written_is)) (search rules)

pub returns-clause-time : goal.returns-clause-time
returns-clause-time g c = λ tree known of.
    let mid = c.write_out.new.self in
    let one : PartsAreOne = record { tables = c.tables_are_read_again.ensures; batches = c.batches_are_one.ensures } in
    let last = c.publish_by.new.pager in
    let next = c.next_super-next.result in
    let published : Goes g.D.Device mid.dev last.dev (IsOldOrNew (left_now g.D.Device mid.dev) tree c.args.count) =
    subst (λ (n : ℕ). Goes g.D.Device mid.dev last.dev (IsOldOrNew (left_now g.D.Device mid.dev) tree n)) (ap (λ (s : Super). s.count) c.next_super-next.ensures.next)
    (c.in-Ok-publish_by.ensures.time c.args.live.now (saved_of c.args.pager.now) c.args.log.now c.in-Ok.ensures.written.written.table (nodes_of g.D.Device mid) tree (next_mid g.D.Device one c.args.pager.now mid (g.met.D.Device.since_earlier mid.dev) c.args.live.now c.args.log.now c.requires.open c.requires.spare c.in-Ok.ensures.spills c.in-Ok.table c.in-Ok.ensures.written c.next_super-next.result c.args.count c.next_super-next.ensures.next) (open_mid g.D.Device one c.args.pager.now mid (g.met.D.Device.since_earlier mid.dev) c.args.live.now c.args.log.now c.requires.open c.requires.spare c.in-Ok.ensures.spills) (written_for g.D.Device c.args.pager.now mid c.in-Ok.ensures.spills c.in-Ok.table c.in-Ok.ensures.written c.next_super-next.result (slots_mid g.D.Device one c.args.pager.now mid (g.met.D.Device.since_earlier mid.dev) c.args.live.now c.args.log.now c.requires.open c.requires.spare c.in-Ok.ensures.spills c.in-Ok.table c.in-Ok.ensures.written c.next_super-next.result c.args.count c.next_super-next.ensures.next) (ap (λ (s : Super). s.table) c.next_super-next.ensures.next) c.images_are_decoded.ensures.image tree known of)) in
    let new = c.mark_saved.new.self in
    subst (λ (d : g.row.D.Denot). Goes g.D.Device c.args.pager.now.dev d (IsOldOrNew (left_now g.D.Device c.args.pager.now.dev) tree c.args.count)) (sym (device_new g.D.Device c.args.pager.now mid c.in-Ok.ensures.spills c.in-Ok.table c.in-Ok.ensures.written c.next_super-next.result (slots_mid g.D.Device one c.args.pager.now mid (g.met.D.Device.since_earlier mid.dev) c.args.live.now c.args.log.now c.requires.open c.requires.spare c.in-Ok.ensures.spills c.in-Ok.table c.in-Ok.ensures.written c.next_super-next.result c.args.count c.next_super-next.ensures.next) (ap (λ (s : Super). s.table) c.next_super-next.ensures.next) last new c.in-Ok-publish_by.ensures.pager c.mark_saved.ensures))
    (time_last g.D.Device one c.args.pager.now mid (g.met.D.Device.since_earlier mid.dev) c.args.live.now c.args.log.now c.requires.open c.requires.spare c.in-Ok.ensures.spills last.dev (g.met.D.Device.since_earlier last.dev) tree c.args.count published)

pub returns-clause-kept : goal.returns-clause-kept
returns-clause-kept g c = λ tree known of.
    let mid = c.write_out.new.self in
    let one : PartsAreOne = record { tables = c.tables_are_read_again.ensures; batches = c.batches_are_one.ensures } in
    let last = c.publish_by.new.pager in
    let new = c.mark_saved.new.self in
    subst (λ (n : ℕ). AllStandFor tree n (left_now g.D.Device new.dev)) (ap (λ (s : Super). s.count) c.next_super-next.ensures.next)
    (subst (λ (d : g.row.D.Denot). AllStandFor tree c.next_super-next.result.count (left_now g.D.Device d)) (sym (device_new g.D.Device c.args.pager.now mid c.in-Ok.ensures.spills c.in-Ok.table c.in-Ok.ensures.written c.next_super-next.result (slots_mid g.D.Device one c.args.pager.now mid (g.met.D.Device.since_earlier mid.dev) c.args.live.now c.args.log.now c.requires.open c.requires.spare c.in-Ok.ensures.spills c.in-Ok.table c.in-Ok.ensures.written c.next_super-next.result c.args.count c.next_super-next.ensures.next) (ap (λ (s : Super). s.table) c.next_super-next.ensures.next) last new c.in-Ok-publish_by.ensures.pager c.mark_saved.ensures))
    (c.in-Ok-publish_by.ensures.kept c.in-Ok.ensures.written.written.table (nodes_of g.D.Device mid) tree (written_for g.D.Device c.args.pager.now mid c.in-Ok.ensures.spills c.in-Ok.table c.in-Ok.ensures.written c.next_super-next.result (slots_mid g.D.Device one c.args.pager.now mid (g.met.D.Device.since_earlier mid.dev) c.args.live.now c.args.log.now c.requires.open c.requires.spare c.in-Ok.ensures.spills c.in-Ok.table c.in-Ok.ensures.written c.next_super-next.result c.args.count c.next_super-next.ensures.next) (ap (λ (s : Super). s.table) c.next_super-next.ensures.next) c.images_are_decoded.ensures.image tree known of)))

pub returns-clause-open : goal.returns-clause-open
returns-clause-open g c =
    let mid = c.write_out.new.self in
    let one : PartsAreOne = record { tables = c.tables_are_read_again.ensures; batches = c.batches_are_one.ensures } in
    let last = c.publish_by.new.pager in
    let new = c.mark_saved.new.self in
    let next = c.next_super-next.result in
    let turned : c.turn.new.self ≡ fresh_log (log_block next.half) next.epoch = c.turn.ensures ∙ ap (λ (first : ℕ). fresh_log first next.epoch) c.log_block.ensures in
    subst (λ (l : LogState). IsOpenOn g.D.Device new.dev next (saved_of new) l) (sym turned)
    (open_new g.D.Device c.args.pager.now mid c.in-Ok.ensures.spills c.in-Ok.table c.in-Ok.ensures.written c.next_super-next.result (slots_mid g.D.Device one c.args.pager.now mid (g.met.D.Device.since_earlier mid.dev) c.args.live.now c.args.log.now c.requires.open c.requires.spare c.in-Ok.ensures.spills c.in-Ok.table c.in-Ok.ensures.written c.next_super-next.result c.args.count c.next_super-next.ensures.next) (ap (λ (s : Super). s.table) c.next_super-next.ensures.next) last new c.in-Ok-publish_by.ensures.pager c.mark_saved.ensures (fresh_log (log_block next.half) next.epoch) c.in-Ok-publish_by.ensures.open)

pub returns-clause-live : goal.returns-clause-live
returns-clause-live g c =
    let mid = c.write_out.new.self in
    let one : PartsAreOne = record { tables = c.tables_are_read_again.ensures; batches = c.batches_are_one.ensures } in
    let last = c.publish_by.new.pager in
    let new = c.mark_saved.new.self in
    c.next_super-next.ensures.next ∙ ap (super_after c.args.live.now c.args.count) (sym (at_new g.D.Device c.args.pager.now mid c.in-Ok.ensures.spills c.in-Ok.table c.in-Ok.ensures.written c.next_super-next.result (slots_mid g.D.Device one c.args.pager.now mid (g.met.D.Device.since_earlier mid.dev) c.args.live.now c.args.log.now c.requires.open c.requires.spare c.in-Ok.ensures.spills c.in-Ok.table c.in-Ok.ensures.written c.next_super-next.result c.args.count c.next_super-next.ensures.next) (ap (λ (s : Super). s.table) c.next_super-next.ensures.next) last new c.in-Ok-publish_by.ensures.pager c.mark_saved.ensures))

pub returns-clause-only : goal.returns-clause-only
returns-clause-only g c =
    let mid = c.write_out.new.self in
    let one : PartsAreOne = record { tables = c.tables_are_read_again.ensures; batches = c.batches_are_one.ensures } in
    let last = c.publish_by.new.pager in
    let new = c.mark_saved.new.self in
    subst (λ (d : g.row.D.Denot). IsOnly (g.D.Device.contents d) (left_now g.D.Device d)) (sym (device_new g.D.Device c.args.pager.now mid c.in-Ok.ensures.spills c.in-Ok.table c.in-Ok.ensures.written c.next_super-next.result (slots_mid g.D.Device one c.args.pager.now mid (g.met.D.Device.since_earlier mid.dev) c.args.live.now c.args.log.now c.requires.open c.requires.spare c.in-Ok.ensures.spills c.in-Ok.table c.in-Ok.ensures.written c.next_super-next.result c.args.count c.next_super-next.ensures.next) (ap (λ (s : Super). s.table) c.next_super-next.ensures.next) last new c.in-Ok-publish_by.ensures.pager c.mark_saved.ensures)) c.in-Ok-publish_by.ensures.only

pub returns-clause-saved : goal.returns-clause-saved
returns-clause-saved g c =
    let mid = c.write_out.new.self in
    let one : PartsAreOne = record { tables = c.tables_are_read_again.ensures; batches = c.batches_are_one.ensures } in
    let last = c.publish_by.new.pager in
    let new = c.mark_saved.new.self in
    saved_new g.D.Device c.args.pager.now mid c.in-Ok.ensures.spills c.in-Ok.table c.in-Ok.ensures.written c.next_super-next.result (slots_mid g.D.Device one c.args.pager.now mid (g.met.D.Device.since_earlier mid.dev) c.args.live.now c.args.log.now c.requires.open c.requires.spare c.in-Ok.ensures.spills c.in-Ok.table c.in-Ok.ensures.written c.next_super-next.result c.args.count c.next_super-next.ensures.next) (ap (λ (s : Super). s.table) c.next_super-next.ensures.next) last new c.in-Ok-publish_by.ensures.pager c.mark_saved.ensures

pub returns-clause-writes : goal.returns-clause-writes
returns-clause-writes g c =
    let mid = c.write_out.new.self in
    let one : PartsAreOne = record { tables = c.tables_are_read_again.ensures; batches = c.batches_are_one.ensures } in
    let last = c.publish_by.new.pager in
    let new = c.mark_saved.new.self in
    subst (λ (d : g.row.D.Denot). StaysBut (IsOfHalfOrSpare (other c.args.live.now.half) c.args.pager.now.spare) (g.D.Device.contents c.args.pager.now.dev) (g.D.Device.contents d)) (sym (device_new g.D.Device c.args.pager.now mid c.in-Ok.ensures.spills c.in-Ok.table c.in-Ok.ensures.written c.next_super-next.result (slots_mid g.D.Device one c.args.pager.now mid (g.met.D.Device.since_earlier mid.dev) c.args.live.now c.args.log.now c.requires.open c.requires.spare c.in-Ok.ensures.spills c.in-Ok.table c.in-Ok.ensures.written c.next_super-next.result c.args.count c.next_super-next.ensures.next) (ap (λ (s : Super). s.table) c.next_super-next.ensures.next) last new c.in-Ok-publish_by.ensures.pager c.mark_saved.ensures))
    (writes_last g.D.Device c.args.pager.now mid (other c.args.live.now.half) c.in-Ok.ensures.spills c.next_super-next.result.half last.dev (ap (λ (s : Super). s.half) c.next_super-next.ensures.next) c.in-Ok-publish_by.ensures.outside)

pub returns-clause-faults : goal.returns-clause-faults
returns-clause-faults g c =
    let mid = c.write_out.new.self in
    let one : PartsAreOne = record { tables = c.tables_are_read_again.ensures; batches = c.batches_are_one.ensures } in
    let last = c.publish_by.new.pager in
    let new = c.mark_saved.new.self in
    ap g.D.Device.fault_count (device_new g.D.Device c.args.pager.now mid c.in-Ok.ensures.spills c.in-Ok.table c.in-Ok.ensures.written c.next_super-next.result (slots_mid g.D.Device one c.args.pager.now mid (g.met.D.Device.since_earlier mid.dev) c.args.live.now c.args.log.now c.requires.open c.requires.spare c.in-Ok.ensures.spills c.in-Ok.table c.in-Ok.ensures.written c.next_super-next.result c.args.count c.next_super-next.ensures.next) (ap (λ (s : Super). s.table) c.next_super-next.ensures.next) last new c.in-Ok-publish_by.ensures.pager c.mark_saved.ensures) ∙ c.in-Ok-publish_by.ensures.cause.kept ∙ c.in-Ok.ensures.cause.kept

pub returns-clause-write_faults : goal.returns-clause-write_faults
returns-clause-write_faults g c =
    let mid = c.write_out.new.self in
    let one : PartsAreOne = record { tables = c.tables_are_read_again.ensures; batches = c.batches_are_one.ensures } in
    let last = c.publish_by.new.pager in
    let new = c.mark_saved.new.self in
    ap g.D.Device.write_fault_count (device_new g.D.Device c.args.pager.now mid c.in-Ok.ensures.spills c.in-Ok.table c.in-Ok.ensures.written c.next_super-next.result (slots_mid g.D.Device one c.args.pager.now mid (g.met.D.Device.since_earlier mid.dev) c.args.live.now c.args.log.now c.requires.open c.requires.spare c.in-Ok.ensures.spills c.in-Ok.table c.in-Ok.ensures.written c.next_super-next.result c.args.count c.next_super-next.ensures.next) (ap (λ (s : Super). s.table) c.next_super-next.ensures.next) last new c.in-Ok-publish_by.ensures.pager c.mark_saved.ensures) ∙ c.in-Ok-publish_by.ensures.write_faults.kept ∙ c.in-Ok.ensures.write_faults

pub returns-clause-stays : goal.returns-clause-stays
returns-clause-stays g c =
    let mid = c.write_out.new.self in
    let one : PartsAreOne = record { tables = c.tables_are_read_again.ensures; batches = c.batches_are_one.ensures } in
    let last = c.publish_by.new.pager in
    let new = c.mark_saved.new.self in
    subst (λ (d : g.row.D.Denot). Stays g.D.Device c.args.pager.now.dev d) (sym (device_new g.D.Device c.args.pager.now mid c.in-Ok.ensures.spills c.in-Ok.table c.in-Ok.ensures.written c.next_super-next.result (slots_mid g.D.Device one c.args.pager.now mid (g.met.D.Device.since_earlier mid.dev) c.args.live.now c.args.log.now c.requires.open c.requires.spare c.in-Ok.ensures.spills c.in-Ok.table c.in-Ok.ensures.written c.next_super-next.result c.args.count c.next_super-next.ensures.next) (ap (λ (s : Super). s.table) c.next_super-next.ensures.next) last new c.in-Ok-publish_by.ensures.pager c.mark_saved.ensures)) (stays_then c.in-Ok.ensures.spills.moves.stays c.in-Ok-publish_by.ensures.stays)

pub returns-in-Err-publish_by-clause-later : goal.returns-in-Err-publish_by-clause-later
returns-in-Err-publish_by-clause-later g c = omega (arith, c.in-Ok.ensures.cause.later, c.in-Err-publish_by.ensures.cause.later)

pub returns-clause-later : goal.returns-clause-later
returns-clause-later g c =
    let same : g.D.Device.fault_count c.mark_saved.new.self.dev ≡ g.D.Device.fault_count c.args.pager.now.dev = returns-clause-faults g c in omega (arith, same)
