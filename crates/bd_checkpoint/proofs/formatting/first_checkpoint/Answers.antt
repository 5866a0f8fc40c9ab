use Rattle.std.proofs.Common.{◌≡◌, ℕ, Option, sym, ap, subst, ◌∙◌, rules, arith}
use Rattle.std.specs.Prelude.{IsSome}
use Rattle.bd_slots.specs.Layout.{image_blocks}
use Rattle.bd_device.specs.Device.{left_now}
use Rattle.bd_device.specs.Moments.{IsOnly}
use Rattle.bd_super.specs.Superblocks.{log_block}
use Rattle.bd_super.specs.declared.superblock.Super.{Super}
use Rattle.bd_log.specs.Logs.{LogState, fresh_log}
use Rattle.bd_pager.specs.declared.written.Written.{Written}
use Rattle.bd_pager.specs.Pagers.{Paged, nodes_of}
use Rattle.bd_image.specs.Fresh.{first_super}
use Rattle.bd_checkpoint.specs.Kept.{IsOpenOn, AllStandFor}
use Rattle.bd_checkpoint.specs.Recovering.{saved_of}
use Rattle.bd_checkpoint.proofs.Beginning.{settled_first, follows_first, place_first, slots_first, today_first, size_first}
use Rattle.bd_checkpoint.proofs.Marked.{written_for, at_new, device_new, saved_new, open_new}
use Rattle.bd_checkpoint.proofs.formatting.first_checkpoint.Goals as goal

pub write_out-requires-clause-size : goal.write_out-requires-clause-size
write_out-requires-clause-size g c = c.requires.size ∙ ap image_blocks (sym c.requires.spare)

pub write_out-requires-clause-slots : goal.write_out-requires-clause-slots
write_out-requires-clause-slots g c = omega (arith, c.requires.spare, c.requires.slots.1)

pub publish_by-requires-clause-fits : goal.publish_by-requires-clause-fits
publish_by-requires-clause-fits g c =
    let mid = c.write_out.new.self in
    c.first_super-first.ensures.fits c.requires.slots (place_first g.D.Device c.args.pager.now mid c.in_ok-table.ensures.spills c.args.slots c.requires.spare c.in_ok-table.table c.in_ok-table.ensures.written)

pub publish_by-requires-clause-version : goal.publish_by-requires-clause-version
publish_by-requires-clause-version g c =
    let mid = c.write_out.new.self in
    today_first g.D.Device c.args.pager.now mid c.in_ok-table.ensures.spills c.args.slots c.requires.spare c.in_ok-table.table c.first_super-first.result c.first_super-first.ensures.first

pub publish_by-requires-clause-size : goal.publish_by-requires-clause-size
publish_by-requires-clause-size g c =
    let mid = c.write_out.new.self in
    size_first g.D.Device c.args.pager.now mid c.in_ok-table.ensures.spills c.args.slots c.requires.spare c.in_ok-table.table c.first_super-first.result c.first_super-first.ensures.first c.requires.size

pub publish_by-requires-clause-follows : goal.publish_by-requires-clause-follows
publish_by-requires-clause-follows g c =
    let mid = c.write_out.new.self in
    follows_first g.D.Device c.args.pager.now mid c.in_ok-table.ensures.spills c.args.slots c.requires.spare c.first_super-first.result c.requires.none

pub publish_by-requires-clause-settled : goal.publish_by-requires-clause-settled
publish_by-requires-clause-settled g c =
    let mid = c.write_out.new.self in
    settled_first g.D.Device c.args.pager.now mid c.in_ok-table.ensures.spills c.args.slots c.requires.spare (g.met.D.Device.since_earlier mid.dev) c.requires.settled

pub publish_by-requires-clause-unlent : goal.publish_by-requires-clause-unlent
publish_by-requires-clause-unlent g c = ap (λ (p : Paged g.row.D.Denot). p.is_lent) c.in_ok-table.ensures.spills.rest ∙ c.requires.unlent

pub mark_saved-requires : goal.mark_saved-requires
mark_saved-requires g c =
    subst (λ (o : Option Written). IsSome o) (sym (ap (λ (p : Paged g.row.D.Denot). p.written) c.in_ok-publish_by.ensures.pager.rest ∙ c.in_ok-table.ensures.written.written_is)) (search rules)

pub returns-clause-stands : goal.returns-clause-stands
returns-clause-stands g c = λ tree known of.
    let mid = c.write_out.new.self in
    let last = c.publish_by.new.pager in
    let new = c.mark_saved.new.self in
    subst (λ (n : ℕ). AllStandFor tree n (left_now g.D.Device new.dev)) (ap (λ (s : Super). s.count) c.first_super-first.ensures.first)
    (subst (λ (d : g.row.D.Denot). AllStandFor tree c.first_super-first.result.count (left_now g.D.Device d)) (sym (device_new g.D.Device c.args.pager.now mid c.in_ok-table.ensures.spills c.in_ok-table.table c.in_ok-table.ensures.written c.first_super-first.result (slots_first g.D.Device c.args.pager.now mid c.in_ok-table.ensures.spills c.args.slots c.requires.spare c.in_ok-table.table c.first_super-first.result c.first_super-first.ensures.first) (ap (λ (s : Super). s.table) c.first_super-first.ensures.first) last new c.in_ok-publish_by.ensures.pager c.mark_saved.ensures))
    (c.in_ok-publish_by.ensures.kept c.in_ok-table.ensures.written.written.table (nodes_of g.D.Device mid) tree (written_for g.D.Device c.args.pager.now mid c.in_ok-table.ensures.spills c.in_ok-table.table c.in_ok-table.ensures.written c.first_super-first.result (slots_first g.D.Device c.args.pager.now mid c.in_ok-table.ensures.spills c.args.slots c.requires.spare c.in_ok-table.table c.first_super-first.result c.first_super-first.ensures.first) (ap (λ (s : Super). s.table) c.first_super-first.ensures.first) c.images_are_decoded.ensures.image tree known of)))

pub returns-clause-only : goal.returns-clause-only
returns-clause-only g c =
    let mid = c.write_out.new.self in
    let last = c.publish_by.new.pager in
    let new = c.mark_saved.new.self in
    subst (λ (d : g.row.D.Denot). IsOnly (g.D.Device.contents d) (left_now g.D.Device d)) (sym (device_new g.D.Device c.args.pager.now mid c.in_ok-table.ensures.spills c.in_ok-table.table c.in_ok-table.ensures.written c.first_super-first.result (slots_first g.D.Device c.args.pager.now mid c.in_ok-table.ensures.spills c.args.slots c.requires.spare c.in_ok-table.table c.first_super-first.result c.first_super-first.ensures.first) (ap (λ (s : Super). s.table) c.first_super-first.ensures.first) last new c.in_ok-publish_by.ensures.pager c.mark_saved.ensures)) c.in_ok-publish_by.ensures.only

pub returns-clause-open : goal.returns-clause-open
returns-clause-open g c =
    let mid = c.write_out.new.self in
    let last = c.publish_by.new.pager in
    let new = c.mark_saved.new.self in
    let first = c.first_super-first.result in
    let made : c.in_ok-log.log ≡ fresh_log (log_block first.half) first.epoch = c.in_ok-log.ensures ∙ ap (λ (n : ℕ). fresh_log n first.epoch) c.log_block.ensures in
    subst (λ (l : LogState). IsOpenOn g.D.Device new.dev first (saved_of new) l) (sym made)
    (open_new g.D.Device c.args.pager.now mid c.in_ok-table.ensures.spills c.in_ok-table.table c.in_ok-table.ensures.written c.first_super-first.result (slots_first g.D.Device c.args.pager.now mid c.in_ok-table.ensures.spills c.args.slots c.requires.spare c.in_ok-table.table c.first_super-first.result c.first_super-first.ensures.first) (ap (λ (s : Super). s.table) c.first_super-first.ensures.first) last new c.in_ok-publish_by.ensures.pager c.mark_saved.ensures (fresh_log (log_block first.half) first.epoch) c.in_ok-publish_by.ensures.open)

pub returns-clause-live : goal.returns-clause-live
returns-clause-live g c =
    let mid = c.write_out.new.self in
    let last = c.publish_by.new.pager in
    let new = c.mark_saved.new.self in
    c.first_super-first.ensures.first ∙ ap (first_super c.args.slots) (sym (at_new g.D.Device c.args.pager.now mid c.in_ok-table.ensures.spills c.in_ok-table.table c.in_ok-table.ensures.written c.first_super-first.result (slots_first g.D.Device c.args.pager.now mid c.in_ok-table.ensures.spills c.args.slots c.requires.spare c.in_ok-table.table c.first_super-first.result c.first_super-first.ensures.first) (ap (λ (s : Super). s.table) c.first_super-first.ensures.first) last new c.in_ok-publish_by.ensures.pager c.mark_saved.ensures))

pub returns-clause-log : goal.returns-clause-log
returns-clause-log g c =
    let first = c.first_super-first.result in
    c.in_ok-log.ensures ∙ ap (λ (n : ℕ). fresh_log n first.epoch) c.log_block.ensures ∙ ap (λ (s : Super). fresh_log (log_block s.half) s.epoch) c.first_super-first.ensures.first

pub returns-clause-saved : goal.returns-clause-saved
returns-clause-saved g c =
    let mid = c.write_out.new.self in
    let last = c.publish_by.new.pager in
    let new = c.mark_saved.new.self in
    saved_new g.D.Device c.args.pager.now mid c.in_ok-table.ensures.spills c.in_ok-table.table c.in_ok-table.ensures.written c.first_super-first.result (slots_first g.D.Device c.args.pager.now mid c.in_ok-table.ensures.spills c.args.slots c.requires.spare c.in_ok-table.table c.first_super-first.result c.first_super-first.ensures.first) (ap (λ (s : Super). s.table) c.first_super-first.ensures.first) last new c.in_ok-publish_by.ensures.pager c.mark_saved.ensures
