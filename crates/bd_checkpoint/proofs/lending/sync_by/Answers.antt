use Rattle.std.proofs.Common.{◌+◌, sym, ap, subst}
use Rattle.std.proofs.lemmas.Result.{on_ok_weaker}
use Rattle.bd_device.specs.Blocks.{Image}
use Rattle.bd_device.specs.Changes.{StaysBut, IsInRange}
use Rattle.bd_device.specs.Device.{left_now, Goes}
use Rattle.bd_pager.specs.Pagers.{Paged, spots_of}
use Rattle.bd_checkpoint.specs.Kept.{IsOpenOn, IsWithWaiting, IsWithAllOrNone}
use Rattle.bd_checkpoint.proofs.Slots.{taken_back, cached_same, tails_same, survives, log_before}
use Rattle.bd_checkpoint.proofs.lending.sync_by.Goals as goal

pub take_back-requires-clause-copies : goal.take_back-requires-clause-copies
take_back-requires-clause-copies g c =
    let D = g.D.Device in
    let p = c.args.pager.now in
    let new = c.sync-synced.new.dev in
    let first = c.args.log.now.first in
    let same = subst (λ (d : g.row.D.Denot). StaysBut (IsInRange first (first + 64)) (D.contents d) (D.contents new)) c.device.ensures.value c.sync-synced.ensures.others in
    cached_same (IsInRange first (first + 64)) (log_before first c.requires.half) (D.contents p.dev) (D.contents new) p.is_lent (spots_of p) p.cache c.requires.unlent same c.device.ensures.copies

pub take_back-requires-clause-tails : goal.take_back-requires-clause-tails
take_back-requires-clause-tails g c =
    let D = g.D.Device in
    let p = c.args.pager.now in
    let new = c.sync-synced.new.dev in
    let first = c.args.log.now.first in
    let same = subst (λ (d : g.row.D.Denot). StaysBut (IsInRange first (first + 64)) (D.contents d) (D.contents new)) c.device.ensures.value c.sync-synced.ensures.others in
    tails_same (IsInRange first (first + 64)) (log_before first c.requires.half) (D.contents p.dev) (D.contents new) p.is_lent p.tails c.requires.unlent same c.device.ensures.tails

pub returns-clause-time : goal.returns-clause-time
returns-clause-time g c = λ live saved given.
    let D = g.D.Device in
    let log = c.args.log.now in
    let old = c.args.pager.now.dev in
    let new = c.sync-synced.new.dev in
    subst (λ (d : g.row.D.Denot). Goes D old d (IsWithAllOrNone live log (left_now D old))) (sym (ap (λ (p : Paged g.row.D.Denot). p.dev) c.take_back.ensures))
    (subst (λ (d : g.row.D.Denot). IsOpenOn D d live saved log → Goes D d new (IsWithAllOrNone live log (left_now D d))) c.device.ensures.value (c.sync-synced.ensures.time live saved) given)

pub returns-clause-kept : goal.returns-clause-kept
returns-clause-kept g c =
    let D = g.D.Device in
    let log = c.args.log.now in
    let new = c.sync-synced.new.dev in
    on_ok_weaker c.sync-synced.result
    (λ kept. λ live saved given image is.
    subst (λ (d : g.row.D.Denot). IsOpenOn D d live saved log → (x : Image) → left_now D new x → IsWithWaiting live log (left_now D d) x) c.device.ensures.value (kept live saved) given image
    (subst (λ (d : g.row.D.Denot). left_now D d image) (ap (λ (p : Paged g.row.D.Denot). p.dev) c.take_back.ensures) is))
    c.sync-synced.ensures.kept

pub returns-clause-open : goal.returns-clause-open
returns-clause-open g c =
    let D = g.D.Device in
    let log = c.args.log.now in
    let new = c.sync-synced.new.dev in
    let after = c.sync-synced.new.log in
    on_ok_weaker c.sync-synced.result
    (λ same. λ live saved given.
    subst (λ (d : g.row.D.Denot). IsOpenOn D d live saved after) (sym (ap (λ (p : Paged g.row.D.Denot). p.dev) c.take_back.ensures))
    (subst (λ (d : g.row.D.Denot). IsOpenOn D d live saved log → IsOpenOn D new live saved after) c.device.ensures.value (same live saved) given))
    c.sync-synced.ensures.open

pub returns-clause-pager : goal.returns-clause-pager
returns-clause-pager g c =
    let D = g.D.Device in
    let p = c.args.pager.now in
    let after = c.take_back.new.self in
    let first = c.args.log.now.first in
    let from = subst (λ (d : g.row.D.Denot). StaysBut (IsInRange first (first + 64)) (D.contents d) (D.contents c.sync-synced.new.dev)) c.device.ensures.value c.sync-synced.ensures.others in
    let same = subst (λ (d : g.row.D.Denot). StaysBut (IsInRange first (first + 64)) (D.contents p.dev) (D.contents d)) (sym (ap (λ (q : Paged g.row.D.Denot). q.dev) c.take_back.ensures)) from in
    survives (IsInRange first (first + 64)) (log_before first c.requires.half) D p after (taken_back p after c.sync-synced.new.dev c.requires.unlent c.take_back.ensures) same
