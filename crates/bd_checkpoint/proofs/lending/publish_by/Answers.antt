use Rattle.std.proofs.Common.{sym, ap, subst}
use Rattle.std.proofs.lemmas.Result.{on_ok_weaker}
use Rattle.bd_device.specs.Changes.{StaysBut}
use Rattle.bd_device.specs.Device.{left_now, Goes}
use Rattle.bd_super.specs.Published.{IsOfHalf}
use Rattle.bd_image.specs.Standing.{IsOldOrNew}
use Rattle.bd_pager.specs.Pagers.{Paged, spots_of}
use Rattle.bd_checkpoint.specs.Following.{AreWritten}
use Rattle.bd_checkpoint.specs.Kept.{IsOpenOn, AllStandFor}
use Rattle.bd_checkpoint.proofs.Slots.{taken_back, cached_same, tails_same, survives, super_before}
use Rattle.bd_checkpoint.proofs.lending.publish_by.Goals as goal

pub take_back-requires-clause-copies : goal.take_back-requires-clause-copies
take_back-requires-clause-copies g c =
    let D = g.D.Device in
    let p = c.args.pager.now in
    let half = c.args.s.now.half in
    let new = c.publish_written-published.new.dev in
    let same = subst (λ (d : g.row.D.Denot). StaysBut (IsOfHalf half) (D.contents d) (D.contents new)) c.device.ensures.value c.publish_written-published.ensures.outside in
    cached_same (IsOfHalf half) (super_before half) (D.contents p.dev) (D.contents new) p.is_lent (spots_of p) p.cache c.requires.unlent same c.device.ensures.copies

pub take_back-requires-clause-tails : goal.take_back-requires-clause-tails
take_back-requires-clause-tails g c =
    let D = g.D.Device in
    let p = c.args.pager.now in
    let half = c.args.s.now.half in
    let new = c.publish_written-published.new.dev in
    let same = subst (λ (d : g.row.D.Denot). StaysBut (IsOfHalf half) (D.contents d) (D.contents new)) c.device.ensures.value c.publish_written-published.ensures.outside in
    tails_same (IsOfHalf half) (super_before half) (D.contents p.dev) (D.contents new) p.is_lent p.tails c.requires.unlent same c.device.ensures.tails

pub returns-clause-time : goal.returns-clause-time
returns-clause-time g c = λ live saved log t nodes tree follows given written.
    let D = g.D.Device in
    let s = c.args.s.now in
    let old = c.args.pager.now.dev in
    let new = c.publish_written-published.new.dev in
    subst (λ (d : g.row.D.Denot). Goes D old d (IsOldOrNew (left_now D old) tree s.count)) (sym (ap (λ (p : Paged g.row.D.Denot). p.dev) c.take_back.ensures))
    (subst (λ (d : g.row.D.Denot). IsOpenOn D d live saved log → AreWritten (D.contents d) s t nodes tree → Goes D d new (IsOldOrNew (left_now D d) tree s.count)) c.device.ensures.value
    (c.publish_written-published.ensures.time live saved log t nodes tree follows) given written)

pub returns-clause-kept : goal.returns-clause-kept
returns-clause-kept g c =
    let D = g.D.Device in
    let s = c.args.s.now in
    let new = c.publish_written-published.new.dev in
    on_ok_weaker c.publish_written-published.result
    (λ kept. λ t nodes tree written.
    subst (λ (d : g.row.D.Denot). AllStandFor tree s.count (left_now D d)) (sym (ap (λ (p : Paged g.row.D.Denot). p.dev) c.take_back.ensures))
    (subst (λ (d : g.row.D.Denot). AreWritten (D.contents d) s t nodes tree → AllStandFor tree s.count (left_now D new)) c.device.ensures.value (kept t nodes tree) written))
    c.publish_written-published.ensures.kept

pub returns-clause-pager : goal.returns-clause-pager
returns-clause-pager g c =
    let D = g.D.Device in
    let p = c.args.pager.now in
    let half = c.args.s.now.half in
    let after = c.take_back.new.self in
    let from = subst (λ (d : g.row.D.Denot). StaysBut (IsOfHalf half) (D.contents d) (D.contents c.publish_written-published.new.dev)) c.device.ensures.value c.publish_written-published.ensures.outside in
    let same = subst (λ (d : g.row.D.Denot). StaysBut (IsOfHalf half) (D.contents p.dev) (D.contents d)) (sym (ap (λ (q : Paged g.row.D.Denot). q.dev) c.take_back.ensures)) from in
    survives (IsOfHalf half) (super_before half) D p after (taken_back p after c.publish_written-published.new.dev c.requires.unlent c.take_back.ensures) same

pub returns-clause-outside : goal.returns-clause-outside
returns-clause-outside g c =
    let D = g.D.Device in
    let p = c.args.pager.now in
    let half = c.args.s.now.half in
    let from = subst (λ (d : g.row.D.Denot). StaysBut (IsOfHalf half) (D.contents d) (D.contents c.publish_written-published.new.dev)) c.device.ensures.value c.publish_written-published.ensures.outside in
    subst (λ (d : g.row.D.Denot). StaysBut (IsOfHalf half) (D.contents p.dev) (D.contents d)) (sym (ap (λ (q : Paged g.row.D.Denot). q.dev) c.take_back.ensures)) from
