use Rattle.bd_device.specs.Device.{left_now}
use Rattle.bd_device.proofs.Moments.{within}
use Rattle.bd_super.specs.Published.{IsStagedOrPublished}
use Rattle.bd_image.specs.Standing.{IsOldOrNew}
use Rattle.bd_checkpoint.proofs.Handed.{both_ok}
use Rattle.bd_checkpoint.proofs.Published.{old_or_new, all_new, open_new}
use Rattle.bd_checkpoint.proofs.publishing.publish_written.Goals as goal

pub returns-clause-time : goal.returns-clause-time
returns-clause-time g c = λ live saved log t nodes tree follows given written.
    let D = g.D.Device in
    let old = c.args.dev.now in
    let s = c.args.s.now in
    let known = D.contents old in
    let before = left_now D old in
    within (IsStagedOrPublished s known before) (IsOldOrNew before tree s.count) c.publish.ensures.time
    (old_or_new known before (D.block_count old) live s saved log t nodes tree follows given written)

pub returns-clause-kept : goal.returns-clause-kept
returns-clause-kept g c =
    let D = g.D.Device in
    let new = c.publish.new.dev in
    both_ok c.publish.result
    (λ published only. λ t nodes tree written.
    all_new (D.contents c.args.dev.now) (D.contents new) (left_now D new) c.args.s.now t nodes tree c.requires.version written published only)
    c.publish.ensures.published c.publish.ensures.durable

pub returns-clause-open : goal.returns-clause-open
returns-clause-open g c =
    let D = g.D.Device in
    let old = c.args.dev.now in
    let new = c.publish.new.dev in
    both_ok c.publish.result
    (λ published only. λ t table.
    open_new (D.contents old) (D.contents new) (left_now D new) (D.block_count old) (D.block_count new) c.args.s.now t c.requires.fits c.requires.size c.publish.ensures.stays.count table published only)
    c.publish.ensures.published c.publish.ensures.durable
