use Rattle.std.proofs.Common.{◌+◌, refl, arith}
use Rattle.bd_device.proofs.Moments.{within}
use Rattle.bd_wire.specs.Text.{zeros}
use Rattle.bd_device.specs.Changes.{IsBeforeBut, IsInRange}
use Rattle.bd_device.proofs.Changes.{before_wider, stays_both, stays_wider, stays_written, stays_changed}
use Rattle.bd_log.specs.Commits.{IsNoneOrWhole}
use Rattle.bd_log.proofs.Images.{body_time, commit_time, commit_whole, none_yet, settled}
use Rattle.bd_log.proofs.commit.write_committed.Goals as goal

pub returns-in_err-write_blocks-clause-time : goal.returns-in_err-write_blocks-clause-time
returns-in_err-write_blocks-clause-time g c =
    let commit = c.args.commit in
    let blocks = c.args.blocks in
    let before = g.D.Device.left_since c.args.dev.now (g.D.Device.call_count c.args.dev.now) in
    within (IsBeforeBut (IsInRange (commit + 1) (commit + 1 + blocks)) before) (IsNoneOrWhole commit blocks c.args.body.now before) c.write_blocks.ensures.time
    (λ image h. none_yet commit blocks c.args.body.now before image (before_wider (IsInRange (commit + 1) (commit + 1 + blocks)) (IsInRange (commit + 1) (commit + blocks + 2)) before image (λ i is. (is.0, omega (arith, is.1))) h))

pub returns-in_err-write_blocks-clause-others : goal.returns-in_err-write_blocks-clause-others
returns-in_err-write_blocks-clause-others g c =
    let commit = c.args.commit in
    let blocks = c.args.blocks in
    stays_wider (IsInRange (commit + 1) (commit + 1 + blocks)) (IsInRange commit (commit + blocks + 2)) (g.D.Device.contents c.args.dev.now) (g.D.Device.contents c.write_blocks.new.dev)
    (λ i is. (omega (arith, is.0), omega (arith, is.1))) c.write_blocks.ensures.others

pub returns-in_err-settle-clause-time : goal.returns-in_err-settle-clause-time
returns-in_err-settle-clause-time g c =
    let commit = c.args.commit in
    let blocks = c.args.blocks in
    let before = g.D.Device.left_since c.args.dev.now (g.D.Device.call_count c.args.dev.now) in
    within (IsBeforeBut (IsInRange (commit + 1) (commit + blocks + 2)) before) (IsNoneOrWhole commit blocks c.args.body.now before)
    (body_time commit blocks c.write_blocks.ensures.time (g.met.D.Device.since_earlier c.write_blocks.new.dev) c.settle.ensures.time)
    (none_yet commit blocks c.args.body.now before)

pub returns-in_err-settle-clause-others : goal.returns-in_err-settle-clause-others
returns-in_err-settle-clause-others g c =
    let commit = c.args.commit in
    let blocks = c.args.blocks in
    let range = IsInRange commit (commit + blocks + 2) in
    let known = g.D.Device.contents c.args.dev.now in
    let known1 = g.D.Device.contents c.write_blocks.new.dev in
    let known2 = g.D.Device.contents c.settle.new.dev in
    let body = stays_wider (IsInRange (commit + 1) (commit + 1 + blocks)) range known known1 (λ i is. (omega (arith, is.0), omega (arith, is.1))) c.write_blocks.ensures.others in
    stays_both range known known1 known2 body (stays_changed range (commit + 1 + blocks) known1 known2 (omega arith, omega arith) c.in_err-settle.ensures.others)

pub returns-in_err-settle-2-clause-time : goal.returns-in_err-settle-2-clause-time
returns-in_err-settle-2-clause-time g c =
    let commit = c.args.commit in
    let blocks = c.args.blocks in
    let known = g.D.Device.contents c.settle.new.dev in
    commit_time commit blocks c.args.body.now known
    (body_time commit blocks c.write_blocks.ensures.time (g.met.D.Device.since_earlier c.write_blocks.new.dev) c.settle.ensures.time)
    (g.met.D.Device.since_earlier c.settle.new.dev) c.in_ok-settle.ensures.durable
    (λ image is. settled (g.D.Device.block_count c.settle.new.dev) commit blocks c.args.body.now (zeros 4096) (g.D.Device.contents c.write_blocks.new.dev) known image
    (omega (arith, c.requires.room, c.settle.ensures.stays.count, c.write_blocks.ensures.stays.count)) c.requires.body c.in_ok-write_blocks.ensures.written refl
    c.in_ok-settle.ensures.written c.settle.ensures.shape is)
    c.settle-2.ensures.time

pub returns-in_err-settle-2-clause-others : goal.returns-in_err-settle-2-clause-others
returns-in_err-settle-2-clause-others g c =
    let commit = c.args.commit in
    let blocks = c.args.blocks in
    let range = IsInRange commit (commit + blocks + 2) in
    let known = g.D.Device.contents c.args.dev.now in
    let known1 = g.D.Device.contents c.write_blocks.new.dev in
    let known2 = g.D.Device.contents c.settle.new.dev in
    let body = stays_wider (IsInRange (commit + 1) (commit + 1 + blocks)) range known known1 (λ i is. (omega (arith, is.0), omega (arith, is.1))) c.write_blocks.ensures.others in
    let known3 = g.D.Device.contents c.settle-2.new.dev in
    stays_both range known known2 known3
    (stays_both range known known1 known2 body (stays_written range (commit + 1 + blocks) (zeros 4096) known1 known2 (omega arith, omega arith) c.in_ok-settle.ensures.written))
    (stays_changed range commit known2 known3 (omega arith, omega arith) c.in_err-settle-2.ensures.others)

pub returns-clause-time : goal.returns-clause-time
returns-clause-time g c =
    let commit = c.args.commit in
    let blocks = c.args.blocks in
    let known = g.D.Device.contents c.settle.new.dev in
    commit_time commit blocks c.args.body.now known
    (body_time commit blocks c.write_blocks.ensures.time (g.met.D.Device.since_earlier c.write_blocks.new.dev) c.settle.ensures.time)
    (g.met.D.Device.since_earlier c.settle.new.dev) c.in_ok-settle.ensures.durable
    (λ image is. settled (g.D.Device.block_count c.settle.new.dev) commit blocks c.args.body.now (zeros 4096) (g.D.Device.contents c.write_blocks.new.dev) known image
    (omega (arith, c.requires.room, c.settle.ensures.stays.count, c.write_blocks.ensures.stays.count)) c.requires.body c.in_ok-write_blocks.ensures.written refl
    c.in_ok-settle.ensures.written c.settle.ensures.shape is)
    c.settle-2.ensures.time

pub returns-clause-whole : goal.returns-clause-whole
returns-clause-whole g c =
    let commit = c.args.commit in
    let blocks = c.args.blocks in
    let known = g.D.Device.contents c.settle.new.dev in
    commit_whole commit blocks c.args.body.now c.committed_block.result known (g.D.Device.contents c.settle-2.new.dev)
    (body_time commit blocks c.write_blocks.ensures.time (g.met.D.Device.since_earlier c.write_blocks.new.dev) c.settle.ensures.time)
    (g.met.D.Device.since_earlier c.settle.new.dev) (g.met.D.Device.since_earlier c.settle-2.new.dev) c.in_ok-settle.ensures.durable
    (λ image is. settled (g.D.Device.block_count c.settle.new.dev) commit blocks c.args.body.now (zeros 4096) (g.D.Device.contents c.write_blocks.new.dev) known image
    (omega (arith, c.requires.room, c.settle.ensures.stays.count, c.write_blocks.ensures.stays.count)) c.requires.body c.in_ok-write_blocks.ensures.written refl
    c.in_ok-settle.ensures.written c.settle.ensures.shape is)
    c.settle-2.ensures.time c.in_ok-settle-2.ensures.written c.in_ok-settle-2.ensures.durable c.committed_block.ensures

pub returns-clause-others : goal.returns-clause-others
returns-clause-others g c =
    let commit = c.args.commit in
    let blocks = c.args.blocks in
    let range = IsInRange commit (commit + blocks + 2) in
    let known = g.D.Device.contents c.args.dev.now in
    let known1 = g.D.Device.contents c.write_blocks.new.dev in
    let known2 = g.D.Device.contents c.settle.new.dev in
    let body = stays_wider (IsInRange (commit + 1) (commit + 1 + blocks)) range known known1 (λ i is. (omega (arith, is.0), omega (arith, is.1))) c.write_blocks.ensures.others in
    let known3 = g.D.Device.contents c.settle-2.new.dev in
    stays_both range known known2 known3
    (stays_both range known known1 known2 body (stays_written range (commit + 1 + blocks) (zeros 4096) known1 known2 (omega arith, omega arith) c.in_ok-settle.ensures.written))
    (stays_written range commit c.committed_block.result known2 known3 (omega arith, omega arith) c.in_ok-settle-2.ensures.written)
