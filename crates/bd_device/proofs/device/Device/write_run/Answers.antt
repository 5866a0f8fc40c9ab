use Rattle.std.proofs.Common.{◌+◌, arith, ◌∙◌}
use Rattle.bd_device.specs.Changes.{IsInRange}
use Rattle.bd_device.proofs.Changes.{write_more, written_more, stays_both, stays_written, stays_changed}
use Rattle.bd_device.proofs.Calls.{stays_then}
use Rattle.bd_device.proofs.device.Device.write_run.Goals as goal

pub overflow_add-first : goal.overflow_add-first
overflow_add-first g c = omega (arith, c.requires.fits, c.loop-i-test.true)

pub returns-in_err-write-clause-time : goal.returns-in_err-write-clause-time
returns-in_err-write-clause-time g c =
    write_more (IsInRange c.args.first (c.args.first + c.args.count)) (c.args.first + c.loop-i.i) (omega arith, omega arith)
    c.loop-i.invariant.time (g.met.Self.Device.since_earlier c.loop-i.self) c.write.ensures.time

pub returns-in_err-write-clause-others : goal.returns-in_err-write-clause-others
returns-in_err-write-clause-others g c =
    let range = IsInRange c.args.first (c.args.first + c.args.count) in
    let known = g.Self.Device.contents c.loop-i.self in
    let new = g.Self.Device.contents c.write.new.self in
    stays_both range (g.Self.Device.contents c.args.self.now) known new c.loop-i.invariant.others
    (stays_changed range (c.args.first + c.loop-i.i) known new (omega arith, omega arith) c.in_err-write.ensures.others)

pub loop-i-preserved : goal.loop-i-preserved
loop-i-preserved g c =
    let first = c.args.first in
    let range = IsInRange first (first + c.args.count) in
    let b = c.args.first + c.loop-i.i in
    let known = g.Self.Device.contents c.loop-i.self in
    let new = g.Self.Device.contents c.write.new.self in
    record {
      time = write_more range b (omega arith, omega arith) c.loop-i.invariant.time (g.met.Self.Device.since_earlier c.loop-i.self) c.write.ensures.time;
      written = written_more (g.Self.Device.block_count c.write.new.self) first c.loop-i.i c.args.from.now c.nth_block-block.result known new
          (omega (arith, c.requires.room, c.loop-i.invariant.stays.count, c.write.ensures.count, c.loop-i-test.true))
          c.loop-i.invariant.written c.nth_block-block.ensures c.in_ok-write.ensures.written c.write.ensures.shape;
      others = stays_both range (g.Self.Device.contents c.args.self.now) known new c.loop-i.invariant.others
          (stays_written range b c.nth_block-block.result known new (omega arith, omega arith) c.in_ok-write.ensures.written);
      stays = stays_then c.loop-i.invariant.stays (record {
        count = c.write.ensures.count;
        same_name = c.write.ensures.same_name;
        same_loans = c.write.ensures.same_loans;
      });
      faults = c.in_ok-write.ensures.cause.kept ∙ c.loop-i.invariant.faults;
      write_faults = c.in_ok-write.ensures.write_faults ∙ c.loop-i.invariant.write_faults;
    }
