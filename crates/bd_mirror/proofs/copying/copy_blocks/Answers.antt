use Rattle.std.proofs.Common.{refl, sym, subst, arith, ◌∙◌, Option}
use Rattle.bd_device.specs.Blocks.{Image}
use Rattle.bd_device.specs.Changes.{StaysBut, IsInRange, IsBeforeBut}
use Rattle.bd_device.specs.Device.{left_now}
use Rattle.bd_device.specs.Moments.{Nothing}
use Rattle.bd_device.proofs.Calls.{reads_then, stays_then}
use Rattle.bd_device.proofs.Changes.{stays_same, stays_both, stays_written, stays_changed, write_more}
use Rattle.bd_device.proofs.Moments.{goes_on}
use Rattle.bd_mirror.proofs.Copies.{elapses_none, reads_none, stays_none, not_err, is_err_then, is_ok_then, copy_none, copied_more, copied_now}
use Rattle.bd_mirror.proofs.copying.copy_blocks.Goals as goal

pub loop-b-init : goal.loop-b-init
loop-b-init g c =
    let source = c.args.source.now in
    let copy = c.args.copy.now in
    record {
      reads = reads_none g.S.Device source;
      faults = refl;
      stays = stays_none g.C.Device copy;
      later = omega arith;
      copied = copy_none (g.S.Device.contents source) (g.C.Device.contents copy);
      others = stays_same (IsInRange 0 c.args.count) (g.C.Device.contents copy);
      time = elapses_none (g.C.Device.call_count copy) (g.C.Device.left_since copy) (IsBeforeBut (IsInRange 0 c.args.count) (left_now g.C.Device copy));
    }

pub loop-b-preserved : goal.loop-b-preserved
loop-b-preserved g c =
    let b = c.loop-b.b in
    let range = IsInRange 0 c.args.count in
    let known = g.C.Device.contents c.loop-b.copy in
    let new = g.C.Device.contents c.write.new.self in
    let written = not_err c.write.result (sym c.is_err.ensures.value ∙ c.if-is_err.false) c.write.ensures.written in
    record {
      reads = reads_then c.loop-b.invariant.reads c.read_block.ensures.reads;
      faults = c.in_ok-block.ensures.cause.kept ∙ c.loop-b.invariant.faults;
      stays = stays_then c.loop-b.invariant.stays (record {
        count = c.write.ensures.count;
        same_name = c.write.ensures.same_name;
        same_loans = c.write.ensures.same_loans;
      });
      later = omega (arith, c.loop-b.invariant.later, c.write.ensures.cause.later);
      copied = copied_more b (g.C.Device.block_count c.write.new.self) c.in_ok-block.block (g.S.Device.contents c.args.source.now) (g.S.Device.contents c.loop-b.source) known new
          c.loop-b.invariant.reads.kept c.in_ok-block.ensures.bytes
          (omega (arith, c.requires.copy_room, c.loop-b.invariant.stays.count, c.write.ensures.count, c.loop-b-test.true))
          written c.write.ensures.shape c.loop-b.invariant.copied;
      others = stays_both range (g.C.Device.contents c.args.copy.now) known new c.loop-b.invariant.others
          (stays_written range b c.in_ok-block.block known new (omega arith, c.loop-b-test.true) written);
      time = write_more range b (omega arith, c.loop-b-test.true) c.loop-b.invariant.time (g.met.C.Device.since_earlier c.loop-b.copy) c.write.ensures.time;
    }

pub returns-then-is_err-clause-time : goal.returns-then-is_err-clause-time
returns-then-is_err-clause-time g c =
    write_more (IsInRange 0 c.args.count) c.loop-b.b (omega arith, c.loop-b-test.true) c.loop-b.invariant.time (g.met.C.Device.since_earlier c.loop-b.copy) c.write.ensures.time

pub returns-then-is_err-clause-others : goal.returns-then-is_err-clause-others
returns-then-is_err-clause-others g c =
    let range = IsInRange 0 c.args.count in
    let known = g.C.Device.contents c.loop-b.copy in
    let new = g.C.Device.contents c.write.new.self in
    stays_both range (g.C.Device.contents c.args.copy.now) known new c.loop-b.invariant.others
    (stays_changed range c.loop-b.b known new (omega arith, c.loop-b-test.true) (is_err_then c.write.result (sym c.is_err.ensures.value ∙ c.if-is_err.true) c.write.ensures.others))

pub returns-clause-copied : goal.returns-clause-copied
returns-clause-copied g c = λ _.
    copied_now c.args.count c.loop-b.b (g.S.Device.contents c.args.source.now) (g.C.Device.contents c.loop-b.copy) (g.C.Device.contents c.barrier.new.self)
    (omega (arith, c.loop-b-test.false, c.loop-b.auto.b-end)) c.barrier.ensures.kept c.loop-b.invariant.copied

pub returns-clause-others : goal.returns-clause-others
returns-clause-others g c =
    subst (λ (known : Option Image). StaysBut (IsInRange 0 c.args.count) (g.C.Device.contents c.args.copy.now) known) (sym c.barrier.ensures.kept) c.loop-b.invariant.others

pub returns-clause-durable : goal.returns-clause-durable
returns-clause-durable g c = λ took.
    is_ok_then c.barrier.result (sym c.is_ok.ensures.value ∙ took) c.barrier.ensures.durable (omega (arith, c.requires.copy_room, c.loop-b.invariant.stays.count))

pub returns-clause-time : goal.returns-clause-time
returns-clause-time g c =
    goes_on (IsBeforeBut (IsInRange 0 c.args.count) (left_now g.C.Device c.args.copy.now)) Nothing c.loop-b.invariant.time c.barrier.ensures.time (λ image none. absurd none)
