use Rattle.std.proofs.Common.{◌≡◌, ◌<◌, ◌+◌, arith, subst, ◌∙◌}
use Rattle.std.specs.Prelude.{IfSome}
use Rattle.bd_device.proofs.Calls.{reads_then}
use Rattle.bd_log.specs.Batches.{body_blocks}
use Rattle.bd_log.specs.Reading.{IsNextBatch}
use Rattle.bd_log.proofs.Bodies.{follow_more}
use Rattle.bd_log.proofs.read.read_batches.Goals as goal

pub loop-batches-preserved : goal.loop-batches-preserved
loop-batches-preserved g c =
    let known = g.D.Device.contents c.args.dev.now in
    let now = g.D.Device.contents c.loop-batches.dev in
    let place = c.loop-batches.place in
    let count = c.in-Some.blocks in
    let next = subst (λ found. IfSome now (λ image. IsNextBatch image c.args.first c.args.epoch place found)) c.in-Some.is c.in_ok-batch.ensures.next in
    let size = subst (λ found. IfSome found (λ f. (f.1 ≡ body_blocks f.0.records) × (place + 1 + f.1 < 64))) c.in-Some.is c.in_ok-batch.ensures.blocks in
    record {
      follow = follow_more known now c.args.first c.args.epoch place count c.loop-batches.batches.items c.push.new.self.items c.in-Some.batch
          c.loop-batches.invariant.reads.kept c.loop-batches.invariant.follow next size.0 c.in_ok-push.ensures.items;
      within = omega (arith, size.1);
      buffer = omega (arith, c.next_batch.auto.buffer, c.loop-batches.invariant.buffer);
      reads = reads_then c.loop-batches.invariant.reads c.next_batch.ensures.reads;
      faults = c.in_ok-batch.ensures.cause.kept ∙ c.loop-batches.invariant.faults;
    }
