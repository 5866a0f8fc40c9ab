use Rattle.std.proofs.Common.{◌+◌, ◌-◌, arith, subst, ◌∙◌}
use Rattle.std.specs.Prelude.{IfSome}
use Rattle.bd_log.specs.Reading.{IsBodyRead}
use Rattle.bd_log.proofs.Bodies.{broken}
use Rattle.bd_log.proofs.read.next_batch.Goals as goal

pub returns-in-None-clause-cause : goal.returns-in-None-clause-cause
returns-in-None-clause-cause g c =
    let none = subst (λ found. IfSome (g.D.Device.contents c.read_block.new.dev) (λ image. IsBodyRead image (c.args.first + c.args.place + 1) (62 - c.args.place) c.args.epoch found)) c.in-None.is c.in_ok-records.ensures.body in
    record {
      later = omega (arith, c.read_block.ensures.cause.later, c.read_body.ensures.cause.later);
      kept = tt;
      failed = (
        broken (g.D.Device.contents c.args.dev.now) (g.D.Device.contents c.read_block.new.dev) c.args.first c.args.epoch c.args.place c.in_ok-read_block.field-0
            c.read_block.ensures.reads.kept c.in_ok-read_block.ensures.bytes (c.is_committed.ensures.0 c.if-not-is_committed.false) none,
        c.in_ok-records.ensures.cause.kept ∙ c.in_ok-read_block.ensures.cause.kept,
      );
    }
