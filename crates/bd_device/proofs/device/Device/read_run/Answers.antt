use Rattle.std.proofs.Common.{arith, ◌∙◌}
use Rattle.bd_device.proofs.Calls.{reads_then}
use Rattle.bd_device.proofs.Changes.{read_more}
use Rattle.bd_device.proofs.device.Device.read_run.Goals as goal

pub loop-i-preserved : goal.loop-i-preserved
loop-i-preserved g c = record {
  bytes = read_more c.args.first c.loop-i.i (g.Self.Device.contents c.args.self.now) (g.Self.Device.contents c.loop-i.self) c.loop-i.into c.read.new.into c.put.new.into
      c.loop-i.invariant.reads.kept c.loop-i.invariant.bytes c.in_ok-read.ensures.bytes c.read.array_long (omega (arith, c.loop-i.auto.into, c.requires.length, c.loop-i-test.true)) c.put.ensures;
  reads = reads_then c.loop-i.invariant.reads (record {
    kept = c.read.ensures.kept;
    count = c.read.ensures.count;
    write_faults = c.read.ensures.write_faults;
    time = c.read.ensures.time;
    same_name = c.read.ensures.same_name;
    same_loans = c.read.ensures.same_loans;
  });
  faults = c.in_ok-read.ensures.cause.kept ∙ c.loop-i.invariant.faults;
}
