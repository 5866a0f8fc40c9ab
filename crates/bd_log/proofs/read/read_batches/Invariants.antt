use Rattle.std.proofs.Common.{◌≡◌, ◌-◌, ◌≤◌, length}
use Rattle.std.specs.Prelude.{IfSome}
use Rattle.bd_device.specs.Device.{OnlyReads}
use Rattle.bd_log.specs.Batches.{AreChained}
use Rattle.bd_log.proofs.read.read_batches.Given as goal

-- these batches follow each other up to a place
abbrev pub invariant-loop-batches : goal.invariant-loop-batches
invariant-loop-batches g l = record {
  follow : IfSome (g.D.Device.contents l.fn.dev) (λ image. AreChained image l.first l.epoch 0 l.batches.items l.place);
  within : l.place ≤ 63;
  buffer : length l.buffer ≡ 253952;
  reads : OnlyReads g.D.Device l.fn.dev l.dev;
  faults : g.D.Device.fault_count l.dev ≡ g.D.Device.fault_count l.fn.dev;
}

-- each batch takes a block or more
abbrev pub decreases-loop-batches : goal.decreases-loop-batches
decreases-loop-batches g l = 64 - l.place
