use Rattle.std.proofs.Common.{◌≡◌, ◌*◌, take}
use Rattle.std.specs.Prelude.{IfSome}
use Rattle.bd_device.specs.Changes.{bytes_at}
use Rattle.bd_device.specs.Device.{OnlyReads}
use Rattle.bd_device.proofs.device.Device.read_run.Given as goal

-- so many blocks are read so far
abbrev pub invariant-loop-i : goal.invariant-loop-i
invariant-loop-i g l = record {
  bytes : IfSome (g.Self.Device.contents l.fn.self) (λ image. take (l.i * 4096) l.into ≡ bytes_at image l.first l.i);
  reads : OnlyReads g.Self.Device l.fn.self l.self;
  faults : g.Self.Device.fault_count l.self ≡ g.Self.Device.fault_count l.fn.self;
}
