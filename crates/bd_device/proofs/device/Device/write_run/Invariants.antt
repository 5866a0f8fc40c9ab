use Rattle.std.proofs.Common.{◌≡◌, ◌+◌, ◌*◌, take}
use Rattle.std.specs.Prelude.{IfSome}
use Rattle.bd_device.specs.Changes.{StaysBut, IsBeforeBut, IsInRange, bytes_at}
use Rattle.bd_device.specs.Device.{left_now, Goes, Stays}
use Rattle.bd_device.proofs.device.Device.write_run.Given as goal

-- so many blocks are written so far
abbrev pub invariant-loop-i : goal.invariant-loop-i
invariant-loop-i g l = record {
  time : Goes g.Self.Device l.fn.self l.self (IsBeforeBut (IsInRange l.first (l.first + l.count)) (left_now g.Self.Device l.fn.self));
  written : IfSome (g.Self.Device.contents l.self) (λ image. bytes_at image l.first l.i ≡ take (l.i * 4096) l.from);
  others : StaysBut (IsInRange l.first (l.first + l.count)) (g.Self.Device.contents l.fn.self) (g.Self.Device.contents l.self);
  stays : Stays g.Self.Device l.fn.self l.self;
  faults : g.Self.Device.fault_count l.self ≡ g.Self.Device.fault_count l.fn.self;
  write_faults : g.Self.Device.write_fault_count l.self ≡ g.Self.Device.write_fault_count l.fn.self;
}
