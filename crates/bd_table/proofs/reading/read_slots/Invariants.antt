use Rattle.std.proofs.Common.{◌≡◌, ◌*◌, length, IfSome}
use Rattle.bd_device.specs.Device.{OnlyReads}
use Rattle.bd_table.specs.Image.{first_bytes}
use Rattle.bd_table.proofs.reading.read_slots.Given as goal

abbrev pub invariant-loop-k : goal.invariant-loop-k
invariant-loop-k g l =
    record {
      bytes : IfSome (g.D.Device.contents l.initial.dev) (λ image. l.bytes.items ≡ first_bytes image l.at l.k);
      size : length l.bytes.items ≡ 4096 * l.k;
      faults : g.D.Device.fault_count l.dev ≡ g.D.Device.fault_count l.initial.dev;
      reads : OnlyReads g.D.Device l.initial.dev l.dev;
    }
