-- A front of the piece was fed, and neither the device nor the sink has failed.
use Rattle.std.proofs.Common.{◌≡◌, ℕ, length, None}
use Rattle.bd_device.specs.Device.{Stays}
use Rattle.bd_sessions.specs.Spoken.{Single}
use Rattle.bd_shell.specs.Transcript.{output}
use Rattle.bd_shell.specs.Shell.{ShellAt, acks_in, held_of, device_in, stop_in, counts_of}
use Rattle.bd_shell.proofs.Feeding.{FedTo}
use Rattle.bd_shell.proofs.shell.Shell.feed.Given as goal

abbrev pub invariant-lines : goal.invariant-lines
invariant-lines g l = record {
  fed : (first : g.row.D.Denot) (since : ℕ) → FedTo Single (ShellAt g.D.Device first since l.fn.self) (ShellAt g.D.Device first since l.self) (held_of l.fn.self) l.piece l.rest (held_of l.self)
      (output (g.K.Sink.written l.fn.sink) (acks_in l.fn.self)) (output (g.K.Sink.written l.sink) (acks_in l.self));
  going : stop_in l.self ≡ None;
  device : Stays g.D.Device (device_in l.fn.self) (device_in l.self);
  writes : g.D.Device.write_fault_count (device_in l.self) ≡ g.D.Device.write_fault_count (device_in l.fn.self);
  counts : counts_of g.D.Device (device_in l.self) (g.K.Sink.fault_count l.sink)
      ≡ counts_of g.D.Device (device_in l.fn.self) (g.K.Sink.fault_count l.fn.sink);
}

abbrev pub decreases-lines : goal.decreases-lines
decreases-lines g l = length l.rest
