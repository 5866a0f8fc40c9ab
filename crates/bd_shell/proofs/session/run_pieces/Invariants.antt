-- What was taken so far is executed, and neither the device, the source nor the sink has failed.
use Rattle.std.proofs.Common.{◌≡◌, ◌-◌, ℕ}
use Rattle.std.specs.declared.option.Option.TheVariants.{None}
use Rattle.bd_device.specs.Device.{Stays}
use Rattle.bd_limits.specs.Limits.{script_limit}
use Rattle.bd_sessions.specs.Spoken.{Single}
use Rattle.bd_shell.specs.Transcript.{output}
use Rattle.bd_shell.specs.Shell.{ShellAt, acks_in, device_in, held_of, stop_in}
use Rattle.bd_shell.proofs.Scripts.{Stands}
use Rattle.bd_shell.proofs.session.run_pieces.Given as goal

abbrev pub invariant-pieces : goal.invariant-pieces
invariant-pieces g l = record {
  stands : (first : g.row.D.Denot) (since : ℕ) → Stands Single (ShellAt g.D.Device first since l.fn.shell) (ShellAt g.D.Device first since l.shell) (held_of l.shell) l.taken
      (g.S.Source.left l.fn.src) (g.S.Source.left l.src) (output (g.K.Sink.written l.fn.sink) (acks_in l.fn.shell)) (output (g.K.Sink.written l.sink) (acks_in l.shell))
      (g.S.Source.takes l.fn.src) (g.S.Source.takes l.src);
  going : stop_in l.shell ≡ None;
  device : Stays g.D.Device (device_in l.fn.shell) (device_in l.shell);
  writes : g.D.Device.write_fault_count (device_in l.shell) ≡ g.D.Device.write_fault_count (device_in l.fn.shell);
  count : g.D.Device.fault_count (device_in l.shell) ≡ g.D.Device.fault_count (device_in l.fn.shell);
  source : g.S.Source.fault_count l.src ≡ g.S.Source.fault_count l.fn.src;
  sink : g.K.Sink.fault_count l.sink ≡ g.K.Sink.fault_count l.fn.sink;
}

abbrev pub decreases-pieces : goal.decreases-pieces
decreases-pieces g l = script_limit - l.taken
