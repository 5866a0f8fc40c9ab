-- What was asked so far was answered and written, less is left after each answer, and nothing failed.
use Rattle.std.proofs.Common.{◌≡◌, ℕ}
use Rattle.std.specs.declared.option.Option.TheVariants.{None}
use Rattle.bd_device.specs.Device.{Stays}
use Rattle.bd_stream.specs.Answering.{seen, why_not}
use Rattle.bd_stream.proofs.EndLemmas.{IsFair, measure}
use Rattle.bd_shell.specs.Shell.{ShellAt, acks_in, device_in, stop_in}
use Rattle.bd_transfer.proofs.Asked.{Going}
use Rattle.bd_transfer.proofs.exporting.ask_all.Given as goal

abbrev pub invariant-questions : goal.invariant-questions
invariant-questions g l = record {
  asked : (first : g.row.D.Denot) (since : ℕ) → Going l.top (ShellAt g.D.Device first since l.fn.shell) (ShellAt g.D.Device first since l.shell) (seen l.exporter)
      (g.K.Sink.written l.fn.sink) (g.K.Sink.written l.sink);
  fair : IsFair (seen l.exporter);
  why : why_not (seen l.exporter).stage ≡ None;
  going : stop_in l.shell ≡ None;
  acks : acks_in l.shell ≡ acks_in l.fn.shell;
  device : Stays g.D.Device (device_in l.fn.shell) (device_in l.shell);
  writes : g.D.Device.write_fault_count (device_in l.shell) ≡ g.D.Device.write_fault_count (device_in l.fn.shell);
  count : g.D.Device.fault_count (device_in l.shell) ≡ g.D.Device.fault_count (device_in l.fn.shell);
  sink : g.K.Sink.fault_count l.sink ≡ g.K.Sink.fault_count l.fn.sink;
}

abbrev pub decreases-questions : goal.decreases-questions
decreases-questions g l = measure (seen l.exporter)
