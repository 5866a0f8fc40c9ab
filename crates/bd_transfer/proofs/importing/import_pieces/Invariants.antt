-- What was taken so far was fed and its commands executed, and neither the device nor the source has failed.
use Rattle.std.proofs.Common.{◌≡◌, ◌-◌, ℕ}
use Rattle.std.specs.declared.option.Option.TheVariants.{None}
use Rattle.bd_device.specs.Device.{Stays}
use Rattle.bd_stream.specs.Feeding.{seen}
use Rattle.bd_stream.specs.Streams.{stream_limit}
use Rattle.bd_stream.specs.Within.{IsWell}
use Rattle.bd_shell.specs.Shell.{ShellAt, acks_in, device_in, stop_in}
use Rattle.bd_transfer.proofs.Arriving.{FedTo}
use Rattle.bd_transfer.proofs.importing.import_pieces.Given as goal

abbrev pub invariant-pieces : goal.invariant-pieces
invariant-pieces g l = record {
  fed : (first : g.row.D.Denot) (since : ℕ) → FedTo l.target (ShellAt g.D.Device first since l.fn.shell) (ShellAt g.D.Device first since l.shell) l.taken l.count (seen l.importer)
      (g.S.Source.left l.fn.src) (g.S.Source.left l.src) (g.S.Source.takes l.fn.src) (g.S.Source.takes l.src);
  well : IsWell (seen l.importer);
  going : stop_in l.shell ≡ None;
  acks : acks_in l.shell ≡ acks_in l.fn.shell;
  device : Stays g.D.Device (device_in l.fn.shell) (device_in l.shell);
  writes : g.D.Device.write_fault_count (device_in l.shell) ≡ g.D.Device.write_fault_count (device_in l.fn.shell);
  failed : g.D.Device.fault_count (device_in l.shell) ≡ g.D.Device.fault_count (device_in l.fn.shell);
  source : g.S.Source.fault_count l.src ≡ g.S.Source.fault_count l.fn.src;
}

abbrev pub decreases-pieces : goal.decreases-pieces
decreases-pieces g l = stream_limit - l.taken
