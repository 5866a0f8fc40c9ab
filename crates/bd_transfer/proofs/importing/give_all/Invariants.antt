-- The first commands were executed, the others are left, and nothing failed.
use Rattle.std.proofs.Common.{◌≡◌, ℕ, length}
use Rattle.std.specs.List.{AllByRecursion}
use Rattle.std.specs.declared.option.Option.TheVariants.{None}
use Rattle.bd_command.specs.Command.{IsCommand}
use Rattle.bd_device.specs.Device.{Stays}
use Rattle.bd_shell.specs.Shell.{ShellAt, acks_in, device_in, stop_in}
use Rattle.bd_transfer.proofs.Gone.{GoneTo}
use Rattle.bd_transfer.proofs.importing.give_all.Given as goal

abbrev pub invariant-commands : goal.invariant-commands
invariant-commands g l = record {
  gone : (first : g.row.D.Denot) (since : ℕ) → GoneTo l.fn.commands.items l.left.items (ShellAt g.D.Device first since l.fn.shell) (ShellAt g.D.Device first since l.shell);
  limits : AllByRecursion IsCommand l.left.items;
  going : stop_in l.shell ≡ None;
  acks : acks_in l.shell ≡ acks_in l.fn.shell;
  device : Stays g.D.Device (device_in l.fn.shell) (device_in l.shell);
  writes : g.D.Device.write_fault_count (device_in l.shell) ≡ g.D.Device.write_fault_count (device_in l.fn.shell);
  count : g.D.Device.fault_count (device_in l.shell) ≡ g.D.Device.fault_count (device_in l.fn.shell);
}

abbrev pub decreases-commands : goal.decreases-commands
decreases-commands g l = length l.left.items
