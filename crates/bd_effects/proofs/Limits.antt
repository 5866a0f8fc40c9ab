-- The limits of commands.
use Rattle.std.proofs.Common.{◌≤◌, lit≤}
use Rattle.bd_limits.specs.Limits.{late_limit}
use Rattle.bd_command.specs.Command.{IsCommand}
use Rattle.bd_command.specs.declared.Command.{Command}
use Rattle.bd_command.specs.declared.Command.TheVariants.{Mkdir, Create, Write, Truncate, Remove, Rename, Clone, Chmod, Read, Stat, List as Ls}
use Rattle.bd_dirs.specs.Kinds.{Kind, Reads, Sends, SendsLate, Grafts, kind_of}
use Rattle.bd_dirs.specs.Plans.{HasSize}
use Rattle.bd_view.specs.Trees.{limit_of, waiting_limit}

kind_low : (kind : Kind) → limit_of kind ≤ late_limit
kind_low Reads = lit≤ tt
kind_low Sends = lit≤ tt
kind_low SendsLate = lit≤ tt
kind_low (Grafts s d keep) = lit≤ tt

-- where no more bytes wait than a command's limit, there is room
pub limit_low : (c : Command) → waiting_limit c ≤ late_limit
limit_low c = kind_low (kind_of c)

-- a command within its limits carries as much as it may
pub command_size : (c : Command) → IsCommand c → HasSize c
command_size (Mkdir path) h = tt
command_size (Create path) h = tt
command_size (Write path off bytes) h = (h.2.0, h.2.1)
command_size (Truncate path len) h = tt
command_size (Remove path) h = tt
command_size (Rename a b) h = tt
command_size (Clone a b) h = tt
command_size (Chmod path mode) h = tt
command_size (Read path off len) h = tt
command_size (Stat path) h = tt
command_size (Ls path after) h = tt
