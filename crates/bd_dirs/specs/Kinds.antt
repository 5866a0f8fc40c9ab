-- What a command does with a key map.
use Rattle.std.specs.Prelude.{ℕ, Bool, true, false, List}
use Rattle.bd_names.specs.Names.{key_of}
use Rattle.bd_command.specs.declared.Command.{Command}
use Rattle.bd_command.specs.declared.Command.TheVariants.{Mkdir, Create, Write, Truncate, Remove, Rename, Clone, Chmod, Read, Stat, List as Ls}

-- it reads, sends messages, sends messages that free room, or grafts the keys that begin with one
-- prefix to another, where they stay or not
pub data Kind : Type 0 where
  Reads : Kind
  Sends : Kind
  SendsLate : Kind
  Grafts : (s d : List ℕ) (keep : Bool) → Kind

-- what the command does
abbrev pub kind_of : Command → Kind
kind_of (Mkdir path) = Sends
kind_of (Create path) = Sends
kind_of (Write path off bytes) = Sends
kind_of (Truncate path len) = SendsLate
kind_of (Remove path) = SendsLate
kind_of (Rename a b) = Grafts (key_of a) (key_of b) false
kind_of (Clone a b) = Grafts (key_of a) (key_of b) true
kind_of (Chmod path mode) = Sends
kind_of (Read path off len) = Reads
kind_of (Stat path) = Reads
kind_of (Ls path after) = Reads
