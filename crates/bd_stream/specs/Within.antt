-- What makes the commands that are given ones within their limits.
use Rattle.std.specs.Prelude.{◌<◌, ℕ, List}
use Rattle.std.specs.List.{AllByRecursion}
use Rattle.bd_names.specs.Names.{AreNames}
use Rattle.bd_command.specs.Command.{IsShortPath}
use Rattle.bd_stream.specs.Importing.{State}

-- each of them is below 256
abbrev pub AreBytes : List ℕ → Type 0
AreBytes bytes = AllByRecursion (λ b. b < 256) bytes

-- the target is made of names, the last entry's path is one for a command, and bytes wait
pub record IsWell (s : State) : Type 0 where
  pub target : AreNames s.target
  pub path : IsShortPath s.path
  pub waiting : AreBytes s.waiting
