-- What an importer has, and what a piece of a stream does to it.
use Rattle.std.specs.Prelude.{◌≡◌, ℕ, Bool, true, false, List, ◌++◌}
use Rattle.std.specs.declared.option.Option.{Option}
use Rattle.std.specs.declared.option.Option.TheVariants.{None, Some}
use Rattle.bd_command.specs.declared.Command.{Command}
use Rattle.bd_stream.specs.declared.fault.ImportFault.{ImportFault}
use Rattle.bd_stream.specs.declared.fault.ImportFault.TheVariants.{BadStream, LongPath, NoMemory}
use Rattle.bd_stream.specs.declared.importer.Importer.{Importer}
use Rattle.bd_stream.specs.declared.machine.Phase.{Phase}
use Rattle.bd_stream.specs.declared.machine.Phase.TheVariants.{Start, First, Next, Data, Ended, Bad, Long}
use Rattle.bd_stream.specs.Importing.{State, state_of, fed}

-- what an importer has
abbrev pub seen : Importer → State
seen importer = state_of importer.machine

-- why nothing more is taken
abbrev pub fault_in : Phase → Option ImportFault
fault_in Start = None
fault_in First = None
fault_in Next = None
fault_in Data = None
fault_in Ended = None
fault_in Bad = Some BadStream
fault_in Long = Some LongPath

-- a piece was taken, and its commands were added
pub record Takes (old new : State) (had has : List Command) (piece : List ℕ) (why : Option ImportFault) : Type 0 where
  pub state : new ≡ (fed old piece).0
  pub commands : has ≡ had ++ (fed old piece).1
  pub fault : fault_in new.phase ≡ why

-- nothing was taken
pub record TakesNothing (old new : State) (had has : List Command) : Type 0 where
  pub state : new ≡ old
  pub commands : has ≡ had

-- what a fault leaves: all was taken, but where memory was missing
abbrev pub Leaves : ImportFault → State → State → List Command → List Command → List ℕ → Type 0
Leaves BadStream old new had has piece = Takes old new had has piece (Some BadStream)
Leaves LongPath old new had has piece = Takes old new had has piece (Some LongPath)
Leaves NoMemory old new had has piece = TakesNothing old new had has

-- the stream is complete
abbrev pub has_ended : Phase → Bool
has_ended Ended = true
has_ended phase = false
