-- The commands that records of open batches are of.
use Rattle.std.specs.Prelude.{◌≡◌, ⊤, ℕ, List, ◌∷◌, ◌++◌, map, Option, None, Some, All}
use Rattle.bd_command.specs.Log.{log_record}
use Rattle.bd_command.specs.declared.Command.{Command}
use Rattle.bd_device.specs.declared.fault.ImageFault.{ImageFault}
use Rattle.bd_device.specs.declared.fault.ImageFault.TheVariants.{DeviceFault, Damaged, NoMemory}
use Rattle.bd_image.specs.Versions.{IsLoggedIn}
use Rattle.bd_image.specs.Damage.{PlacedRecord, IsNoCommand}
use Rattle.bd_checkpoint.specs.declared.commands.PlacedCommand.{PlacedCommand}

-- an image of this version has such a command in its log
abbrev pub IsPlacedIn : ℕ → PlacedCommand → Type 0
IsPlacedIn version p = IsLoggedIn version p.command

-- its record, with its block
abbrev pub placed_record : PlacedCommand → PlacedRecord
placed_record p = (p.block, log_record p.command)

-- the records of commands, in order
abbrev pub records_for : List PlacedCommand → List PlacedRecord
records_for list = map placed_record list

-- the records of one batch
abbrev pub placed_in : ℕ → List (List ℕ) → List PlacedRecord
placed_in body records = map (λ r. (body, r)) records

-- exactly these records are those of these commands, which an image of this version has in its log
pub record AreCommandsOf (version : ℕ) (records : List PlacedRecord) (list : List PlacedCommand)
    : Type 0 where
  pub each : All (IsPlacedIn version) list
  pub same : records_for list ≡ records

-- the first of the records that is of no command has this block: before it stand those of commands
pub record StopsAt (version : ℕ) (records : List PlacedRecord) (block : ℕ) : Type 0 where
  pub front : List PlacedCommand
  pub bytes : List ℕ
  pub rest : List PlacedRecord
  pub each : All (IsPlacedIn version) front
  pub there : records ≡ records_for front ++ (block, bytes) ∷ rest
  pub none : IsNoCommand version bytes

-- why the commands of records aren't all there: one is of none, or there is no memory
abbrev pub IsCommandFault : ℕ → List PlacedRecord → ImageFault → Type 0
IsCommandFault version records DeviceFault = ⊥
IsCommandFault version records (Damaged block) = StopsAt version records block
IsCommandFault version records NoMemory = ⊤

-- the bytes are the record of a command that an image of this version has in its log, or of none
abbrev pub IsRecordOf : ℕ → List ℕ → Option Command → Type 0
IsRecordOf version bytes (Some c) = IsLoggedIn version c × (bytes ≡ log_record c)
IsRecordOf version bytes None = IsNoCommand version bytes
