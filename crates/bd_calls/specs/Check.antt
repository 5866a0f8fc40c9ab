-- What checking an image says of its device and of its sink.
use Rattle.std.specs.Prelude.{◌≡◌, ◌⊎◌, ℕ, ◌<◌, [], length, IfSome, IsSomeAnd, ⊤}
use Rattle.std.specs.declared.option.Option.{Option}
use Rattle.std.specs.declared.option.Option.TheVariants.{Some}
use Rattle.std.specs.declared.result.Result.{Result}
use Rattle.std.specs.declared.result.Result.TheVariants.{Ok, Err}
use Rattle.bd_io.specs.Cause.{next_count}
use Rattle.bd_model.specs.Tree.{Tree}
use Rattle.bd_device.specs.Blocks.{Image}
use Rattle.bd_device.specs.Moments.{Nothing, Elapses}
use Rattle.bd_image.specs.ImageTree.{ImageStandsFor}
use Rattle.bd_volume.specs.Wears.{WearsReplaying}
use Rattle.bd_check.specs.Lines.{verdict_line}
use Rattle.bd_check.specs.declared.fault.CheckFault.{CheckFault}
use Rattle.bd_check.specs.declared.fault.CheckFault.TheVariants as check
use Rattle.bd_check.specs.declared.verdict.Verdict.{Verdict}
use Rattle.bd_check.specs.declared.verdict.Verdict.TheVariants.{Yes, BadBlock, BadNode, Limit}
use Rattle.bd_shell.specs.declared.fault.Fault.{Fault}
use Rattle.bd_shell.specs.declared.fault.Fault.TheVariants.{Device, Damaged, Source, Memory, TooLong, Worn, Sink}
use Rattle.bd_shell.specs.Fault.{status_of, fault_line}
use Rattle.bd_shell.specs.Transcript.{Known}
use Rattle.bd_calls.specs.Fill.{TellsLine, WritesSome}
use Rattle.bd_calls.specs.Work.{Disk, IsUnopened}

-- the status of a verdict: 10 where the image stands for no tree, or that isn't found out
abbrev pub verdict_status : Verdict → ℕ
verdict_status (Yes nodes keys count) = 0
verdict_status (BadBlock block) = 10
verdict_status (BadNode id) = 10
verdict_status Limit = 10

-- what was found, with the fault of the program
abbrev pub IsAnswer : Result Verdict CheckFault → Result Verdict Fault → Type 0
IsAnswer (Ok verdict) answer = answer ≡ Ok verdict
IsAnswer (Err check.DeviceFault) answer = answer ≡ Err Device
IsAnswer (Err (check.Worn which)) answer = answer ≡ Err (Worn which)
IsAnswer (Err check.NoMemory) answer = answer ≡ Err Memory

-- what comes before a verdict: a fault of the device, want of memory, or a counter that has no room
-- for a command of the image's log, as far as the image is known
abbrev pub KeepsFromAnswering : Option Image → Fault → Type 0
KeepsFromAnswering known Device = ⊤
KeepsFromAnswering known (Damaged block) = ⊥
KeepsFromAnswering known Source = ⊥
KeepsFromAnswering known Memory = ⊤
KeepsFromAnswering known TooLong = ⊥
KeepsFromAnswering known (Worn which) = IfSome known (λ image. WearsReplaying which image)
KeepsFromAnswering known Sink = ⊥

-- a yes is of an image that stands for a tree and for its count
abbrev pub HasFoundTree : Image → Verdict → Type 0
HasFoundTree image (Yes nodes keys count) = (tree : Tree) × ImageStandsFor tree count image
HasFoundTree image (BadBlock block) = ⊤
HasFoundTree image (BadNode id) = ⊤
HasFoundTree image Limit = ⊤

-- no block was written: the image stays as it is shown, at most one write or barrier failed, which
-- is the barrier, and a crash inside the calls leaves nothing that one before them might not have
-- left; since the barrier, which returns after so many calls, it leaves what was shown, of an image
-- that has blocks, unless the barrier wasn't made or failed
pub record KeepsImage (settled : ℕ) (before now : Disk) : Type 0 where
  pub image : now.image ≡ before.image
  pub write_faults : (now.write_faults ≡ before.write_faults)
      ⊎ (now.write_faults ≡ next_count before.write_faults)
  pub stopped : Elapses before.calls now.calls before.left now.left Nothing
  pub opened : IsSomeAnd before.image (λ image. 0 < length image)
      → ((c : Image) → now.left settled c → before.image ≡ Some c)
      ⊎ IsUnopened settled [] before now

-- the line of what was found out is written, or that of the fault before
abbrev pub TellsVerdict : Result Verdict Fault → ℕ → Known → Known → ℕ → ℕ → Type 0
TellsVerdict (Ok verdict) status old new before now =
    TellsLine (verdict_status verdict) status (verdict_line verdict) old new before now
TellsVerdict (Err e) status old new before now =
    (status ≡ status_of e) × WritesSome (fault_line e) old new before now
