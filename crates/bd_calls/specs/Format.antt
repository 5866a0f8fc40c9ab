-- What making an image says of its device and of its sink.
use Rattle.std.specs.Prelude.{◌≡◌, ◌⊎◌, ℕ, List, [], ◌∷◌, ◌++◌, codes, IfSome}
use Rattle.std.specs.Io.KnownBytes.{append_known}
use Rattle.std.specs.declared.option.Option.{Option}
use Rattle.std.specs.declared.option.Option.TheVariants.{None, Some}
use Rattle.bd_io.specs.Written.{WrotePart}
use Rattle.bd_model.specs.Tree.{root_only}
use Rattle.bd_device.specs.Device.{left_now}
use Rattle.bd_device.specs.declared.device.Device.{Ghosts}
use Rattle.bd_image.specs.ImageTree.{ImageStandsFor}
use Rattle.bd_checkpoint.specs.Kept.{AllStandFor}
use Rattle.bd_shell.specs.declared.fault.Fault.{Fault}
use Rattle.bd_shell.specs.declared.fault.Fault.TheVariants.{Device, Damaged, Source, Memory, TooLong, Worn, Sink}
use Rattle.bd_shell.specs.declared.outcome.Ack.{Ack}
use Rattle.bd_shell.specs.Transcript.{Known}

-- what is written once an image is made
abbrev pub done_line : List ℕ
done_line = codes "ok" ++ 10 ∷ []

-- what was written at each end: no fault but the sink's comes once the image is made, and before it
-- only those of the device and of memory
abbrev pub SaysDone : Option Fault → Known → Known → Type 0
SaysDone None old new = new ≡ append_known old done_line
SaysDone (Some Device) old new = new ≡ old
SaysDone (Some (Damaged block)) old new = ⊥
SaysDone (Some Source) old new = ⊥
SaysDone (Some Memory) old new = new ≡ old
SaysDone (Some TooLong) old new = ⊥
SaysDone (Some (Worn which)) old new = ⊥
SaysDone (Some Sink) old new =
    (new ≡ append_known old done_line) ⊎ WrotePart done_line old new

-- the image was made at this end
abbrev pub IsMadeAt : Option Fault → Type 0
IsMadeAt end = (end ≡ None) ⊎ (end ≡ Some Sink)

-- a format that ends well is acknowledged once, by the device's calls at its end and as of no
-- commands; at a fault nothing is acknowledged
abbrev pub format_acks : Option Fault → ℕ → List Ack
format_acks None calls = record { calls = calls; count = 0 } ∷ []
format_acks (Some e) calls = []

-- what reads of a device give, and each image that a crash now may leave of it, stands for the tree
-- of `/` alone and for no commands
pub record HasNewImage {D : Type 0} (g : Ghosts D) (d : D) : Type 0 where
  pub stands : IfSome (g.contents d) (ImageStandsFor root_only 0)
  pub kept : AllStandFor root_only 0 (left_now g d)
