-- What is left where no volume is started.
use Rattle.std.specs.Prelude.{◌≤◌, ◌+◌, ◌*◌, ◌∷◌, ◌++◌, ℕ, List, length, Option, IfSome}
use Rattle.bd_limits.specs.Limits.{flush_limit}
use Rattle.bd_message.specs.declared.fault.Counter.{Counter}
use Rattle.bd_device.specs.Blocks.{Image}
use Rattle.bd_device.specs.declared.device.Device.{Ghosts}
use Rattle.bd_checkpoint.specs.declared.commands.PlacedCommand.{PlacedCommand}
use Rattle.bd_engine.specs.Stored.{ArePlaced}
use Rattle.bd_volume.specs.declared.fault.Fault.{Fault}
use Rattle.bd_volume.specs.declared.unstarted.Left.{Left}
use Rattle.bd_volume.specs.declared.unstarted.Left.TheVariants as left
use Rattle.bd_volume.specs.declared.unstarted.Unstarted.{Unstarted}
use Rattle.bd_volume.specs.declared.volume.Volume.{Volume}
use Rattle.bd_volume.specs.Volume.{device_of}
use Rattle.bd_volume.specs.Wears.{ShowsWorn}

-- why it isn't started
abbrev pub fault_in : {D : Type 0} → Unstarted D → Fault
fault_in unstarted = unstarted.fault

-- the device of what is left
abbrev pub device_in : {D : Type 0} → Left D → D
device_in (left.Device device) = device
device_in (left.Volume volume) = device_of volume

abbrev pub device_left : {D : Type 0} → Unstarted D → D
device_left unstarted = device_in unstarted.left

-- of the commands of an image's open batches some were replayed, with no more flush steps than they
-- may make, and for the next one a counter has no room, as far as it is told of nodes that may not
-- be known
pub record ShowsWornReplay {D : Type 0} (g : Ghosts D) (which : Counter) (known : Option Image)
    (volume : Volume D) : Type 0 where
  pub front : List PlacedCommand
  pub next : PlacedCommand
  pub rest : List PlacedCommand
  pub placed : IfSome known (λ image. ArePlaced image volume.engine.live (front ++ next ∷ rest))
  pub before : ℕ
  pub few : before ≤ flush_limit * length front
  pub shows : ShowsWorn g which (volume.engine.live.count + length front) before next.command
      volume.engine

-- the same of what is left: a device alone shows no worn counter
abbrev pub ShowsWornLeft : {D : Type 0} → Ghosts D → Counter → Option Image → Left D → Type 0
ShowsWornLeft g which known (left.Device device) = ⊥
ShowsWornLeft g which known (left.Volume volume) = ShowsWornReplay g which known volume
