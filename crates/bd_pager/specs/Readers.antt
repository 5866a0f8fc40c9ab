-- How nodes are found.
use Rattle.std.specs.Prelude.{◌≡◌, Option, Some, false}
use Rattle.bd_device.specs.Blocks.{Image}
use Rattle.bd_device.specs.declared.fault.ImageFault.{ImageFault}
use Rattle.bd_device.specs.declared.fault.ImageFault.TheVariants as image
use Rattle.bd_message.specs.declared.fault.MapFault.{MapFault}
use Rattle.bd_message.specs.declared.fault.MapFault.TheVariants as map
use Rattle.bd_tails.specs.Tails.{AreTails}
use Rattle.bd_pager.specs.declared.place.Spot.{Spot}
use Rattle.bd_pager.specs.declared.reader.Found.{Found}
use Rattle.bd_pager.specs.declared.reader.Found.TheVariants.{Copy, InSlot}
use Rattle.bd_pager.specs.declared.reader.NodeReader.{NodeReader}
use Rattle.bd_pager.specs.Places.{copy_in, spots_in, IsAlone, AreCached, ArePlaced}
use Rattle.bd_pager.specs.Testing.{AreTested}

-- what was found of a node: its copy in memory, or the slot that alone has it
abbrev pub IsFoundAs : Found → Option Spot → Type 0
IsFoundAs (Copy node) spot = copy_in spot ≡ Some node.value
IsFoundAs (InSlot slot level) spot = IsAlone slot level spot

-- what is in memory, what was read, and what was tested, is as it is to be over these contents, and
-- so are tails, unless the device was lent since
pub record IsReading {D : Type 0} (contents : Option Image) (r : NodeReader D) : Type 0 where
  pub placed : ArePlaced (spots_in r.spots)
  pub cached : AreCached contents r.is_lent (spots_in r.spots) r.cache
  pub tested : AreTested (spots_in r.spots) r.cache r.tested
  pub tails : r.is_lent ≡ false → AreTails contents r.tails

-- the same fault
abbrev pub map_fault : ImageFault → MapFault
map_fault image.DeviceFault = map.DeviceFault
map_fault (image.Damaged block) = map.Damaged block
map_fault image.NoMemory = map.NoMemory
