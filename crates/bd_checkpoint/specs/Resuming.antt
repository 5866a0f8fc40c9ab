-- What is known when the log of an image is read.
use Rattle.std.specs.Prelude.{◌≡◌, ℕ, Option, IfSome}
use Rattle.bd_slots.specs.Layout.{image_blocks}
use Rattle.bd_device.specs.Blocks.{Image}
use Rattle.bd_device.specs.Device.{left_now}
use Rattle.bd_device.specs.Moments.{IsOnly}
use Rattle.bd_device.specs.declared.device.Device.{Ghosts}
use Rattle.bd_table.specs.declared.table.Table.{Table as StoredTable}
use Rattle.bd_super.specs.Superblocks.{IsSuper}
use Rattle.bd_super.specs.Live.{IsLive}
use Rattle.bd_super.specs.declared.superblock.Super.{Super}
use Rattle.bd_image.specs.Damage.{IsFoundBad}
use Rattle.bd_checkpoint.specs.Following.{HasTableOf}

-- reads give this superblock and its table, and a crash leaves what reads give
pub record IsStartedFrom {D : Type 0} (g : Ghosts D) (d : D) (live : Super) (t : StoredTable)
    : Type 0 where
  pub fits : IsSuper live
  pub size : g.block_count d ≡ image_blocks live.slots
  pub only : IsOnly (g.contents d) (left_now g d)
  pub live_is : IfSome (g.contents d) (λ image. IsLive image live)
  pub table_is : IfSome (g.contents d) (HasTableOf live t)

-- where the superblock is live, the block is found bad
abbrev pub IsFoundUnder : Option Image → Super → ℕ → Type 0
IsFoundUnder known live b = IfSome known (λ image. IsLive image live → IsFoundBad image b)
