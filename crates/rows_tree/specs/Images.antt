-- Pagers over devices that have the blocks of an image.
use Rattle.std.specs.Prelude.{◌≡◌, ◌≤◌, length}
use Rattle.bd_limits.specs.Limits.{slot_limit}
use Rattle.bd_slots.specs.Layout.{image_blocks}
use Rattle.bd_device.specs.declared.device.Device.{Ghosts}
use Rattle.bd_pager.specs.Pagers.{Paged}

-- the device has the blocks of an image of the pager's slots, of which there aren't too many
pub record IsOnImage {D : Type 0} (g : Ghosts D) (p : Paged D) : Type 0 where
  pub size : g.block_count p.dev ≡ image_blocks (length p.spare)
  pub slots : length p.spare ≤ slot_limit
