-- Writes to slots that the last checkpoint doesn't hold.
use Rattle.std.specs.Prelude.{◌≡◌, List, Bool}
use Rattle.bd_device.specs.Changes.{StaysBut, IsBeforeBut}
use Rattle.bd_device.specs.Device.{left_now, Goes}
use Rattle.bd_device.specs.declared.device.Device.{Ghosts}
use Rattle.bd_pager.specs.Slots.{IsSpare}

-- calls went on that changed blocks of these spare slots alone, also where one failed
pub record WritesSpare {D : Type 0} (g : Ghosts D) (old new : D) (spare : List Bool)
    : Type 0 where
  pub count : g.block_count new ≡ g.block_count old
  pub elsewhere : StaysBut (IsSpare spare) (g.contents old) (g.contents new)
  pub time : Goes g old new (IsBeforeBut (IsSpare spare) (left_now g old))
