-- What calls of a pager leave of its last checkpoint.
use Rattle.std.specs.Prelude.{◌≡◌, ◌<◌, ◌≤◌, ℕ, false, IsTrue}
use Rattle.bd_device.specs.Device.{OnlyReads}
use Rattle.bd_device.specs.declared.device.Device.{Ghosts}
use Rattle.bd_node.specs.Tables.{IsKept}
use Rattle.bd_pager.specs.Pagers.{Paged, cache_room, spots_of, table_of, is_known}
use Rattle.bd_pager.specs.Places.{NoneTurnsBad}

-- nothing is written, nor lent, and the checkpoint stays; what was touched stays so while it is kept, and an
-- id that is gone never comes back; the cache keeps its room; what is known stays known, and then
-- no block becomes bad
pub record KeepsSaved {D : Type 0} (g : Ghosts D) (old new : Paged D) : Type 0 where
  pub device : OnlyReads g old.dev new.dev
  pub lent : old.is_lent ≡ false → new.is_lent ≡ false
  pub saved : new.saved ≡ old.saved
  pub at : new.at ≡ old.at
  pub spare : new.spare ≡ old.spare
  pub touched : (id : ℕ) → id < old.next → IsTrue ((table_of old).touched id)
      → IsKept (table_of new) id → IsTrue ((table_of new).touched id)
  pub next : old.next ≤ new.next
  pub kept : (id : ℕ) → id < old.next → IsKept (table_of new) id → IsKept (table_of old) id
  pub room : cache_room new ≡ cache_room old
  pub known : is_known g old → is_known g new
  pub bad : is_known g old
      → NoneTurnsBad (g.contents old.dev) (spots_of old) (g.contents new.dev) (spots_of new)
