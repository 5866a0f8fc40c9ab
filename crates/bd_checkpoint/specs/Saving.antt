-- What a checkpoint leaves of a pager, and why none is made.
use Rattle.std.specs.Prelude.{◌≡◌, ◌+◌, ◌^◌, ◌≤◌, ◌⊎◌, List, Bool, false, length, None}
use Rattle.bd_io.specs.Cause.{next_count}
use Rattle.bd_device.specs.Changes.{StaysBut}
use Rattle.bd_device.specs.Device.{left_now, LastFailed}
use Rattle.bd_device.specs.declared.device.Device.{Ghosts}
use Rattle.bd_message.specs.declared.fault.Counter.TheVariants.{Epoch}
use Rattle.bd_message.specs.declared.fault.MapFault.{MapFault}
use Rattle.bd_message.specs.declared.fault.MapFault.TheVariants.{DeviceFault, Damaged, Worn, NoMemory}
use Rattle.bd_node.specs.Steps.{with_touched}
use Rattle.bd_table.specs.Tables.{AreFreeSlots, IsTableAt}
use Rattle.bd_super.specs.declared.superblock.Super.{Super}
use Rattle.bd_log.specs.Logs.{LogState}
use Rattle.bd_pager.specs.Places.{NoneTurnsBad}
use Rattle.bd_pager.specs.Pagers.{Paged, cache_room, spots_of, nodes_of, table_of, is_known, AreEntriesOf}
use Rattle.bd_pager.specs.Slots.{IsSpare}
use Rattle.bd_checkpoint.specs.Kept.{Saved, slots_held, IsOpenOn, AllAsBefore}
use Rattle.bd_checkpoint.specs.Recovering.{saved_of}
use Rattle.bd_checkpoint.specs.Surviving.{IsLowOrSpare}

-- ---- what is left

-- slots stay but for spare ones; known nodes stay known, and the same, and then no block becomes
-- bad; the cache keeps its room
pub record KeepsNodes {D : Type 0} (g : Ghosts D) (old new : Paged D) : Type 0 where
  pub elsewhere : StaysBut (IsLowOrSpare old.spare) (g.contents old.dev) (g.contents new.dev)
  pub known : is_known g old → is_known g new
  pub nodes : is_known g old → nodes_of g new ≡ nodes_of g old
  pub bad : is_known g old
      → NoneTurnsBad (g.contents old.dev) (spots_of old) (g.contents new.dev) (spots_of new)
  pub room : cache_room new ≡ cache_room old

-- no checkpoint was made: the last one stays, and so do the nodes and their table
pub record StaysUnsaved {D : Type 0} (g : Ghosts D) (old new : Paged D) : Type 0 where
  pub keeps : KeepsNodes g old new
  pub table : table_of new ≡ table_of old
  pub rest : new ≡ record old {
    dev = new.dev;
    spots = new.spots;
    cache = new.cache;
    tails = new.tails;
    written = new.written;
  }

-- a checkpoint of all nodes was made, after which none was changed; the nodes stay, each has an entry
-- in its table, which has its root and the next id and stands in slots of its own, and other slots
-- are spare
pub record IsSaved {D : Type 0} (g : Ghosts D) (old new : Paged D) : Type 0 where
  pub keeps : KeepsNodes g old new
  pub table : table_of new ≡ with_touched (λ id. false) (table_of old)
  pub entries : AreEntriesOf new.saved.entries (spots_of new)
  pub root : new.saved.root ≡ new.root
  pub next : new.saved.next_id ≡ new.next
  pub place : IsTableAt (length old.spare) new.at new.saved
  pub spare : AreFreeSlots (length old.spare) (slots_held (saved_of new)) new.spare
  pub rest : new ≡ record old {
    dev = new.dev;
    spots = new.spots;
    saved = new.saved;
    at = new.at;
    spare = new.spare;
    cache = new.cache;
    tails = new.tails;
    written = None;
  }

-- ---- faults

-- no write or barrier failed: what was known of the device is known, no more was written than these
-- spare slots, and an image that a crash now leaves stands for what one of before stood for
pub record GoesOn {D : Type 0} (g : Ghosts D) (old new : D) (live : Super) (saved : Saved)
    (log : LogState) (spare : List Bool) : Type 0 where
  pub known : IsOpenOn g new live saved log
  pub slots : StaysBut (IsSpare spare) (g.contents old) (g.contents new)
  pub kept : AllAsBefore (left_now g old) (left_now g new)
  pub write_faults : g.write_fault_count new ≡ g.write_fault_count old

-- a write or a barrier failed, or it goes on
abbrev pub IsStoppedOrGoesOn : {D : Type 0} → Ghosts D → D → D → Super → Saved → LogState
    → List Bool → Type 0
IsStoppedOrGoesOn g old new live saved log spare =
    (g.write_fault_count new ≡ next_count (g.write_fault_count old))
    ⊎ GoesOn g old new live saved log spare

-- the last call of the device failed, and no other; or else nothing was done with the device: the
-- live superblock's epoch is the last one, or there is no memory
abbrev pub IsCheckpointCause : {D : Type 0} → Ghosts D → D → D → Super → MapFault → Type 0
IsCheckpointCause g old new live DeviceFault = LastFailed g old new
IsCheckpointCause g old new live (Damaged block) = ⊥
IsCheckpointCause g old new live (Worn counter) =
    (counter ≡ Epoch) × (2 ^ 64 ≤ live.epoch + 1) × (new ≡ old)
IsCheckpointCause g old new live NoMemory = new ≡ old
