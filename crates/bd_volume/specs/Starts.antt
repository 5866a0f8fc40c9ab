-- What a start leaves of its device.
use Rattle.std.specs.Prelude.{◌≡◌, ◌≢◌, ◌+◌, ◌<◌, ◌≤◌, ◌⊎◌, ℕ, Option, IsSomeAnd, All}
use Rattle.bd_io.specs.Cause.{next_count}
use Rattle.bd_model.specs.Tree.{Tree}
use Rattle.bd_device.specs.Blocks.{Image}
use Rattle.bd_device.specs.Changes.{StaysBut}
use Rattle.bd_device.specs.Device.{Goes, Stays}
use Rattle.bd_device.specs.declared.device.Device.{Ghosts}
use Rattle.bd_tails.specs.Tails.{IsOfSlot}
use Rattle.bd_table.specs.Image.{HoldsTable}
use Rattle.bd_table.specs.declared.table.Table.{Table as StoredTable}
use Rattle.bd_super.specs.Live.{IsLive}
use Rattle.bd_super.specs.declared.superblock.Super.{Super}
use Rattle.bd_image.specs.ImageTree.{ImageStandsFor}
use Rattle.bd_image.specs.Used.{used_slots}
use Rattle.bd_checkpoint.specs.Kept.{AllStandFor}

-- the block is of a slot that the image's last checkpoint doesn't hold; none is, where no superblock
-- is live or its table isn't there
pub record IsUnheld (image : Image) (b : ℕ) : Type 0 where
  pub live : Super
  pub live_is : IsLive image live
  pub table : StoredTable
  pub table_is : HoldsTable image live.slots live.table table
  pub slot : ℕ
  pub within : slot < live.slots
  pub unused : All (λ other. other ≢ slot) (used_slots live.table table)
  pub block : IsOfSlot slot b

-- the same of what reads give, as far as that is known
abbrev pub IsUnheldIn : Option Image → ℕ → Type 0
IsUnheldIn known b = IsSomeAnd known (λ image. IsUnheld image b)

-- what reads, the barrier and nodes that a replay writes early leave, also where a call failed: all
-- blocks stay but those of slots that the image's last checkpoint doesn't hold, and an image that a
-- crash inside it leaves, where it isn't one of before, stands for what reads gave before
pub record OnlyStarts {D : Type 0} (g : Ghosts D) (old new : D) : Type 0 where
  pub stays : Stays g old new
  pub slots : StaysBut (IsUnheldIn (g.contents old)) (g.contents old) (g.contents new)
  pub time : (t : Tree) (n : ℕ) → IsSomeAnd (g.contents old) (ImageStandsFor t n)
      → Goes g old new (ImageStandsFor t n)
  pub write_faults : (g.write_fault_count new ≡ g.write_fault_count old)
      ⊎ (g.write_fault_count new ≡ next_count (g.write_fault_count old))

-- since the return of its first call, which was the barrier, a crash leaves images that stand for
-- this tree and count
pub record HasStarted {D : Type 0} (g : Ghosts D) (old new : D) (t : Tree) (n : ℕ) : Type 0 where
  pub called : g.call_count old + 1 ≤ g.call_count new
  pub each : AllStandFor t n (g.left_since new (g.call_count old + 1))
