-- What is known between two calls: of the last checkpoint, of the log, and of the images that a
-- crash now may leave.
use Rattle.std.specs.Prelude.{◌≡◌, ◌⊎◌, ℕ, List, Option, IfSome}
use Rattle.bd_model.specs.Tree.{Tree, IsTree}
use Rattle.bd_represent.specs.Represents.{Represents}
use Rattle.bd_slots.specs.Layout.{image_blocks}
use Rattle.bd_device.specs.Blocks.{Image}
use Rattle.bd_device.specs.Device.{left_now}
use Rattle.bd_device.specs.declared.device.Device.{Ghosts}
use Rattle.bd_node.specs.Meaning.{Nodes}
use Rattle.bd_node.specs.Tables.{Table, IsSound, root_at}
use Rattle.bd_table.specs.Image.{HoldsTable}
use Rattle.bd_table.specs.declared.table.Table.{Table as StoredTable}
use Rattle.bd_super.specs.Superblocks.{IsSuper, log_block}
use Rattle.bd_super.specs.Live.{IsLive}
use Rattle.bd_super.specs.Published.{AreSettled}
use Rattle.bd_super.specs.declared.superblock.Super.{Super}
use Rattle.bd_log.specs.Batches.{AreBatches}
use Rattle.bd_log.specs.Logs.{LogState}
use Rattle.bd_log.specs.declared.batch.Batch.{Batch}
use Rattle.bd_image.specs.Versions.{version_of}
use Rattle.bd_image.specs.ImageTree.{ImageStandsFor}
use Rattle.bd_image.specs.Standing.{IsAsBefore, IsWithRecords}
use Rattle.bd_image.specs.Used.{used_slots}
use Rattle.bd_image.specs.Synced.{IsLogOf}

-- the last checkpoint, as a pager knows it: its table, and the slots that this takes
pub record Saved : Type 0 where
  pub at : List ℕ
  pub table : StoredTable

-- the slots that it holds
abbrev pub slots_held : Saved → List ℕ
slots_held saved = used_slots saved.at saved.table

-- the image starts from this superblock and this table, and has open batches up to this place
pub record StartsAs (live : Super) (saved : Saved) (place : ℕ) (image : Image) : Type 0 where
  pub live_is : IsLive image live
  pub table_is : HoldsTable image live.slots live.table saved.table
  pub batches : List Batch
  pub batches_are : AreBatches image (log_block live.half) live.epoch batches place

-- a device of so many blocks has this superblock, this checkpoint and this log: what reads give has
-- the superblock, and each image that a crash now may leave has all of them
pub record IsOpen (known : Option Image) (left : Image → Type 0) (count : ℕ) (live : Super)
    (saved : Saved) (log : LogState) : Type 0 where
  pub fits : IsSuper live
  pub size : count ≡ image_blocks live.slots
  pub live_is : IfSome known (λ image. IsLive image live)
  pub settled : AreSettled known left
  pub each : (c : Image) → left c → StartsAs live saved log.place c
  pub at : saved.at ≡ live.table
  pub log_is : IsLogOf live log

-- this device has them
abbrev pub IsOpenOn : {D : Type 0} → Ghosts D → D → Super → Saved → LogState → Type 0
IsOpenOn g d live saved log =
    IsOpen (g.contents d) (left_now g d) (g.block_count d) live saved log

-- each of these images stands for this tree and count
abbrev pub AllStandFor : Tree → ℕ → (Image → Type 0) → Type 0
AllStandFor tree count left = (c : Image) → left c → ImageStandsFor tree count c

-- each of these images stands for all that one of before stands for
abbrev pub AllAsBefore : (Image → Type 0) → (Image → Type 0) → Type 0
AllAsBefore before left = (c : Image) → left c → IsAsBefore before c

-- nodes with this table are sound, and what their root has represents the tree
pub record AreOfTree (nodes : Nodes) (table : Table) (tree : Tree) : Type 0 where
  pub sound : IsSound nodes table
  pub is_tree : IsTree tree
  pub represents : Represents (root_at nodes table) tree

-- it stands for all that one of before stands for, after the waiting records of this superblock's
-- log too
abbrev pub IsWithWaiting : Super → LogState → (Image → Type 0) → Image → Type 0
IsWithWaiting live log = IsWithRecords (version_of live) log.waiting

-- it stands for all that one of before stands for, or does so with the waiting records
abbrev pub IsWithAllOrNone : Super → LogState → (Image → Type 0) → Image → Type 0
IsWithAllOrNone live log before c = IsAsBefore before c ⊎ IsWithWaiting live log before c
