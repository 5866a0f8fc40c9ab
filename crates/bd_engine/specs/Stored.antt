-- Views of what an image stores.
use Rattle.std.specs.Prelude.{◌≡◌, ℕ, List, map}
use Rattle.bd_command.specs.Log.{log_record}
use Rattle.bd_command.specs.declared.Command.{Command}
use Rattle.bd_device.specs.Blocks.{Image}
use Rattle.bd_device.specs.declared.device.Device.{Ghosts}
use Rattle.bd_node.specs.Meaning.{Nodes}
use Rattle.bd_table.specs.Image.{HoldsTable}
use Rattle.bd_table.specs.Tables.{AreFreeSlots}
use Rattle.bd_table.specs.declared.table.Table.{Table as StoredTable}
use Rattle.bd_super.specs.Live.{IsLive}
use Rattle.bd_super.specs.Superblocks.{log_block}
use Rattle.bd_super.specs.declared.superblock.Super.{Super}
use Rattle.bd_log.specs.Batches.{AreBatches}
use Rattle.bd_log.specs.declared.batch.Batch.{Batch}
use Rattle.bd_image.specs.ImageTree.{StartsFrom, records_of}
use Rattle.bd_image.specs.Versions.{version_of}
use Rattle.bd_image.specs.Stored.{table_of as stored_table}
use Rattle.bd_image.specs.Damage.{placed_records}
use Rattle.bd_checkpoint.specs.Commands.{AreCommandsOf}
use Rattle.bd_checkpoint.specs.Kept.{slots_held}
use Rattle.bd_checkpoint.specs.Recovering.{saved_of, AreStored}
use Rattle.bd_checkpoint.specs.declared.commands.PlacedCommand.{PlacedCommand}
use Rattle.bd_view.specs.Views.{View}
use Rattle.bd_shown.specs.Shown.{ids_of}
use Rattle.bd_engine.specs.Engines.{EngineState}

-- the view of these nodes, as a checkpoint has them: nothing was changed since, nothing was grafted,
-- and no record waits
abbrev pub stored_view : Super → StoredTable → Nodes → ℕ → View
stored_view live table nodes place = record {
  tree = record {
    nodes = nodes;
    table = stored_table table nodes;
    walk = record { visits = 0; height = 0 };
  };
  saved = ids_of table.entries;
  slots = live.slots;
  version = version_of live;
  epoch = live.epoch;
  place = place;
  waiting = 0;
}

-- the view of the checkpoint from which an image starts, with the log's place behind its open
-- batches
pub record IsStoredView (image : Image) (v : View) : Type 0 where
  pub live : Super
  pub table : StoredTable
  pub nodes : Nodes
  pub starts : StartsFrom image live table nodes
  pub batches : List Batch
  pub batches_are : AreBatches image (log_block live.half) live.epoch batches v.place
  pub view_is : v ≡ stored_view live table nodes v.place

-- the same, and these commands are those of the records of its open batches, in order
pub record IsFound (image : Image) (v : View) (commands : List Command) : Type 0 where
  pub stored : IsStoredView image v
  pub records_are : map log_record commands ≡ records_of stored.batches

-- the image starts from the engine's superblock and table, which hold all slots but the spare ones,
-- and the engine's nodes are those that it stores
pub record IsStoredBy {D : Type 0} (g : Ghosts D) (e : EngineState D) (image : Image) : Type 0 where
  pub live_is : IsLive image e.live
  pub table_is : HoldsTable image e.live.slots e.live.table e.pager.saved
  pub at_is : e.pager.at ≡ e.live.table
  pub spare_is : AreFreeSlots e.live.slots (slots_held (saved_of e.pager)) e.pager.spare
  pub nodes : AreStored g e.pager image

-- the checkpoint from which an image starts has just the nodes that the view has as saved
pub record HasSaved (v : View) (image : Image) : Type 0 where
  pub live : Super
  pub live_is : IsLive image live
  pub table : StoredTable
  pub table_is : HoldsTable image live.slots live.table table
  pub saved_is : v.saved ≡ ids_of table.entries

-- the image starts from this superblock; these commands are those of the records of its open
-- batches, in order, each with the first block of its batch's body
pub record ArePlaced (image : Image) (live : Super) (commands : List PlacedCommand) : Type 0 where
  pub live_is : IsLive image live
  pub batches : List Batch
  pub place : ℕ
  pub batches_are : AreBatches image (log_block live.half) live.epoch batches place
  pub placed : AreCommandsOf (version_of live) (placed_records batches) commands
