-- What is known of an image from which a volume may start, before its log is tried.
use Rattle.std.specs.Prelude.{◌≡◌, ℕ, [], length, Option, IsSome, IfSome, MatchOption}
use Rattle.bd_limits.specs.Limits.{cached_limit}
use Rattle.bd_device.specs.Blocks.{Image}
use Rattle.bd_device.specs.declared.device.Device.{Ghosts}
use Rattle.bd_node.specs.Tables.{IsSound, root_at}
use Rattle.bd_table.specs.Image.{HoldsTable}
use Rattle.bd_table.specs.declared.table.Table.{Table as StoredTable}
use Rattle.bd_super.specs.Live.{IsLive}
use Rattle.bd_super.specs.Superblocks.{log_block}
use Rattle.bd_super.specs.declared.superblock.Super.{Super}
use Rattle.bd_log.specs.Batches.{AreBatches}
use Rattle.bd_log.specs.Logs.{fresh_log}
use Rattle.bd_pager.specs.Opened.{IsOpened}
use Rattle.bd_pager.specs.Pagers.{cache_room, nodes_of, table_of, is_known}
use Rattle.bd_image.specs.Versions.{version_of}
use Rattle.bd_image.specs.Stored.{HoldsNodes, table_of as stored_table}
use Rattle.bd_image.specs.Damage.{placed_records}
use Rattle.bd_checkpoint.specs.Commands.{AreCommandsOf}
use Rattle.bd_checkpoint.specs.Kept.{IsOpenOn}
use Rattle.bd_checkpoint.specs.Recovering.{saved_of, AreStored}
use Rattle.bd_checkpoint.specs.declared.recovering.Recovered.{Recovered}
use Rattle.bd_entries.specs.Verdicts.{IsWhole}
use Rattle.bd_check.specs.Reading.{HasSoundNodes, IsWrongIn}
use Rattle.bd_check.specs.Verdicts.{has_modes, key_count_limit}
use Rattle.bd_check.specs.declared.verdict.Verdict.{Verdict}

-- what was recovered from a device whose blocks are those that it has now
pub record IsRecovered {D : Type 0} (g : Ghosts D) (r : Recovered D) : Type 0 where
  pub opened : IsOpened (g.contents r.pager.dev) r.live.slots r.live.table r.pager
  pub settled : IsOpenOn g r.pager.dev r.live (saved_of r.pager) r.log
  pub room : cache_room r.pager ≡ cached_limit
  pub known : IsSome (g.contents r.pager.dev) → is_known g r.pager
  pub stored : IfSome (g.contents r.pager.dev) (AreStored g r.pager)
  pub batches : IfSome (g.contents r.pager.dev)
      (λ image. AreBatches image (log_block r.live.half) r.live.epoch r.log.batches r.log.place)
  pub idle : r.log ≡ record (fresh_log (log_block r.live.half) r.live.epoch) {
    place = r.log.place;
    batches = r.log.batches;
  }
  pub commands : AreCommandsOf (version_of r.live) (placed_records r.log.batches) r.commands.items

-- the image has the superblock's table, of so many nodes, and this is wrong with them
pub record IsTold (image : Image) (s : Super) (nodes : ℕ) (wrong : Option Verdict) : Type 0 where
  pub table : StoredTable
  pub held : HoldsTable image s.slots s.table table
  pub count : nodes ≡ length table.entries
  pub told : MatchOption wrong (HasSoundNodes image table) (IsWrongIn image table)

-- the image starts from the superblock, the table and the sound nodes of what was recovered, and
-- has its batches
pub record StartsSoundly {D : Type 0} (g : Ghosts D) (r : Recovered D) (image : Image)
    : Type 0 where
  pub known : is_known g r.pager
  pub live : IsLive image r.live
  pub table : HoldsTable image r.live.slots r.live.table r.pager.saved
  pub nodes : HoldsNodes image r.pager.saved (nodes_of g r.pager)
  pub table_is : table_of r.pager ≡ stored_table r.pager.saved (nodes_of g r.pager)
  pub sound : IsSound (nodes_of g r.pager) (table_of r.pager)
  pub slots : length r.pager.spare ≡ r.live.slots
  pub batches : AreBatches image (log_block r.live.half) r.live.epoch r.log.batches r.log.place
  pub idle : r.log.waiting ≡ []
  pub commands : AreCommandsOf (version_of r.live) (placed_records r.log.batches) r.commands.items

-- the same of a table of so many nodes
pub record HasNodeCount {D : Type 0} (g : Ghosts D) (r : Recovered D) (nodes : ℕ) (image : Image)
    : Type 0 where
  pub start : StartsSoundly g r image
  pub count : nodes ≡ length r.pager.saved.entries

-- and a tree has the keys of their root, which are so many
pub record HasKeyCount {D : Type 0} (g : Ghosts D) (r : Recovered D) (nodes keys : ℕ)
    (image : Image) : Type 0 where
  pub counted : HasNodeCount g r nodes image
  pub whole : IsWhole (has_modes (version_of r.live))
      (root_at (nodes_of g r.pager) (table_of r.pager)) key_count_limit keys
