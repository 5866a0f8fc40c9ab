-- Which block is why an image stands for no tree.
use Rattle.std.specs.Prelude.{◌≡◌, ◌≢◌, ◌⊎◌, ℕ, List, ◌∷◌, ◌++◌, map, slice_index, Some}
use Rattle.std.specs.List.{flat_map}
use Rattle.bd_command.specs.Log.{log_record}
use Rattle.bd_command.specs.declared.Command.{Command}
use Rattle.bd_model.specs.Tree.{Tree}
use Rattle.bd_model.specs.Laws.{Accepts}
use Rattle.bd_slots.specs.Layout.{slot_block}
use Rattle.bd_device.specs.Blocks.{Image}
use Rattle.bd_node.specs.declared.node.Node.{Node}
use Rattle.bd_node.specs.Meaning.{Nodes}
use Rattle.bd_node.specs.Tables.{IsSound}
use Rattle.bd_table.specs.Entries.{entry_of, level_at}
use Rattle.bd_table.specs.Image.{HoldsTable, HasNoTable}
use Rattle.bd_table.specs.declared.table.Table.{Table as StoredTable}
use Rattle.bd_table.specs.declared.table.TableEntry.{TableEntry}
use Rattle.bd_super.specs.Superblocks.{log_block}
use Rattle.bd_super.specs.Live.{IsLive, IsDamaged}
use Rattle.bd_super.specs.declared.superblock.Super.{Super}
use Rattle.bd_log.specs.Batches.{AreBatches, IsDamagedAt}
use Rattle.bd_log.specs.declared.batch.Batch.{Batch}
use Rattle.bd_format.specs.Slots.{IsGoodNode, HasNoGoodNode}
use Rattle.bd_image.specs.Versions.{version_of, IsLoggedIn}
use Rattle.bd_image.specs.Stored.{HoldsNodes, table_of}
use Rattle.bd_image.specs.ImageTree.{LeadsOn, HaveTree, StartsFrom}

-- ---- nodes

-- the first block of a superblock's table
abbrev pub table_start : Super → ℕ
table_start s = slot_block (slice_index s.table 0)

-- a superblock's table has this entry of a node
pub record HasEntry (image : Image) (s : Super) (t : StoredTable) (e : TableEntry) : Type 0 where
  pub live : IsLive image s
  pub table : HoldsTable image s.slots s.table t
  pub entry : entry_of t.entries e.id ≡ Some e

-- each entry's slot has a node of its level that names nodes of the table of lower levels alone
abbrev pub HasGoodNodes : Image → Super → StoredTable → Type 0
HasGoodNodes image s t = (e : TableEntry) → HasEntry image s t e
    → (n : Node) × IsGoodNode image (level_at t.entries) e.slot e.level n

-- no nodes that the image has by this table are sound
abbrev pub HasNoSoundNodes : Image → StoredTable → Type 0
HasNoSoundNodes image t =
    (nodes : Nodes) → HoldsNodes image t nodes → ¬ IsSound nodes (table_of t nodes)

-- ---- records

-- a record with the first block of its batch's body
abbrev pub PlacedRecord : Type 0
PlacedRecord = ℕ × List ℕ

-- the records of batches, in order, each with that block
abbrev pub placed_records : List Batch → List PlacedRecord
placed_records batches = flat_map (λ (b : Batch). map (λ r. (b.body, r)) b.records) batches

-- the records alone
abbrev pub unplaced : List PlacedRecord → List (List ℕ)
unplaced list = map (λ (p : PlacedRecord). p.1) list

-- in the open batches of the image's log a record stands there, after these
pub record HasRecord (image : Image) (s : Super) (front : List PlacedRecord) (b : ℕ) (r : List ℕ)
    : Type 0 where
  pub live : IsLive image s
  pub batches : List Batch
  pub place : ℕ
  pub logged : AreBatches image (log_block s.half) s.epoch batches place
  pub rest : List PlacedRecord
  pub there : placed_records batches ≡ front ++ (b, r) ∷ rest

-- the tree of the image's nodes after these records
pub record IsTreeAfter (image : Image) (s : Super) (records : List (List ℕ)) (tree : Tree)
    : Type 0 where
  pub table : StoredTable
  pub nodes : Nodes
  pub base : Tree
  pub starts : StartsFrom image s table nodes
  pub have : HaveTree (version_of s) table nodes base
  pub leads : LeadsOn (version_of s) records base tree

-- the record is of no command that an image of this version has in its log
abbrev pub IsNoCommand : ℕ → List ℕ → Type 0
IsNoCommand version r = (c : Command) → IsLoggedIn version c → r ≢ log_record c

-- a command stands there that the tree before it refuses
pub record IsRefusedAt (image : Image) (b : ℕ) : Type 0 where
  pub superblock : Super
  pub front : List PlacedRecord
  pub command : Command
  pub has : HasRecord image superblock front b (log_record command)
  pub logged : IsLoggedIn (version_of superblock) command
  pub tree : Tree
  pub before : IsTreeAfter image superblock (unplaced front) tree
  pub refused : ¬ Accepts tree command

-- ---- the block

-- what is found before a command is carried out: a superblock; a table; a node, or a child that it
-- names; a batch; a record of no command
pub data IsFoundBad (image : Image) : ℕ → Type 0 where
  bad_super : (b : ℕ) → IsDamaged image b → IsFoundBad image b
  bad_table : (s : Super) → IsLive image s → HasNoTable image s.slots s.table
      → IsFoundBad image (table_start s)
  bad_node : (s : Super) (t : StoredTable) (e : TableEntry) → HasEntry image s t e
      → HasNoGoodNode image (level_at t.entries) e.slot e.level
      → IsFoundBad image (slot_block e.slot)
  bad_batch : (s : Super) (b : ℕ) → IsLive image s
      → IsDamagedAt image (log_block s.half) s.epoch b → IsFoundBad image b
  bad_record : (s : Super) (front : List PlacedRecord) (b : ℕ) (r : List ℕ)
      → HasRecord image s front b r → IsNoCommand (version_of s) r → IsFoundBad image b

-- it is found so, or a command stands there that is refused
abbrev pub IsNamedAt : Image → ℕ → Type 0
IsNamedAt image b = IsFoundBad image b ⊎ IsRefusedAt image b

-- it is found so; or good nodes aren't sound, so that the table's counts are wrong; or a command
-- stands there that is refused by the tree before it, where there is one
pub data IsBadAt (image : Image) : ℕ → Type 0 where
  found_bad : (b : ℕ) → IsFoundBad image b → IsBadAt image b
  unsound_nodes : (s : Super) (t : StoredTable) → IsLive image s
      → HoldsTable image s.slots s.table t → HasGoodNodes image s t → HasNoSoundNodes image t
      → IsBadAt image (table_start s)
  refused_record : (s : Super) (front : List PlacedRecord) (b : ℕ) (c : Command)
      → HasRecord image s front b (log_record c) → IsLoggedIn (version_of s) c
      → ((tree : Tree) → IsTreeAfter image s (unplaced front) tree → ¬ Accepts tree c)
      → IsBadAt image b
