-- The superblock of the next checkpoint, and what is written for it.
use Rattle.std.specs.Prelude.{◌≡◌, ◌+◌, ℕ, List, Option, IfSome}
use Rattle.bd_model.specs.Tree.{Tree}
use Rattle.bd_device.specs.Blocks.{Image}
use Rattle.bd_node.specs.Meaning.{Nodes}
use Rattle.bd_table.specs.Image.{HoldsTable}
use Rattle.bd_table.specs.declared.table.Table.{Table as StoredTable}
use Rattle.bd_super.specs.Superblocks.{other, written_version}
use Rattle.bd_super.specs.declared.superblock.Super.{Super}
use Rattle.bd_image.specs.Stored.{HoldsNodes, table_of}
use Rattle.bd_checkpoint.specs.Kept.{Saved, AreOfTree}

-- the superblock after the live one: in the other half, with the next epoch and the version that is
-- written, and with this count and this table
abbrev pub super_after : Super → ℕ → List ℕ → Super
super_after live count table = record {
  half = other live.half;
  version = written_version;
  slots = live.slots;
  epoch = live.epoch + 1;
  count = count;
  table = table;
}

-- it is the one after the live one, with some count and table
abbrev pub IsNext : Super → Super → Type 0
IsNext live next = next ≡ super_after live next.count next.table

-- the image has the superblock's table, where this says that it stands
abbrev pub HasTableOf : Super → StoredTable → Image → Type 0
HasTableOf s t image = HoldsTable image s.slots s.table t

-- reads give the superblock's table and, by that, nodes which represent the tree
pub record AreWritten (known : Option Image) (s : Super) (t : StoredTable) (nodes : Nodes)
    (tree : Tree) : Type 0 where
  pub table : IfSome known (HasTableOf s t)
  pub stored : IfSome known (λ image. HoldsNodes image t nodes)
  pub have : AreOfTree nodes (table_of t nodes) tree

-- the checkpoint that starts from this superblock and this table
abbrev pub saved_by : Super → StoredTable → Saved
saved_by s t = record { at = s.table; table = t }
