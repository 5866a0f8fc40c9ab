-- The image that a format writes.
use Rattle.std.specs.Prelude.{◌≡◌, ◌==◌, ◌-◌, ◌*◌, if◌then◌else◌, ℕ, zero, suc, List, [], ◌∷◌, ◌++◌, take, drop, replicate, None, Some}
use Rattle.bd_limits.specs.Limits.{block_size, slot_blocks}
use Rattle.bd_wire.specs.Text.{zeros}
use Rattle.bd_device.specs.Blocks.{Image}
use Rattle.bd_device.specs.Commits.{IsCommitted}
use Rattle.bd_format.specs.Images.{image_of}
use Rattle.bd_files.specs.Roots.{root_messages}
use Rattle.bd_node.specs.declared.node.Node.{Node}
use Rattle.bd_node.specs.Nodes.{appended}
use Rattle.bd_node.specs.Meaning.{Nodes}
use Rattle.bd_node.specs.New.{new_root}
use Rattle.bd_table.specs.Image.{HoldsTable}
use Rattle.bd_table.specs.Tables.{table_bytes}
use Rattle.bd_table.specs.declared.table.Table.{Table as StoredTable}
use Rattle.bd_super.specs.Superblocks.{log_block, super_body, written_version}
use Rattle.bd_super.specs.Live.{IsLive}
use Rattle.bd_super.specs.declared.superblock.Half.TheVariants.{A}
use Rattle.bd_super.specs.declared.superblock.Super.{Super}
use Rattle.bd_format.specs.Slots.{HasNode}

-- the root of a new store, in which the record of `/` waits
abbrev pub fresh_root : Node
fresh_root = appended new_root root_messages

-- that root alone
abbrev pub fresh_nodes : Nodes
fresh_nodes id = if id == 1 then Some fresh_root else None

-- the table of the root alone, in this slot
abbrev pub fresh_table : ℕ → StoredTable
fresh_table slot = record {
  entries = record { id = 1; refs = 1; slot = slot; level = 1 } ∷ [];
  next_id = 2;
  root = 1;
}

-- the image has a first checkpoint, with that root in this slot, and no open batch
pub record IsFresh (image : Image) (s : Super) (slot : ℕ) : Type 0 where
  pub live : IsLive image s
  pub count : s.count ≡ 0
  pub table : HoldsTable image s.slots s.table (fresh_table slot)
  pub root : HasNode image slot 1 fresh_root
  pub log : ¬ IsCommitted image (log_block s.half)

-- ---- to the byte

-- the first superblock of an image of so many slots, with the slots of a table: in the first half,
-- with the epoch 1 and no commands, of the version that is written
abbrev pub first_super : ℕ → List ℕ → Super
first_super slots table = record {
  half = A;
  version = written_version;
  slots = slots;
  epoch = 1;
  count = 0;
  table = table;
}

-- bytes as so many blocks
abbrev pub blocks_of : ℕ → List ℕ → Image
blocks_of zero bytes = []
blocks_of (suc count) bytes = take block_size bytes ∷ blocks_of count (drop block_size bytes)

-- an image of so many slots with this commit block and this body in the first half, these bytes in
-- the first two slots, and one block everywhere else
unfoldable pub put_together : ℕ → List ℕ → List ℕ → List ℕ → List ℕ → List ℕ → Image
put_together slots commit body first second rest =
    commit ∷ body ∷ replicate 130 rest
    ++ blocks_of slot_blocks first ++ blocks_of slot_blocks second
    ++ replicate (slot_blocks * (slots - 2)) rest

-- the image of so many slots that a format writes over zeros: the root is in the first slot, and
-- the table in the second one
unfoldable pub fresh_image : ℕ → Image
fresh_image slots = put_together slots (1 ∷ zeros (block_size - 1))
    (super_body (first_super slots (1 ∷ []))) (image_of fresh_root)
    (table_bytes 1 (fresh_table 0)) (zeros block_size)
