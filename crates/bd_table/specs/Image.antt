-- Where a table stands in an image.
use Rattle.std.specs.Prelude.{◌≡◌, ◌+◌, ◌*◌, ◌/◌, ◌%◌, ◌<◌, ℕ, List, [], length, map, slice_index, slice_index_or}
use Rattle.std.specs.List.{flat_map, range_with_len}
use Rattle.bd_limits.specs.Limits.{slot_blocks}
use Rattle.bd_slots.specs.Layout.{slot_block}
use Rattle.bd_device.specs.Blocks.{Image}
use Rattle.bd_table.specs.Tables.{IsTableAt, table_bytes}
use Rattle.bd_table.specs.declared.table.Table.{Table}

-- the block that has the k-th part of a table in these slots
abbrev pub table_block : List ℕ → ℕ → ℕ
table_block at k = slot_block (slice_index at (k / slot_blocks)) + k % slot_blocks

-- how many blocks they have
abbrev pub block_total : List ℕ → ℕ
block_total at = slot_blocks * length at

-- the first of these blocks
abbrev pub first_blocks : List ℕ → ℕ → List ℕ
first_blocks at count = map (table_block at) (range_with_len 0 count)

-- their bytes, one block after the other
abbrev pub first_bytes : Image → List ℕ → ℕ → List ℕ
first_bytes image at count = flat_map (λ b. slice_index_or image b []) (first_blocks at count)

-- the bytes of all
abbrev pub bytes_in : Image → List ℕ → List ℕ
bytes_in image at = first_bytes image at (block_total at)

-- the image has this table in these slots
abbrev pub HoldsTable : Image → ℕ → List ℕ → Table → Type 0
HoldsTable image slots at t = IsTableAt slots at t × (bytes_in image at ≡ table_bytes (length at) t)

-- the image has no table there
abbrev pub HasNoTable : Image → ℕ → List ℕ → Type 0
HasNoTable image slots at = (t : Table) → ¬ HoldsTable image slots at t

-- the block is one of these slots
abbrev pub IsOfTable : List ℕ → ℕ → Type 0
IsOfTable at b = (k : ℕ) × (k < block_total at) × (b ≡ table_block at k)
