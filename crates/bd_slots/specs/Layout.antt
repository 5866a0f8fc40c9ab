-- Where the parts of an image stand, in blocks and in slots.
use Rattle.std.specs.Prelude.{◌≢◌, ◌+◌, ◌-◌, ◌*◌, ◌/◌, ◌<◌, ◌≤◌, ℕ, List, length, All, AllPairs}
use Rattle.bd_limits.specs.Limits.{slot_minimum, slot_limit, slot_size, first_slot_block, slot_blocks}
use Rattle.bd_limits.specs.Places.{table_header_size, table_entry_size}

-- the blocks of an image of this many slots: 132 of superblocks and logs, then 16 a slot
abbrev pub image_blocks : ℕ → ℕ
image_blocks slots = first_slot_block + slot_blocks * slots

-- the first block of a slot
abbrev pub slot_block : ℕ → ℕ
slot_block slot = first_slot_block + slot_blocks * slot

-- the bytes of a table of this many entries, before the zeros
abbrev pub table_size : ℕ → ℕ
table_size count = table_header_size + table_entry_size * count

-- the slots that it takes
abbrev pub table_length : ℕ → ℕ
table_length count = (table_size count + (slot_size - 1)) / slot_size

-- an image has 24 to 65,536 slots
abbrev pub IsSlotCount : ℕ → Type 0
IsSlotCount slots = (slot_minimum ≤ slots) × (slots ≤ slot_limit)

-- all of them are slots of an image of this many, and they differ
pub record AreSlots (slots : ℕ) (at : List ℕ) : Type 0 where
  pub below : All (λ slot. slot < slots) at
  pub different : AllPairs (λ slot other. slot ≢ other) at

-- a table's slots: 1 to 25, which are slots of an image of this many
pub record IsTablePlace (slots : ℕ) (at : List ℕ) : Type 0 where
  pub least : 1 ≤ length at
  pub most : length at ≤ table_length slot_limit
  pub differ : AreSlots slots at
