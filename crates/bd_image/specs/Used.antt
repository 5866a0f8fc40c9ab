-- The blocks that what an image stands for depends on, beside its superblocks.
use Rattle.std.specs.Prelude.{◌≡◌, ◌+◌, ◌⊎◌, ℕ, List, ◌++◌, Any}
use Rattle.bd_limits.specs.Limits.{log_blocks}
use Rattle.bd_device.specs.Blocks.{Image}
use Rattle.bd_device.specs.Changes.{IsInRange}
use Rattle.bd_device.specs.Commits.{block_at}
use Rattle.bd_table.specs.Tables.{slots_of}
use Rattle.bd_table.specs.declared.table.Table.{Table as StoredTable}
use Rattle.bd_super.specs.Superblocks.{log_block}
use Rattle.bd_super.specs.declared.superblock.Super.{Super}
use Rattle.bd_tails.specs.Tails.{IsOfSlot}

-- the slots of a table that takes the slots `at`, and those of its nodes
abbrev pub used_slots : List ℕ → StoredTable → List ℕ
used_slots at t = at ++ slots_of t.entries

-- the block is one of these slots
abbrev pub IsOfSlots : List ℕ → ℕ → Type 0
IsOfSlots slots b = Any (λ slot. IsOfSlot slot b) slots

-- the block is one of the superblock's half of the log, or of a slot that is used
abbrev pub IsUsed : Super → StoredTable → ℕ → Type 0
IsUsed s t b =
    IsInRange (log_block s.half) (log_block s.half + log_blocks) b
    ⊎ IsOfSlots (used_slots s.table t) b

-- each of these blocks is the same
abbrev pub SameBlocks : (ℕ → Type 0) → Image → Image → Type 0
SameBlocks these old new = (b : ℕ) → these b → block_at new b ≡ block_at old b

-- each block of these slots is
abbrev pub SameSlots : List ℕ → Image → Image → Type 0
SameSlots slots = SameBlocks (IsOfSlots slots)

-- each block that is used is
abbrev pub SameUsed : Super → StoredTable → Image → Image → Type 0
SameUsed s t = SameBlocks (IsUsed s t)
