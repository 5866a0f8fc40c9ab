-- Commit blocks: blocks that say whether what they stand for is complete.
use Rattle.std.specs.Prelude.{◌≡◌, ℕ, List, [], slice_index, slice_index_or}
use Rattle.bd_device.specs.Blocks.{Image}

-- the bytes of a block
abbrev pub block_at : Image → ℕ → List ℕ
block_at image b = slice_index_or image b []

-- the bytes of a commit block that is committed: exactly those whose first byte is 1
abbrev pub IsCommit : List ℕ → Type 0
IsCommit bytes = slice_index bytes 0 ≡ 1

-- the block is committed
abbrev pub IsCommitted : Image → ℕ → Type 0
IsCommitted image b = IsCommit (block_at image b)
