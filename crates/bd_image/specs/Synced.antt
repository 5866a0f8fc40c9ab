-- What an image stands for once its log has more records.
use Rattle.std.specs.Prelude.{◌≡◌, ◌+◌, ℕ, List, length}
use Rattle.bd_model.specs.Tree.{Tree}
use Rattle.bd_device.specs.Blocks.{Image}
use Rattle.bd_table.specs.declared.table.Table.{Table as StoredTable}
use Rattle.bd_super.specs.Superblocks.{log_block}
use Rattle.bd_super.specs.declared.superblock.Super.{Super}
use Rattle.bd_log.specs.Logs.{LogState}
use Rattle.bd_image.specs.Versions.{version_of}
use Rattle.bd_image.specs.ImageTree.{LeadsOn, HasTree}

-- the log is in the superblock's half, and of its epoch
pub record IsLogOf (s : Super) (log : LogState) : Type 0 where
  pub first : log.first ≡ log_block s.half
  pub epoch : log.epoch ≡ s.epoch

-- the image stands for the tree that these records lead to from another one
abbrev pub HasTreeAfter : List (List ℕ) → Super → StoredTable → ℕ → Tree → ℕ → Image → Type 0
HasTreeAfter records s t place tree count image =
    (last : Tree) → LeadsOn (version_of s) records tree last
    → HasTree s t place last (count + length records) image
