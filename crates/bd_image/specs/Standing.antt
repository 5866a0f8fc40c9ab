-- What images stand for beside those of before.
use Rattle.std.specs.Prelude.{◌+◌, ◌⊎◌, ℕ, List, length}
use Rattle.bd_model.specs.Tree.{Tree}
use Rattle.bd_device.specs.Blocks.{Image}
use Rattle.bd_image.specs.ImageTree.{LeadsOn, ImageStandsFor}

-- the one stands for all that the other stands for
abbrev pub StandsAs : Image → Image → Type 0
StandsAs old new =
    (tree : Tree) (count : ℕ) → ImageStandsFor tree count old → ImageStandsFor tree count new

-- it stands for all that one of these images stands for
abbrev pub IsAsBefore : (Image → Type 0) → Image → Type 0
IsAsBefore before image = (old : Image) × before old × StandsAs old image

-- it stands for all that one of these images stands for, or for a new tree and count
abbrev pub IsOldOrNew : (Image → Type 0) → Tree → ℕ → Image → Type 0
IsOldOrNew before tree count image = IsAsBefore before image ⊎ ImageStandsFor tree count image

-- it stands for all that one of these images stands for, after these records too
abbrev pub IsWithRecords : ℕ → List (List ℕ) → (Image → Type 0) → Image → Type 0
IsWithRecords version records before image =
    (old : Image) × before old × ((tree new : Tree) (count : ℕ) → ImageStandsFor tree count old
    → LeadsOn version records tree new → ImageStandsFor new (count + length records) image)
