-- What a crash may leave of a device: the images after a crash at some moment, also inside a call.
use Rattle.std.specs.Prelude.{◌≡◌, ℕ, ◌≤◌, ◌⊎◌, List, Option, Some, slice_set}
use Rattle.bd_device.specs.Blocks.{Image, IsBlock}

-- no image
abbrev pub Nothing : Image → Type 0
Nothing c = ⊥

-- one of these images in which a block was torn: it holds any bytes
abbrev pub TornAt : ℕ → (Image → Type 0) → Image → Type 0
TornAt b before c =
    (d : Image) × before d × (bytes : List ℕ) × IsBlock bytes × (c ≡ slice_set d b bytes)

-- Calls go on: since each earlier one a crash might have left what it might have left before them,
-- and what a crash inside them leaves.
pub record Elapses (before after : ℕ) (old new : ℕ → Image → Type 0)
    (inside : Image → Type 0) : Type 0 where
  pub later : before ≤ after
  pub keeps : (t : ℕ) (c : Image) → t ≤ before → old t c → new t c
  pub adds : (t : ℕ) (c : Image) → t ≤ before → new t c → old t c ⊎ inside c

-- each of these images is what reads give
abbrev pub IsOnly : Option Image → (Image → Type 0) → Type 0
IsOnly contents left = (c : Image) → left c → contents ≡ Some c
