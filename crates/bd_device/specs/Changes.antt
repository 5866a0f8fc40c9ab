-- What changes of an image, and what stays.
use Rattle.std.specs.Prelude.{◌≡◌, ⊤, ℕ, ◌≤◌, ◌<◌, List, length, take, drop, Option, None, Some}
use Rattle.std.specs.List.{concat}
use Rattle.bd_device.specs.Blocks.{Image}
use Rattle.bd_device.specs.Commits.{block_at}

-- as many blocks, of which all but the changed ones are the same
pub record SameBut (changed : ℕ → Type 0) (old new : Image) : Type 0 where
  pub size : length new ≡ length old
  pub others : (b : ℕ) → ¬ changed b → block_at new b ≡ block_at old b

-- the same of what reads give, and as much of it is known
abbrev pub StaysBut : (ℕ → Type 0) → Option Image → Option Image → Type 0
StaysBut changed None None = ⊤
StaysBut changed (Some old) (Some new) = SameBut changed old new
StaysBut changed _ _ = ⊥

-- an image of before, but for the changed blocks
abbrev pub IsBeforeBut : (ℕ → Type 0) → (Image → Type 0) → Image → Type 0
IsBeforeBut changed before new = (old : Image) × before old × SameBut changed old new

-- the block is in a range, which begins at `from` and ends before `to`
abbrev pub IsInRange : ℕ → ℕ → ℕ → Type 0
IsInRange from to b = (from ≤ b) × (b < to)

-- the bytes of so many blocks in a row
abbrev pub bytes_at : Image → ℕ → ℕ → List ℕ
bytes_at image b count = concat (take count (drop b image))
