-- What a crash may leave while blocks are written and committed.
use Rattle.std.specs.Prelude.{◌≡◌, ℕ, ◌+◌, ◌⊎◌, List}
use Rattle.bd_device.specs.Blocks.{Image}
use Rattle.bd_device.specs.Changes.{SameBut, IsInRange, bytes_at}
use Rattle.bd_device.specs.Commits.{IsCommitted}

-- The commit block is committed, the blocks after it have these bytes, and the commit block after
-- them isn't committed.
pub record IsWholeAt (commit blocks : ℕ) (bytes : List ℕ) (image : Image) : Type 0 where
  pub committed : IsCommitted image commit
  pub body : bytes_at image (commit + 1) blocks ≡ bytes
  pub ends : ¬ IsCommitted image (commit + 1 + blocks)

-- an image of before, but for the blocks of a body and the commit blocks around it; a body whose
-- commit block wasn't committed is not there, or whole
abbrev pub IsNoneOrWhole : ℕ → ℕ → List ℕ → (Image → Type 0) → Image → Type 0
IsNoneOrWhole commit blocks bytes before c =
    (d : Image) × before d × SameBut (IsInRange commit (commit + blocks + 2)) d c
    × ((¬ IsCommitted d commit → ¬ IsCommitted c commit) ⊎ IsWholeAt commit blocks bytes c)

-- the same, where the body is whole
abbrev pub WasWritten : ℕ → ℕ → List ℕ → (Image → Type 0) → Image → Type 0
WasWritten commit blocks bytes before c =
    (d : Image) × before d × SameBut (IsInRange commit (commit + blocks + 2)) d c
    × IsWholeAt commit blocks bytes c
