-- What an image has of superblocks, and which one it starts from.
use Rattle.std.specs.Prelude.{◌≡◌, ◌<◌, ◌⊎◌, ℕ, length, Option, Some, None}
use Rattle.bd_limits.specs.Limits.{slot_minimum}
use Rattle.bd_slots.specs.Layout.{image_blocks}
use Rattle.bd_device.specs.Blocks.{Image}
use Rattle.bd_device.specs.Commits.{block_at, IsCommitted}
use Rattle.bd_super.specs.Superblocks.{IsSuper, super_body, commit_block, body_block, other}
use Rattle.bd_super.specs.declared.superblock.Half.{Half}
use Rattle.bd_super.specs.declared.superblock.Half.TheVariants.{A, B}
use Rattle.bd_super.specs.declared.superblock.Super.{Super}

-- no half is committed
abbrev pub NoneIsCommitted : Image → Type 0
NoneIsCommitted image =
    ¬ IsCommitted image (commit_block A) × ¬ IsCommitted image (commit_block B)

-- the superblock stands in its half: it is committed, its body encodes it, and it names the size
-- of the image
pub record Holds (image : Image) (s : Super) : Type 0 where
  pub committed : IsCommitted image (commit_block s.half)
  pub fits : IsSuper s
  pub body : block_at image (body_block s.half) ≡ super_body s
  pub size : length image ≡ image_blocks s.slots

-- this half holds a superblock
abbrev pub HoldsIn : Image → Half → Type 0
HoldsIn image half = (s : Super) × (s.half ≡ half) × Holds image s

-- this half holds an older superblock
abbrev pub HoldsOlder : Image → Half → ℕ → Type 0
HoldsOlder image half epoch =
    (s : Super) × (s.half ≡ half) × Holds image s × (s.epoch < epoch)

-- the superblock that the image starts from: the other half, if it is committed, holds an older one
pub record IsLive (image : Image) (s : Super) : Type 0 where
  pub held : Holds image s
  pub newest : IsCommitted image (commit_block (other s.half))
      → HoldsOlder image (other s.half) s.epoch

-- the half is committed and holds no superblock of an image of this size
pub record IsBad (image : Image) (half : Half) : Type 0 where
  pub committed : IsCommitted image (commit_block half)
  pub none : ¬ HoldsIn image half

-- both halves hold a superblock of one epoch
abbrev pub HasEqualEpochs : Image → Type 0
HasEqualEpochs image = (s o : Super) × (s.half ≡ A) × (o.half ≡ B) × Holds image s × Holds image o
    × (s.epoch ≡ o.epoch)

-- no half is committed, or there are fewer blocks than an image has at least
abbrev pub IsNoImage : Image → Type 0
IsNoImage image = (length image < image_blocks slot_minimum) ⊎ NoneIsCommitted image

-- the second half is bad where the first one isn't, or both have one epoch
abbrev pub IsBadLater : Image → Type 0
IsBadLater image = (IsBad image B × ¬ IsBad image A) ⊎ HasEqualEpochs image

-- this block is why the image has no live superblock: the first one, or a body
abbrev pub IsDamaged : Image → ℕ → Type 0
IsDamaged image b =
    ((b ≡ 0) × IsNoImage image)
    ⊎ ((b ≡ body_block A) × (¬ IsNoImage image) × IsBad image A)
    ⊎ ((b ≡ body_block B) × (¬ IsNoImage image) × IsBadLater image)

-- what a half holds: a superblock, or none, as it isn't committed
abbrev pub HasInHalf : Image → Half → Option Super → Type 0
HasInHalf image half (Some s) = (s.half ≡ half) × Holds image s
HasInHalf image half None = ¬ IsCommitted image (commit_block half)
