-- What a crash may leave while a superblock is published.
use Rattle.std.specs.Prelude.{◌≡◌, ◌<◌, ◌⊎◌, ◌↔◌, ℕ, length, Option, IsSomeAnd, Result, OnOk, OnErr}
use Rattle.bd_limits.specs.Places.{first_log_block}
use Rattle.bd_io.specs.Cause.{next_count}
use Rattle.bd_device.specs.Blocks.{Image}
use Rattle.bd_device.specs.Changes.{SameBut}
use Rattle.bd_device.specs.Device.{OnlyReads}
use Rattle.bd_device.specs.declared.device.Device.{Ghosts}
use Rattle.bd_device.specs.Commits.{block_at, IsCommitted}
use Rattle.bd_super.specs.Live.{IsLive, NoneIsCommitted}
use Rattle.bd_super.specs.Superblocks.{commit_block, body_block, log_block, other}
use Rattle.bd_super.specs.declared.superblock.Half.{Half}
use Rattle.bd_super.specs.declared.superblock.Super.{Super}

-- the block is one of the three that publishing in a half writes
abbrev pub IsOfHalf : Half → ℕ → Type 0
IsOfHalf half b = (b ≡ commit_block half) ⊎ (b ≡ body_block half) ⊎ (b ≡ log_block half)

-- the same superblock is live, or none
abbrev pub SameLive : Image → Image → Type 0
SameLive old new = (s : Super) → IsLive old s ↔ IsLive new s

-- not published: an image of before with the same live superblock, all blocks but those three the
-- same
pub record IsStaged (half : Half) (before : Image → Type 0) (new : Image) : Type 0 where
  pub old : Image
  pub was : before old
  pub outside : SameBut (IsOfHalf half) old new
  pub live : SameLive old new

-- published: the superblock is live, its log is empty, and all blocks but those three are what
-- reads gave
pub record IsPublished (s : Super) (known : Option Image) (new : Image) : Type 0 where
  pub outside : IsSomeAnd known (λ old. SameBut (IsOfHalf s.half) old new)
  pub live : IsLive new s
  pub log : ¬ IsCommitted new (log_block s.half)

-- either of them
abbrev pub IsStagedOrPublished : Super → Option Image → (Image → Type 0) → Image → Type 0
IsStagedOrPublished s known before new = IsStaged s.half before new ⊎ IsPublished s known new

-- as many blocks, of which those of the superblocks are the same
pub record SameSuperblocks (old new : Image) : Type 0 where
  pub size : length new ≡ length old
  pub blocks : (b : ℕ) → b < first_log_block → block_at new b ≡ block_at old b

-- a crash leaves the superblocks that reads give
abbrev pub AreSettled : Option Image → (Image → Type 0) → Type 0
AreSettled known left = (c : Image) → left c → IsSomeAnd known (λ image. SameSuperblocks image c)

-- the other half's superblock is live
abbrev pub IsLiveBeside : Half → Image → Type 0
IsLiveBeside half image = (l : Super) × IsLive image l × (l.half ≡ other half)

-- the superblock can be the next one: the other half's is live with a lower epoch, or none is
abbrev pub CanFollow : Super → Image → Type 0
CanFollow s image = NoneIsCommitted image
    ⊎ ((l : Super) × IsLive image l × (l.half ≡ other s.half) × (l.epoch < s.epoch))

-- the count of failed writes: an Ok call leaves it; a call that fails adds one, or else it has only
-- read
pub record CountsWrites {D T E : Type 0} (g : Ghosts D) (old new : D) (result : Result T E)
    : Type 0 where
  pub kept : OnOk result (g.write_fault_count new ≡ g.write_fault_count old)
  pub failed : OnErr result
      ((g.write_fault_count new ≡ next_count (g.write_fault_count old)) ⊎ OnlyReads g old new)
