-- Which blocks calls of an engine write.
use Rattle.std.specs.Prelude.{◌≡◌, ◌+◌, ◌≤◌, ◌⊎◌, ℕ, List, Bool, None}
use Rattle.bd_limits.specs.Limits.{first_slot_block}
use Rattle.bd_device.specs.Changes.{StaysBut}
use Rattle.bd_device.specs.declared.device.Device.{Ghosts}
use Rattle.bd_super.specs.Published.{IsOfHalf}
use Rattle.bd_super.specs.Superblocks.{other}
use Rattle.bd_super.specs.declared.superblock.Half.TheVariants.{A, B}
use Rattle.bd_pager.specs.Slots.{IsSpare}
use Rattle.bd_checkpoint.specs.Surviving.{IsOfHalfOrSpare}
use Rattle.bd_engine.specs.Engines.{EngineState}

-- the block is a superblock's, or the first one of a half of the log: no other block before the
-- slots is written where a superblock is published
abbrev pub IsPublishing : ℕ → Type 0
IsPublishing b = IsOfHalf A b ⊎ IsOfHalf B b

-- or it is one of the slots
abbrev pub IsPublishingOrSlot : ℕ → Type 0
IsPublishingOrSlot b = IsPublishing b ⊎ (first_slot_block ≤ b)

-- or of a slot that is spare before or after
abbrev pub IsPublishingOrSpare : List Bool → List Bool → ℕ → Type 0
IsPublishingOrSpare before after b = IsPublishing b ⊎ IsSpare before b ⊎ IsSpare after b

-- no checkpoint was made: the last one stays, and no more was written than slots that it doesn't
-- hold, and the three blocks by which another one would be published; none of those, unless a write
-- or a barrier failed
pub record WritesUnsaved {D : Type 0} (g : Ghosts D) (old new : EngineState D) : Type 0 where
  pub live : new.live ≡ old.live
  pub spare : new.pager.spare ≡ old.pager.spare
  pub slots : StaysBut (IsOfHalfOrSpare (other old.live.half) old.pager.spare)
      (g.contents old.pager.dev) (g.contents new.pager.dev)
  pub going : new.stop ≡ None → StaysBut (IsSpare old.pager.spare)
      (g.contents old.pager.dev) (g.contents new.pager.dev)

-- what calls have written, also where one failed, as far as the device tells what it has: of the log
-- no more than the first block of each half. With no checkpoint made it is what is said above; with
-- one, slots stay that both it and the one before hold
pub record WritesOn {D : Type 0} (g : Ghosts D) (old new : EngineState D) : Type 0 where
  pub later : old.live.epoch ≤ new.live.epoch
  pub log : StaysBut IsPublishingOrSlot (g.contents old.pager.dev) (g.contents new.pager.dev)
  pub none : new.live.epoch ≡ old.live.epoch → WritesUnsaved g old new
  pub once : new.live.epoch ≡ old.live.epoch + 1
      → StaysBut (IsPublishingOrSpare old.pager.spare new.pager.spare)
      (g.contents old.pager.dev) (g.contents new.pager.dev)
