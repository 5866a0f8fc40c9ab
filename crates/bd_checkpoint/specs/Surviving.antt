-- What stays of a pager while blocks before the slots change.
use Rattle.std.specs.Prelude.{◌≡◌, ◌<◌, ◌⊎◌, ℕ, List, Bool}
use Rattle.bd_limits.specs.Limits.{first_slot_block}
use Rattle.bd_device.specs.Changes.{StaysBut}
use Rattle.bd_device.specs.declared.device.Device.{Ghosts}
use Rattle.bd_super.specs.Published.{IsOfHalf}
use Rattle.bd_super.specs.declared.superblock.Half.{Half}
use Rattle.bd_pager.specs.Slots.{IsSpare}
use Rattle.bd_pager.specs.Pagers.{Paged, spots_of, nodes_of, is_known}
use Rattle.bd_pager.specs.Places.{NoneTurnsBad}

-- the block is before the slots
abbrev pub IsLow : ℕ → Type 0
IsLow b = b < first_slot_block

-- the block is before the slots, or of a spare one
abbrev pub IsLowOrSpare : List Bool → ℕ → Type 0
IsLowOrSpare spare b = IsLow b ⊎ IsSpare spare b

-- the block is one of the three that publishing in a half writes, or of a spare slot
abbrev pub IsOfHalfOrSpare : Half → List Bool → ℕ → Type 0
IsOfHalfOrSpare half spare b = IsOfHalf half b ⊎ IsSpare spare b

-- only its device has changed, and of that only blocks before the slots; its nodes are those of
-- before, and no block becomes bad
pub record SurvivesOn {D : Type 0} (g : Ghosts D) (old new : Paged D) : Type 0 where
  pub rest : new ≡ record old { dev = new.dev }
  pub elsewhere : StaysBut IsLow (g.contents old.dev) (g.contents new.dev)
  pub nodes : nodes_of g new ≡ nodes_of g old
  pub known : is_known g old → is_known g new
  pub bad : NoneTurnsBad (g.contents old.dev) (spots_of old) (g.contents new.dev) (spots_of new)
