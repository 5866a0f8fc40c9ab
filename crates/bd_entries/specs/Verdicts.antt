-- What is found out of the keys of a map.
use Rattle.std.specs.Prelude.{◌≡◌, ℕ, ◌≤◌, Bool, List}
use Rattle.bd_message.specs.KeyMaps.{At}
use Rattle.bd_entries.specs.declared.check.Entries.{Entries}
use Rattle.bd_entries.specs.declared.check.Entries.TheVariants.{Tree, Broken, Limit}
use Rattle.bd_entries.specs.Fronts.{HasTree, HasNoTree, before, HasBelow, EndsAt}

-- a tree has what stands at the keys, which are so many and no more than are looked at
pub record IsWhole (has_modes : Bool) (at : At) (most keys : ℕ) : Type 0 where
  pub tree : HasTree has_modes at
  pub few : keys ≤ most
  pub low : List ℕ
  pub below : HasBelow at keys low
  pub ends : EndsAt at low

-- no tree has what stands at the keys, and none has what stands at the first of them, which are no
-- more than are looked at; they are none only where no key has a value
pub record IsBroken (has_modes : Bool) (at : At) (most : ℕ) : Type 0 where
  pub none : HasNoTree has_modes at
  pub keys : ℕ
  pub few : keys ≤ most
  pub low : List ℕ
  pub below : HasBelow at keys low
  pub front : HasNoTree has_modes (before at low)
  pub ends : keys ≡ 0 → EndsAt at low

-- a tree has what stands at the first keys, as many as are looked at, and there are more
pub record IsOver (has_modes : Bool) (at : At) (most : ℕ) : Type 0 where
  pub low : List ℕ
  pub below : HasBelow at most low
  pub front : HasTree has_modes (before at low)
  pub more : ¬ EndsAt at low

-- the verdict is right of the map, of which so many keys are looked at
abbrev pub IsVerdict : Bool → At → ℕ → Entries → Type 0
IsVerdict has_modes at most (Tree keys) = IsWhole has_modes at most keys
IsVerdict has_modes at most Broken = IsBroken has_modes at most
IsVerdict has_modes at most Limit = IsOver has_modes at most
