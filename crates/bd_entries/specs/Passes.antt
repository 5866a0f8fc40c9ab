-- How far a pass over the keys of a map has come.
use Rattle.std.specs.Prelude.{◌≡◌, ℕ, ◌+◌, ◌≤◌, Bool, List, Option, None, Some, ⊤}
use Rattle.bd_message.specs.KeyMaps.{At}
use Rattle.bd_entries.specs.declared.mark.Mark.{Mark}
use Rattle.bd_entries.specs.declared.pass.Pass.{Pass}
use Rattle.bd_entries.specs.declared.pass.Went.{Went}
use Rattle.bd_entries.specs.declared.pass.Went.TheVariants.{On, Broken, Limit}
use Rattle.bd_entries.specs.Fronts.{HasBelow}
use Rattle.bd_entries.specs.Marks.{IsSeen}
use Rattle.bd_entries.specs.Verdicts.{IsBroken, IsOver}

-- the mark is the last record below a key, and there is none where no key was seen
abbrev pub IsMarkedTo : Bool → At → List ℕ → ℕ → Option Mark → Type 0
IsMarkedTo has_modes at low keys None = keys ≡ 0
IsMarkedTo has_modes at low keys (Some mark) = IsSeen has_modes at low mark

-- the keys that were seen are those below a key, and a tree has what stands there
pub record IsPassed (has_modes : Bool) (at : At) (low : List ℕ) (pass : Pass) : Type 0 where
  pub below : HasBelow at pass.keys low
  pub seen : IsMarkedTo has_modes at low pass.keys pass.mark

-- the pass went on up to a key, or ended with a right verdict
abbrev pub HasWent : Bool → At → ℕ → List ℕ → Went → Type 0
HasWent has_modes at most low (On pass) = IsPassed has_modes at low pass
HasWent has_modes at most low Broken = IsBroken has_modes at most
HasWent has_modes at most low Limit = IsOver has_modes at most

-- a pass that went on has seen so many keys more, and no more than are looked at
abbrev pub HasCounted : ℕ → ℕ → ℕ → Went → Type 0
HasCounted keys found most (On pass) = (pass.keys ≡ keys + found) × (pass.keys ≤ most)
HasCounted keys found most Broken = ⊤
HasCounted keys found most Limit = ⊤
