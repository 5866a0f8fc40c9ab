-- A set of slots as a list of flags, one a slot, that are true where the slot is free.
use Rattle.std.specs.Prelude.{◌≡◌, ◌<◌, ℕ, Bool, true, false, List, Option, None, Some, slice_get, count_by}

-- the slot is one of the free ones
abbrev pub IsFree : List Bool → ℕ → Type 0
IsFree slots slot = slice_get slots slot ≡ Some true

-- the slot is one of those that are not free
abbrev pub IsHeld : List Bool → ℕ → Type 0
IsHeld slots slot = slice_get slots slot ≡ Some false

-- the slot is the first of the free ones
abbrev pub IsFirstFree : List Bool → ℕ → Type 0
IsFirstFree slots slot = IsFree slots slot × ((other : ℕ) → other < slot → IsHeld slots other)

-- the slot, where it is a free one
abbrev pub slot_if : Option Bool → ℕ → Option ℕ
slot_if None slot = None
slot_if (Some false) slot = None
slot_if (Some true) slot = Some slot

-- how many slots are free
abbrev pub free_count : List Bool → ℕ
free_count slots = count_by (λ is_free. is_free) slots
