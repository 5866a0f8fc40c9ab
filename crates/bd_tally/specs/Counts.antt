-- Counts that are counted down: how many names of each entry of a table are still to come.
use Rattle.std.specs.Prelude.{◌≡◌, ℕ, ◌-◌, ◌<◌, Bool, false, ◌||◌, nat_lt, if◌then◌else◌, List, [], ◌∷◌, length, map, Option, None, Some, AllPairs, HoldsAt}
use Rattle.bd_table.specs.declared.table.TableEntry.{TableEntry}
use Rattle.bd_counts.specs.Naming.{times_among}
use Rattle.bd_tally.specs.declared.count.Count.{Count}

-- the ids rise
abbrev pub AreRising : List Count → Type 0
AreRising counts = AllPairs (λ c o. c.id < o.id) counts

-- the count of an id stands at this place
pub record IsPlaceOf (counts : List Count) (id place : ℕ) : Type 0 where
  pub within : place < length counts
  pub of_id : HoldsAt (λ c. c.id ≡ id) counts place

-- an entry's count before any name came
abbrev pub first_count : TableEntry → Count
first_count e = record { id = e.id; left = e.refs; over = false }

-- a count after this many names more: so many less are left, and where fewer were, more came
abbrev pub count_after : ℕ → Count → Count
count_after n c = record { id = c.id; left = c.left - n; over = nat_lt c.left n || c.over }

-- counts after these names
abbrev pub counts_after : List ℕ → List Count → List Count
counts_after names counts = map (λ c. count_after (times_among names c.id) c) counts

-- names are left, or more came
abbrev pub is_wrong : Count → Bool
is_wrong c = c.over || nat_lt 0 c.left

-- the id of the first count that is wrong
abbrev pub first_wrong : List Count → Option ℕ
first_wrong [] = None
first_wrong (c ∷ cs) = if is_wrong c then Some c.id else first_wrong cs
