-- What is written for the next checkpoint beside its nodes.
use Rattle.std.specs.Prelude.{◌≡◌, ◌<◌, ◌≤◌, ℕ, Bool, true, List, length, map, replicate, ◌++◌, Option, None, Some, All, AllPairs, Contains, IsSome}
use Rattle.bd_limits.specs.Limits.{level_limit}
use Rattle.bd_slots.specs.Layout.{AreSlots, table_length}
use Rattle.bd_slots.specs.Slots.{IsFree}
use Rattle.bd_table.specs.Tables.{AreFreeSlots, FitsTableEntry, slots_of}
use Rattle.bd_table.specs.declared.table.TableEntry.{TableEntry}
use Rattle.bd_pager.specs.declared.draft.Draft.{Draft}
use Rattle.bd_pager.specs.declared.place.Spot.{Spot}
use Rattle.bd_pager.specs.declared.written.Written.{Written}
use Rattle.bd_pager.specs.Places.{Spots, refs_in, level_in, slot_in}

-- the slot, or 0 where there is none
abbrev pub slot_or_first : Option ℕ → ℕ
slot_or_first None = 0
slot_or_first (Some slot) = slot

-- what a table says of a node in a slot
abbrev pub entry_of : ℕ → Option Spot → TableEntry
entry_of id spot = record {
  id = id;
  refs = refs_in spot;
  slot = slot_or_first (slot_in spot);
  level = level_in spot;
}

abbrev pub entries_of : Spots → List ℕ → List TableEntry
entries_of spots ids = map (λ id. entry_of id (spots id)) ids

-- the ids of the kept nodes, which rise
pub record AreKeptIds (ids : List ℕ) (spots : Spots) : Type 0 where
  pub rising : AllPairs (λ id other. id < other) ids
  pub kept : All (λ id. IsSome (spots id)) ids
  pub all : (id : ℕ) → IsSome (spots id) → Contains ids id

-- the ids of these nodes, room for their entries and for the slots of the table, and two sets of so
-- many slots, all of them
pub record IsDraftOf (slots : ℕ) (spots : Spots) (d : Draft) : Type 0 where
  pub ids : AreKeptIds d.ids.items spots
  pub entries : length d.entries.items ≡ length d.ids.items
  pub at : length d.at.items ≡ table_length (length d.ids.items)
  pub copy : length d.copy.items ≡ length d.at.items
  pub spare : d.spare ≡ replicate slots true
  pub free : d.free ≡ replicate slots true

-- a table of these nodes in slots of these free ones, and the slots that neither has
pub record IsFilled (free : List Bool) (spots : Spots) (ids : List ℕ) (root next : ℕ)
    (w : Written) : Type 0 where
  pub entries : w.table.entries ≡ entries_of spots ids
  pub fits : All FitsTableEntry w.table.entries
  pub root_is : w.table.root ≡ root
  pub next_is : w.table.next_id ≡ next
  pub length_is : length w.at ≡ table_length (length ids)
  pub at : All (IsFree free) w.at
  pub differ : AreSlots (length free) (w.at ++ slots_of w.table.entries)
  pub spare_is : AreFreeSlots (length free) (w.at ++ slots_of w.table.entries) w.spare
  pub free_is : AreFreeSlots (length free) (w.at ++ slots_of w.table.entries) w.free

-- kept nodes that have a table: its root is no leaf, and each of them has an id from 1 on and below
-- the next one, is named, and has a level up to 1,000
pub record HaveTable (root next : ℕ) (spots : Spots) : Type 0 where
  pub named : 1 ≤ refs_in (spots root)
  pub inner : 1 ≤ level_in (spots root)
  pub each : (id : ℕ) (s : Spot) → spots id ≡ Some s
      → (1 ≤ id) × (id < next) × (1 ≤ s.refs) × (s.level ≤ level_limit)
