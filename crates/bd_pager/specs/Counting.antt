-- Which slots kept nodes have, and how many nodes are where.
use Rattle.std.specs.Prelude.{◌≡◌, ◌≢◌, ◌↔◌, ◌+◌, ◌-◌, ◌^◌, ◌<◌, ◌++◌, ◌&&◌, ◌||◌, ℕ, Bool, true, false, not, if◌then◌else◌, is_some, List, length, min, Option, None, Some, IsTrue, slice_set}
use Rattle.std.specs.BTreeSet.{BTreeSet, contains}
use Rattle.std.specs.Ordering.{nat_cmp}
use Rattle.bd_slots.specs.Slots.{IsFree, free_count}
use Rattle.bd_node.specs.Tables.{sum_below}
use Rattle.bd_table.specs.Tables.{slots_of}
use Rattle.bd_table.specs.declared.table.TableEntry.{TableEntry}
use Rattle.bd_pager.specs.declared.place.Place.{Place}
use Rattle.bd_pager.specs.declared.place.Place.TheVariants.{Memory, Slot}
use Rattle.bd_pager.specs.declared.place.Spot.{Spot}
use Rattle.bd_pager.specs.declared.usage.Tally.{Tally}
use Rattle.bd_pager.specs.declared.usage.TheConstants.{NOWHERE}
use Rattle.bd_pager.specs.declared.usage.Usage.{Usage}
use Rattle.bd_pager.specs.Changing.{own_slot}
use Rattle.bd_pager.specs.Pagers.{Paged, spots_of, is_saved, is_changed, touched_at, IsPlaceIn}
use Rattle.bd_pager.specs.Places.{Spots, slot_in}

-- ---- slots

-- the slot is spare, and no kept node has it
abbrev pub IsUnused : List Bool → Spots → ℕ → Type 0
IsUnused spare spots slot = IsFree spare slot × ((id : ℕ) → slot_in (spots id) ≢ Some slot)

-- the slots of kept nodes are slots that there are, own ones are spare, and no two nodes have one;
-- the free ones are those spare ones that none has
pub record AreUnused (spare free : List Bool) (spots : Spots) : Type 0 where
  pub slots : (id : ℕ) (s : Spot) → spots id ≡ Some s → IsPlaceIn spare s.place
  pub apart : (id other slot : ℕ) → slot_in (spots id) ≡ Some slot
      → slot_in (spots other) ≡ Some slot → id ≡ other
  pub count : length free ≡ length spare
  pub free_is : (slot : ℕ) → IsFree free slot ↔ IsUnused spare spots slot

-- ---- numbers

-- the node is in memory, and no slot has it as it is
abbrev pub is_in_memory_at : Place → Bool
is_in_memory_at (Memory node slot) = true
is_in_memory_at (Slot slot copy) = false

abbrev pub is_in_memory : Option Spot → Bool
is_in_memory None = false
is_in_memory (Some s) = is_in_memory_at s.place

-- a spare slot is its own
abbrev pub has_own : List Bool → Option Spot → Bool
has_own spare None = false
has_own spare (Some s) = is_some (own_slot spare s.place)

-- how many of the nodes of ids below the next one pass a test
abbrev pub spot_count : (Option Spot → Bool) → ℕ → Spots → ℕ
spot_count test next spots = sum_below next (λ id. if test (spots id) then 1 else 0)

-- those that were changed or made, and those of them that are in memory, are counted; what isn't
-- free of the spare slots, changed nodes have
pub record AreCounted (next : ℕ) (spots : Spots) (u : Usage) : Type 0 where
  pub fits : next < 2 ^ 64
  pub changed : u.changed ≡ spot_count (is_changed u.spare) next spots
  pub in_memory : u.in_memory ≡ spot_count is_in_memory next spots
  pub free : free_count u.free + spot_count (has_own u.spare) next spots ≡ free_count u.spare

-- ---- ids

abbrev pub IsListed : BTreeSet ℕ → ℕ → Type 0
IsListed ids id = IsTrue (contains nat_cmp ids id)

-- each node in memory is listed
abbrev pub AreListed : Spots → BTreeSet ℕ → Type 0
AreListed spots ids = (id : ℕ) → IsTrue (is_in_memory (spots id)) → IsListed ids id

-- each has an id below this one
abbrev pub AreBelow : ℕ → Spots → Type 0
AreBelow next spots = (id : ℕ) → IsTrue (is_in_memory (spots id)) → id < next

-- ---- all of it

-- what is said of slots and nodes is so
pub record IsTallied (next : ℕ) (spots : Spots) (u : Usage) : Type 0 where
  pub unused : AreUnused u.spare u.free spots
  pub counted : AreCounted next spots u
  pub listed : AreListed spots u.listed

-- ---- how it changes

-- what a spot counts for
abbrev pub tally_of : List Bool → Option Spot → Tally
tally_of spare spot = record { is_changed = is_changed spare spot; is_in_memory = is_in_memory spot }

-- a number after one that was counted, or not, is counted, or not
abbrev pub moved : ℕ → Bool → Bool → ℕ
moved count false true = min (count + 1) (2 ^ 64 - 1)
moved count true false = count - 1
moved count false false = count
moved count true true = count

-- the numbers after one node was moved
abbrev pub recounted : Tally → Tally → Usage → Usage
recounted was now u = record u {
  changed = moved u.changed was.is_changed now.is_changed;
  in_memory = moved u.in_memory was.is_in_memory now.is_in_memory;
}

-- the slots that are free once a node with such an own slot has gone
abbrev pub given : List Bool → Option ℕ → List Bool
given free None = free
given free (Some slot) = slice_set free slot true

-- what is used once a node has gone
abbrev pub dropped : Usage → Option Spot → Usage
dropped u None = u
dropped u (Some s) = recounted (tally_of u.spare (Some s)) NOWHERE
    (record u { free = given u.free (own_slot u.spare s.place) })

-- at most more ids are listed
pub record IsListedMore (old new : Usage) : Type 0 where
  pub same : new ≡ record old { listed = new.listed }
  pub kept : (id : ℕ) → IsListed old.listed id → IsListed new.listed id

-- ---- what is asked of a pager

-- the checkpoint hasn't the kept node, or it was changed since
abbrev pub is_new_or_touched : List TableEntry → List Bool → Spots → ℕ → Bool
is_new_or_touched entries spare spots id =
    is_some (spots id) && (not (is_saved entries id) || touched_at entries spare spots id)

-- how many nodes were made or changed since the last checkpoint
abbrev pub changed_of : {D : Type 0} → Paged D → ℕ
changed_of p = sum_below p.next
    (λ id. if is_new_or_touched p.saved.entries p.spare (spots_of p) id then 1 else 0)

-- how many of them are in memory
abbrev pub memory_of : {D : Type 0} → Paged D → ℕ
memory_of p = spot_count is_in_memory p.next (spots_of p)

-- how many slots the last checkpoint doesn't hold
abbrev pub free_of : {D : Type 0} → Paged D → ℕ
free_of p = length p.spare - length (p.at ++ slots_of p.saved.entries)

-- each slot that the last checkpoint doesn't hold is a changed node's
abbrev pub IsFull : {D : Type 0} → Paged D → Type 0
IsFull p = (slot : ℕ) → ¬ IsUnused p.spare (spots_of p) slot
