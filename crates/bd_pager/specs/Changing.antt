-- Nodes that are changed in memory.
use Rattle.std.specs.Prelude.{◌≡◌, ◌≢◌, ℕ, Bool, List, Option, Some, slice_get}
use Rattle.std.specs.Global.{Global}
use Rattle.std.specs.declared.rc.Rc.{Rc}
use Rattle.bd_node.specs.declared.node.Node.{Node}
use Rattle.bd_slots.specs.Slots.{slot_if}
use Rattle.bd_pager.specs.declared.place.Place.{Place}
use Rattle.bd_pager.specs.declared.place.Place.TheVariants.{Memory, Slot}
use Rattle.bd_pager.specs.declared.place.Spot.{Spot}
use Rattle.bd_pager.specs.Places.{Spots}

-- the slot that a node from this place has of its own once it is changed
abbrev pub own_slot : List Bool → Place → Option ℕ
own_slot spare (Memory node slot) = slot
own_slot spare (Slot slot copy) = slot_if (slice_get spare slot) slot

-- the place of a node that was changed to this one
pub record IsChangedPlace (spare : List Bool) (n : Node) (old new : Place) : Type 0 where
  pub node : Rc Node Global
  pub value : node.value ≡ n
  pub place : new ≡ Memory node (own_slot spare old)

-- what is then known of it
pub record IsChangedSpot (spare : List Bool) (n : Node) (old new : Spot) : Type 0 where
  pub refs : new.refs ≡ old.refs
  pub level : new.level ≡ old.level
  pub place : IsChangedPlace spare n old.place new.place

-- the node of this id alone was changed, to this one
pub record IsChangedAt (spare : List Bool) (id : ℕ) (n : Node) (old new : Spots) : Type 0 where
  pub was : Spot
  pub there : old id ≡ Some was
  pub now : Spot
  pub here : new id ≡ Some now
  pub changed : IsChangedSpot spare n was now
  pub others : (i : ℕ) → i ≢ id → new i ≡ old i
