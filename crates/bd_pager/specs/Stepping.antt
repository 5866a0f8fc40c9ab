-- What steps make of what is known of nodes.
use Rattle.std.specs.Prelude.{◌≤◌, ◌==◌, ◌++◌, ℕ, suc, if◌then◌else◌, Bool, List, [], ◌∷◌, Option, None, Some}
use Rattle.std.specs.Global.{Global}
use Rattle.std.specs.HashMap.{HashMap, spare}
use Rattle.std.specs.declared.rc.Rc.{Rc}
use Rattle.bd_node.specs.declared.node.Change.{Change}
use Rattle.bd_node.specs.declared.node.Node.{Node}
use Rattle.bd_node.specs.declared.node.Step.{Step}
use Rattle.bd_node.specs.Nodes.{level_of}
use Rattle.bd_counts.specs.Naming.{times_among}
use Rattle.bd_pager.specs.declared.place.Place.{Place}
use Rattle.bd_pager.specs.declared.place.Place.TheVariants.{Memory, Slot}
use Rattle.bd_pager.specs.declared.place.Spot.{Spot}
use Rattle.bd_pager.specs.declared.stepping.Put.{Put}
use Rattle.bd_pager.specs.declared.usage.TheConstants.{IN_MEMORY}
use Rattle.bd_pager.specs.declared.usage.Usage.{Usage}
use Rattle.bd_pager.specs.Counting.{tally_of, recounted}
use Rattle.bd_pager.specs.Changing.{own_slot}
use Rattle.bd_pager.specs.Places.{refs_in}

-- so many more ids fit into memory that is taken
abbrev pub HasRoomFor : {S : Type 0} → ℕ → HashMap ℕ Spot S → Type 0
HasRoomFor count spots = count ≤ spare spots

-- ---- nodes that are put

-- the node that is held
abbrev pub held : Rc Node Global → Node
held node = node.value

-- the change that puts a node
abbrev pub change_of : Put → Change
change_of put = record { id = put.id; node = put.node.value }

-- the node that is put for an id: the first one
abbrev pub put_at : List Put → ℕ → Option (Rc Node Global)
put_at [] id = None
put_at (p ∷ ps) id = if id == p.id then Some p.node else put_at ps id

-- the slot that a node has of its own once it is put: that of the one before it, if it had one
abbrev pub own_slot_in : List Bool → Option Spot → Option ℕ
own_slot_in spare_slots None = None
own_slot_in spare_slots (Some s) = own_slot spare_slots s.place

-- what is known of a node that is put: it is in memory, and its count is the one before
abbrev pub put_spot : List Bool → Rc Node Global → Option Spot → Spot
put_spot spare_slots node old = record {
  refs = refs_in old;
  level = level_of node.value;
  place = Memory node (own_slot_in spare_slots old);
}

abbrev pub with_put : List Bool → Option (Rc Node Global) → Option Spot → Option Spot
with_put spare_slots None old = old
with_put spare_slots (Some node) old = Some (put_spot spare_slots node old)

-- ---- counts, and nodes that go

-- with another count, if there is one
abbrev pub with_count : Option ℕ → Option Spot → Option Spot
with_count None old = old
with_count (Some count) None = None
with_count (Some count) (Some s) = Some (record s { refs = count })

-- what is used once a node is put where this was known of the one before it
abbrev pub put_usage : Option Spot → Usage → Usage
put_usage old u =
    recounted (tally_of u.spare old) IN_MEMORY u

-- nothing, where the id is one of these
abbrev pub without_all : {X : Type 0} → List ℕ → ℕ → Option X → Option X
without_all gone id old = if times_among gone id == 0 then old else None

-- ---- copies of nodes that are in slots

-- the place with this copy, where it is a slot without one
abbrev pub copied : Rc Node Global → Place → Place
copied node (Memory own slot) = Memory own slot
copied node (Slot slot None) = Slot slot (Some node)
copied node (Slot slot (Some own)) = Slot slot (Some own)

-- the place without a copy
abbrev pub bare : Place → Place
bare (Memory own slot) = Memory own slot
bare (Slot slot copy) = Slot slot None

abbrev pub with_copy : Option (Rc Node Global) → Option Spot → Option Spot
with_copy None old = old
with_copy (Some node) None = None
with_copy (Some node) (Some s) = Some (record s { place = copied node s.place })

abbrev pub without_copy : Option Spot → Option Spot
without_copy None = None
without_copy (Some s) = Some (record s { place = bare s.place })

-- the new root with this copy, and the old one without a copy
abbrev pub moved_copy : ℕ → ℕ → Option (Rc Node Global) → ℕ → Option Spot → Option Spot
moved_copy old root copy id spot =
    if id == root then with_copy copy spot else (if id == old then without_copy spot else spot)

-- ---- nodes that a step gives

-- made nodes as changes of the next ids
abbrev pub made_changes : ℕ → List Node → List Change
made_changes next [] = []
made_changes next (n ∷ ns) = record { id = next; node = n } ∷ made_changes (suc next) ns

-- the nodes that a step gives, the made ones first
abbrev pub given_changes : ℕ → Step → List Change
given_changes next step = made_changes next step.made ++ step.changes
