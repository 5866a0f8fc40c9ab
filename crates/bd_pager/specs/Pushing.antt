-- What a push leaves of what is known of nodes.
use Rattle.std.specs.Prelude.{◌≡◌, ◌==◌, ℕ, if◌then◌else◌, map, Option, None, Some, IfSome, List, [], ◌∷◌}
use Rattle.std.specs.Global.{Global}
use Rattle.std.specs.declared.rc.Rc.{Rc}
use Rattle.bd_device.specs.Blocks.{Image}
use Rattle.bd_node.specs.declared.node.Node.{Node}
use Rattle.bd_node.specs.declared.push.Push.{Push}
use Rattle.bd_node.specs.Pushes.{IsRelieved, gained, CanMake}
use Rattle.bd_pager.specs.declared.place.Place.{Place}
use Rattle.bd_pager.specs.declared.place.Place.TheVariants.{Memory, Slot}
use Rattle.bd_pager.specs.declared.place.Spot.{Spot}
use Rattle.bd_pager.specs.declared.stepping.Put.{Put}
use Rattle.bd_pager.specs.Pagers.{IsKnownOver}
use Rattle.bd_pager.specs.Places.{Spots, level_in, copy_in, nodes_at}
use Rattle.bd_pager.specs.Slots.{IsOfLevel}
use Rattle.bd_pager.specs.Stepping.{change_of}

-- ---- in place

-- a place that is none of a kept node
abbrev pub vacant : Place
vacant = Slot 0 None

-- what is known of a node, at another place
abbrev pub placed_at : Place → Option Spot → Option Spot
placed_at place None = None
placed_at place (Some s) = Some (record s { place = place })

-- a push makes the two nodes these
pub record AreNodesPushed (push : Push) (parent child above below : Node) : Type 0 where
  pub can : CanMake push parent child
  pub relieved : IsRelieved parent push.place can.relieve.edge push.count above
  pub gained : below ≡ gained child push.gain

-- the first node, in memory at a place, has become the second one
pub record HasBecome (n m : Node) (old new : Place) : Type 0 where
  pub slot : Option ℕ
  pub before : Rc Node Global
  pub was : old ≡ Memory before slot
  pub was_value : before.value ≡ n
  pub changed : Rc Node Global
  pub is : new ≡ Memory changed slot
  pub is_value : changed.value ≡ m

-- it has made those at these places those at the next ones
pub record ArePlacesPushed (push : Push) (old_parent old_child new_parent new_child : Place)
    : Type 0 where
  pub parent_was : Node
  pub child_was : Node
  pub parent_is : Node
  pub child_is : Node
  pub nodes : AreNodesPushed push parent_was child_was parent_is child_is
  pub parent : HasBecome parent_was parent_is old_parent new_parent
  pub child : HasBecome child_was child_is old_child new_child

-- the nodes of two ids are at these places, and the others where they were
abbrev pub with_places : ℕ → Place → ℕ → Place → Spots → Spots
with_places parent above child below spots id =
    if parent == id then placed_at above (spots parent)
    else (if child == id then placed_at below (spots child) else spots id)

-- it was made of nodes in memory, which stay there
pub record IsPushedInPlace (push : Push) (old new : Spots) : Type 0 where
  pub parent : Spot
  pub parent_there : old push.parent ≡ Some parent
  pub child : Spot
  pub child_there : old push.child ≡ Some child
  pub above : Place
  pub below : Place
  pub places : ArePlacesPushed push parent.place child.place above below
  pub is : (id : ℕ) → new id ≡ with_places push.parent above push.child below old id

-- ---- by copies

-- the node of an id, as it was read
pub record IsReadAs (contents : Option Image) (spots : Spots) (id : ℕ) (n : Node) : Type 0 where
  pub of_level : IsOfLevel (level_in (spots id)) n
  pub copy : IfSome (copy_in (spots id)) (λ m. n ≡ m)
  pub there : IsKnownOver contents spots → nodes_at contents spots id ≡ Some n

-- these are to be put for the two nodes
pub record ArePushPuts (push : Push) (parent child : Node) (puts : List Put) : Type 0 where
  pub above : Node
  pub below : Node
  pub nodes : AreNodesPushed push parent child above below
  pub are : map change_of puts
      ≡ record { id = push.child; node = below } ∷ record { id = push.parent; node = above } ∷ []

-- the nodes were read, and these are to be put for them
pub record IsPushPlan (contents : Option Image) (spots : Spots) (push : Push) (puts : List Put)
    : Type 0 where
  pub parent : Node
  pub child : Node
  pub parent_read : IsReadAs contents spots push.parent parent
  pub child_read : IsReadAs contents spots push.child child
  pub made : ArePushPuts push parent child puts
