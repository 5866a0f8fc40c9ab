-- Where the nodes of a pager are, and what is there.
use Rattle.std.specs.Prelude.{◌≡◌, ◌<◌, ◌≤◌, ℕ, Bool, false, [], Option, None, Some, IfSome, nat_eq}
use Rattle.std.specs.HashMap.{HashMap, get}
use Rattle.bd_device.specs.Blocks.{Image}
use Rattle.bd_format.specs.Decoding.{node_in}
use Rattle.bd_cache.specs.Cache.{kept_at}
use Rattle.bd_cache.specs.declared.cache.NodeCache.{NodeCache}
use Rattle.bd_node.specs.declared.node.Node.{Node}
use Rattle.bd_node.specs.Meaning.{Nodes}
use Rattle.bd_tails.specs.Tails.{slot_bytes}
use Rattle.bd_format.specs.Slots.{HasNode}
use Rattle.bd_pager.specs.Slots.{IsOfLevel, IsBadSlot}
use Rattle.bd_pager.specs.declared.place.Place.{Place}
use Rattle.bd_pager.specs.declared.place.Place.TheVariants.{Memory, Slot}
use Rattle.bd_pager.specs.declared.place.Spot.{Spot}

-- what is known of the node of each id
abbrev pub Spots : Type 0
Spots = ℕ → Option Spot

-- what a map has for each id
abbrev pub spots_in : {S : Type 0} → HashMap ℕ Spot S → Spots
spots_in spots id = get nat_eq spots id

-- how often the node is named: 0 where none is kept
abbrev pub refs_in : Option Spot → ℕ
refs_in None = 0
refs_in (Some s) = s.refs

-- its level
abbrev pub level_in : Option Spot → ℕ
level_in None = 0
level_in (Some s) = s.level

-- a kept node of a lower level
abbrev pub IsLowerIn : Spots → ℕ → ℕ → Type 0
IsLowerIn spots level id = (1 ≤ refs_in (spots id)) × (level_in (spots id) < level)

-- the node that a place has in memory
abbrev pub copy_at : Place → Option Node
copy_at (Memory node slot) = Some node.value
copy_at (Slot slot None) = None
copy_at (Slot slot (Some node)) = Some node.value

abbrev pub copy_in : Option Spot → Option Node
copy_in None = None
copy_in (Some s) = copy_at s.place

-- the slot that a place has: its own, or the one where the node is
abbrev pub slot_at : Place → Option ℕ
slot_at (Memory node slot) = slot
slot_at (Slot slot copy) = Some slot

abbrev pub slot_in : Option Spot → Option ℕ
slot_in None = None
slot_in (Some s) = slot_at s.place

-- the node that is there: in memory, or what the slot's bytes encode
abbrev pub node_at : Image → Place → Option Node
node_at image (Memory node slot) = Some node.value
node_at image (Slot slot None) = node_in (slot_bytes image slot)
node_at image (Slot slot (Some node)) = Some node.value

abbrev pub node_of : Image → Option Spot → Option Node
node_of image None = None
node_of image (Some s) = node_at image s.place

-- the image, and one of no blocks where it isn't told
abbrev pub told : Option Image → Image
told None = []
told (Some image) = image

-- the nodes over these contents
abbrev pub nodes_at : Option Image → Spots → Nodes
nodes_at contents spots id = node_of (told contents) (spots id)

-- the node is in this slot alone, with this level
abbrev pub IsAlone : ℕ → ℕ → Option Spot → Type 0
IsAlone slot level None = ⊥
IsAlone slot level (Some s) = (s.level ≡ level) × (s.place ≡ Slot slot None)

-- the node was read from such a slot, or written there, and, unless the device was lent since, the
-- slot has it
abbrev pub IsReadAt : Option Image → Bool → ℕ → Place → Node → Type 0
IsReadAt contents is_lent level (Memory node slot) n = ⊥
IsReadAt contents is_lent level (Slot slot (Some node)) n = ⊥
IsReadAt contents is_lent level (Slot slot None) n =
    IsOfLevel level n
    × (is_lent ≡ false → IfSome contents (λ image. HasNode image slot level n))

abbrev pub IsRead : Option Image → Bool → Option Spot → Node → Type 0
IsRead contents is_lent None n = ⊥
IsRead contents is_lent (Some s) n = IsReadAt contents is_lent s.level s.place n

-- each cached node was read from the slot that alone has it, or written there
abbrev pub AreCached : Option Image → Bool → Spots → NodeCache → Type 0
AreCached contents is_lent spots cache =
    (id : ℕ) (n : Node) → kept_at cache id ≡ Some n → IsRead contents is_lent (spots id) n

-- each node in memory is well-formed and of its level
abbrev pub ArePlaced : Spots → Type 0
ArePlaced spots =
    (id : ℕ) (s : Spot) → spots id ≡ Some s → IfSome (copy_at s.place) (IsOfLevel s.level)

-- the block is the first one of a slot that is to have this node alone, and has none of its level
abbrev pub IsBadPlace : Option Image → ℕ → Place → ℕ → Type 0
IsBadPlace contents level (Memory node slot) b = ⊥
IsBadPlace contents level (Slot slot (Some node)) b = ⊥
IsBadPlace contents level (Slot slot None) b = IsBadSlot contents slot level b

abbrev pub IsBadSpot : Option Image → Option Spot → ℕ → Type 0
IsBadSpot contents None b = ⊥
IsBadSpot contents (Some s) b = IsBadPlace contents s.level s.place b

-- a block that is bad for a node was bad for it before
abbrev pub NoneTurnsBad : Option Image → Spots → Option Image → Spots → Type 0
NoneTurnsBad old before new after =
    (id b : ℕ) → IsBadSpot new (after id) b → IsBadSpot old (before id) b
