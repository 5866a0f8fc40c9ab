-- Nodes that are moved from memory to their slots.
use Rattle.std.specs.Prelude.{◌≡◌, ◌≢◌, ◌+◌, ◌≤◌, ◌<◌, ◌⊎◌, ℕ, Bool, true, false, is_some, List, Option, None, Some, IsTrue, slice_set}
use Rattle.std.specs.Global.{Global}
use Rattle.std.specs.declared.rc.Rc.{Rc}
use Rattle.bd_limits.specs.Limits.{slot_blocks}
use Rattle.bd_slots.specs.Layout.{slot_block}
use Rattle.bd_slots.specs.Slots.{IsFree}
use Rattle.bd_device.specs.Blocks.{Image}
use Rattle.bd_device.specs.Changes.{StaysBut, IsBeforeBut}
use Rattle.bd_device.specs.Device.{left_now, Goes, Stays}
use Rattle.bd_device.specs.declared.device.Device.{Ghosts}
use Rattle.bd_cache.specs.Cache.{kept_at}
use Rattle.bd_cache.specs.declared.cache.NodeCache.{NodeCache}
use Rattle.bd_node.specs.declared.node.Node.{Node}
use Rattle.bd_pager.specs.declared.place.Place.{Place}
use Rattle.bd_pager.specs.declared.place.Place.TheVariants.{Memory, Slot}
use Rattle.bd_pager.specs.declared.place.Spot.{Spot}
use Rattle.bd_pager.specs.Counting.{is_in_memory}
use Rattle.bd_tails.specs.Tails.{IsOfSlot}
use Rattle.bd_format.specs.Slots.{HasNode}
use Rattle.bd_pager.specs.Slots.{IsOfLevel, IsSpare}
use Rattle.bd_pager.specs.Places.{Spots, refs_in, level_in, slot_in, copy_in, nodes_at, NoneTurnsBad}
use Rattle.bd_pager.specs.Pagers.{Paged, cache_room, spots_of, is_changed, IsKnownOver, is_known}

-- ---- one node

-- a well-formed node of this level in memory, with a slot of its own on a device of so many blocks
abbrev pub IsWritablePlace : ℕ → ℕ → Place → Type 0
IsWritablePlace blocks level (Memory node (Some slot)) =
    IsOfLevel level node.value × (slot_block slot + slot_blocks ≤ blocks)
IsWritablePlace blocks level (Memory node None) = ⊥
IsWritablePlace blocks level (Slot slot copy) = ⊥

-- its own slot has it
abbrev pub IsHeldAt : Image → ℕ → Place → Type 0
IsHeldAt image level (Memory node (Some slot)) = HasNode image slot level node.value
IsHeldAt image level (Memory node None) = ⊥
IsHeldAt image level (Slot slot copy) = ⊥

-- the block is one of its own slot
abbrev pub IsOfPlace : Place → ℕ → Type 0
IsOfPlace (Memory node (Some slot)) b = IsOfSlot slot b
IsOfPlace (Memory node None) b = ⊥
IsOfPlace (Slot slot copy) b = ⊥

-- what holds of the spot, which there is
abbrev pub IfSpot : (Spot → Type 0) → Option Spot → Type 0
IfSpot P None = ⊥
IfSpot P (Some s) = P s

abbrev pub IsOfSpot : Option Spot → ℕ → Type 0
IsOfSpot None b = ⊥
IsOfSpot (Some s) b = IsOfPlace s.place b

-- a place in memory without a slot of its own got a free one; others stay
abbrev pub IsReservedPlace : Place → List Bool → Place → List Bool → Type 0
IsReservedPlace (Memory node None) free new after =
    (slot : ℕ) × IsFree free slot × (new ≡ Memory node (Some slot))
    × (after ≡ slice_set free slot false)
IsReservedPlace (Memory node (Some own)) free new after =
    (new ≡ Memory node (Some own)) × (after ≡ free)
IsReservedPlace (Slot slot copy) free new after = (new ≡ Slot slot copy) × (after ≡ free)

pub record IsReservedSpot (old : Spot) (free : List Bool) (new : Spot) (after : List Bool)
    : Type 0 where
  pub refs : new.refs ≡ old.refs
  pub level : new.level ≡ old.level
  pub place : IsReservedPlace old.place free new.place after

pub record IsReservedAt (id : ℕ) (old : Spots) (free : List Bool) (new : Spots)
    (after : List Bool) : Type 0 where
  pub was : Spot
  pub there : old id ≡ Some was
  pub now : Spot
  pub here : new id ≡ Some now
  pub reserved : IsReservedSpot was free now after
  pub others : (i : ℕ) → i ≢ id → new i ≡ old i

-- the place of a node that was written, with its copy in memory where it is the root's
abbrev pub copy_if : Bool → Rc Node Global → Option (Rc Node Global)
copy_if true node = Some node
copy_if false node = None

abbrev pub stored_at : Bool → Place → Place
stored_at is_root (Memory node (Some slot)) = Slot slot (copy_if is_root node)
stored_at is_root (Memory node None) = Memory node None
stored_at is_root (Slot there copy) = Slot there copy

-- the node that goes out of memory by that
abbrev pub freed_at : Bool → Place → Option Node
freed_at true (Memory node (Some slot)) = None
freed_at false (Memory node (Some slot)) = Some node.value
freed_at is_root (Memory node None) = None
freed_at is_root (Slot there copy) = None

abbrev pub freed_in : Bool → Option Spot → Option Node
freed_in is_root None = None
freed_in is_root (Some s) = freed_at is_root s.place

-- what is cached was before, or is this node of this id
abbrev pub IsCachedMore : ℕ → Option Node → NodeCache → NodeCache → Type 0
IsCachedMore id found old new = (i : ℕ) (n : Node) → kept_at new i ≡ Some n
    → (kept_at old i ≡ Some n) ⊎ ((i ≡ id) × (found ≡ Some n))

-- the node of this id alone was moved
pub record IsMovedAt (id : ℕ) (move : Place → Place) (old new : Spots) : Type 0 where
  pub was : Spot
  pub there : old id ≡ Some was
  pub here : new id ≡ Some (record was { place = move was.place })
  pub others : (i : ℕ) → i ≢ id → new i ≡ old i

-- of two nodes that aren't the root's the one of the lower level comes first, and of one level the
-- one of the lesser id
abbrev pub ComesFirst : Spots → ℕ → ℕ → Type 0
ComesFirst spots id other = (level_in (spots id) < level_in (spots other))
    ⊎ ((level_in (spots id) ≡ level_in (spots other)) × (id < other))

-- of the nodes in memory the root comes last
abbrev pub IsBefore : ℕ → Spots → ℕ → ℕ → Type 0
IsBefore root spots id other = (id ≢ root) × ((other ≡ root) ⊎ ComesFirst spots id other)

-- each other node in memory comes after this one, which is the root if it isn't in memory
pub record IsEarliest (root : ℕ) (spots : Spots) (id : ℕ) : Type 0 where
  pub memory : id ≢ root → IsTrue (is_in_memory (spots id))
  pub first : (other : ℕ) → IsTrue (is_in_memory (spots other)) → other ≢ id
      → IsBefore root spots id other

-- what has left memory came before what is still there
abbrev pub AreEarlier : ℕ → Spots → Spots → Type 0
AreEarlier root before after = (id other : ℕ) → IsTrue (is_in_memory (before id))
    → is_in_memory (after id) ≡ false → IsTrue (is_in_memory (after other))
    → IsBefore root before id other

-- ---- which blocks are written

-- the block is one of the slot that the node has
pub record IsOfNode (spots : Spots) (id b : ℕ) : Type 0 where
  pub slot : ℕ
  pub there : slot_in (spots id) ≡ Some slot
  pub block : IsOfSlot slot b

-- the block is one of the slot of a node that has left memory
pub record IsOfMoved (before after : Spots) (b : ℕ) : Type 0 where
  pub id : ℕ
  pub was : IsTrue (is_in_memory (before id))
  pub gone : is_in_memory (after id) ≡ false
  pub block : IsOfNode after id b

-- the block is one of the slot of the node that comes first of those in memory
pub record IsOfFirst (root : ℕ) (spots : Spots) (b : ℕ) : Type 0 where
  pub id : ℕ
  pub memory : IsTrue (is_in_memory (spots id))
  pub first : IsEarliest root spots id
  pub block : IsOfNode spots id b

-- the block is due to be written: its slot is that of a node that has left memory by that, or,
-- where a write failed, which may have torn it, that of the node that is next
abbrev pub IsDue : ℕ → Bool → Spots → Spots → ℕ → Type 0
IsDue root false before after = IsOfMoved before after
IsDue root true before after = λ b. IsOfMoved before after b ⊎ IsOfFirst root after b

-- these blocks alone are written, also where a call failed
pub record WritesOnly {D : Type 0} (g : Ghosts D) (blocks : ℕ → Type 0) (old new : D) : Type 0
  where
    pub elsewhere : StaysBut blocks (g.contents old) (g.contents new)
    pub time : Goes g old new (IsBeforeBut blocks (left_now g old))

-- ---- several

-- nothing is written but to spare slots, also where a call failed; what is seen of nodes stays, and
-- each node's slot; nothing comes to be in memory
pub record OnlyMoves {D : Type 0} (g : Ghosts D) (spare : List Bool) (root : ℕ) (old new : D)
    (before after : Spots) : Type 0 where
  pub stays : Stays g old new
  pub elsewhere : StaysBut (IsSpare spare) (g.contents old) (g.contents new)
  pub time : Goes g old new (IsBeforeBut (IsSpare spare) (left_now g old))
  pub kept : (id : ℕ) → is_some (after id) ≡ is_some (before id)
  pub refs : (id : ℕ) → refs_in (after id) ≡ refs_in (before id)
  pub level : (id : ℕ) → level_in (after id) ≡ level_in (before id)
  pub changed : (id : ℕ) → is_changed spare (after id) ≡ is_changed spare (before id)
  pub slots : (id slot : ℕ) → slot_in (before id) ≡ Some slot → slot_in (after id) ≡ Some slot
  pub memory : (id : ℕ) → IsTrue (is_in_memory (after id)) → IsTrue (is_in_memory (before id))
  pub root_copy : copy_in (after root) ≡ copy_in (before root)
  pub known : IsKnownOver (g.contents old) before → IsKnownOver (g.contents new) after
  pub nodes : IsKnownOver (g.contents old) before → (id : ℕ)
      → nodes_at (g.contents new) after id ≡ nodes_at (g.contents old) before id

-- so it is with a pager, whose cache keeps its room, and no block becomes bad
pub record Spills {D : Type 0} (g : Ghosts D) (old new : Paged D) : Type 0 where
  pub moves : OnlyMoves g old.spare old.root old.dev new.dev (spots_of old) (spots_of new)
  pub bad : is_known g old
      → NoneTurnsBad (g.contents old.dev) (spots_of old) (g.contents new.dev) (spots_of new)
  pub room : cache_room new ≡ cache_room old
  pub rest : new ≡ record old {
    dev = new.dev;
    spots = new.spots;
    cache = new.cache;
    tails = new.tails;
    written = new.written;
  }
