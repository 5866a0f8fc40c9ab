-- What a pager is seen as.
use Rattle.std.specs.Prelude.{◌≡◌, ◌<◌, ◌≤◌, ◌⊎◌, ◌==◌, ◌&&◌, ◌++◌, ⊤, ℕ, Bool, true, false, List, length, Option, None, Some, All, Any, IfSome, IsSome, IsTrue, nat_eq, slice_index_or}
use Rattle.std.specs.List.{list_any}
use Rattle.std.specs.Map.{lookup}
use Rattle.bd_limits.specs.Limits.{level_limit}
use Rattle.bd_slots.specs.Layout.{AreSlots}
use Rattle.bd_slots.specs.Slots.{IsFree, IsHeld}
use Rattle.bd_device.specs.Blocks.{Image}
use Rattle.bd_device.specs.Device.{OnlyReads}
use Rattle.bd_device.specs.declared.device.Device.{Ghosts}
use Rattle.bd_format.specs.Decoding.{node_in}
use Rattle.bd_cache.specs.Cache.{cached_count, room_of}
use Rattle.bd_cache.specs.declared.cache.NodeCache.{NodeCache}
use Rattle.bd_node.specs.declared.node.Node.{Node}
use Rattle.bd_node.specs.Nodes.{buffer_size}
use Rattle.bd_node.specs.Meaning.{Nodes}
use Rattle.bd_node.specs.Tables.{Table, IsTable, IsSound}
use Rattle.bd_table.specs.Tables.{AreFreeSlots, IsTableAt, slots_of}
use Rattle.bd_table.specs.declared.table.Table.{Table as Checkpoint}
use Rattle.bd_table.specs.declared.table.TableEntry.{TableEntry}
use Rattle.bd_tails.specs.Tails.{AreTails, slot_bytes}
use Rattle.bd_tails.specs.declared.tails.Tails.{Tails}
use Rattle.bd_pager.specs.Damage.{AreSavedEntries, IsFirstDamaged}
use Rattle.bd_pager.specs.Places.{Spots, refs_in, level_in, copy_in, told, nodes_at, AreCached, ArePlaced, IsBadSpot}
use Rattle.bd_pager.specs.declared.place.Place.{Place}
use Rattle.bd_pager.specs.declared.place.Place.TheVariants.{Memory, Slot}
use Rattle.bd_pager.specs.declared.place.Spot.{Spot}
use Rattle.bd_pager.specs.declared.reader.NodeReader.{NodeReader}
use Rattle.bd_pager.specs.declared.written.Written.{Written}

-- the device, what is known of each kept node, the last checkpoint's table with its slots, the
-- slots that this doesn't hold, the root, the size of what waits in it, the next id, how many nodes
-- were fetched or made, the nodes that were read, whether the device was lent since, how much of
-- each slot is used, and what is written to be the next checkpoint
pub record Paged (D : Type 0) : Type 0 where
  pub dev : D
  pub spots : List (ℕ × Spot)
  pub saved : Checkpoint
  pub at : List ℕ
  pub spare : List Bool
  pub root : ℕ
  pub size : ℕ
  pub next : ℕ
  pub visits : ℕ
  pub cache : NodeCache
  pub is_lent : Bool
  pub tails : Tails
  pub written : Option Written

-- so many nodes are cached: kept in memory since they were read from slots or written there
abbrev pub cached_of : {D : Type 0} → Paged D → ℕ
cached_of p = cached_count p.cache

-- and at most so many
abbrev pub cache_room : {D : Type 0} → Paged D → ℕ
cache_room p = room_of p.cache

-- ---- nodes

abbrev pub spots_of : {D : Type 0} → Paged D → Spots
spots_of p id = lookup (nat_eq id) p.spots

-- the checkpoint has the node
abbrev pub is_saved : List TableEntry → ℕ → Bool
is_saved entries id = list_any (λ e. e.id == id) entries

-- the node isn't where the checkpoint has it
abbrev pub is_changed_place : List Bool → Place → Bool
is_changed_place spare (Memory node slot) = true
is_changed_place spare (Slot slot copy) = slice_index_or spare slot true

abbrev pub is_changed : List Bool → Option Spot → Bool
is_changed spare None = false
is_changed spare (Some s) = is_changed_place spare s.place

-- the checkpoint has the node, and it was changed since
abbrev pub touched_at : List TableEntry → List Bool → Spots → ℕ → Bool
touched_at entries spare spots id = is_saved entries id && is_changed spare (spots id)

-- the table of kept nodes
abbrev pub table_at : Spots → ℕ → ℕ → ℕ → (ℕ → Bool) → Table
table_at spots root size next touched = record {
  count = λ id. refs_in (spots id);
  level = λ id. level_in (spots id);
  root = root;
  size = size;
  next = next;
  touched = touched;
}

abbrev pub table_of : {D : Type 0} → Paged D → Table
table_of p = table_at (spots_of p) p.root p.size p.next
    (touched_at p.saved.entries p.spare (spots_of p))

-- the nodes, in memory or in slots
abbrev pub nodes_of : {D : Type 0} → Ghosts D → Paged D → Nodes
nodes_of g p = nodes_at (g.contents p.dev) (spots_of p)

-- a copy in memory of what a slot has is what the slot's bytes encode
abbrev pub IsRightPlace : Image → Place → Type 0
IsRightPlace image (Memory node slot) = ⊤
IsRightPlace image (Slot slot None) = ⊤
IsRightPlace image (Slot slot (Some node)) = node_in (slot_bytes image slot) ≡ Some node.value

-- the device tells its contents, and copies are what their slots have
pub record IsKnownOver (contents : Option Image) (spots : Spots) : Type 0 where
  pub contents_told : IsSome contents
  pub right : (id : ℕ) (s : Spot) → spots id ≡ Some s → IsRightPlace (told contents) s.place

abbrev pub is_known : {D : Type 0} → Ghosts D → Paged D → Type 0
is_known g p = IsKnownOver (g.contents p.dev) (spots_of p)

-- ---- damage

-- the block that is damaged where the nodes aren't sound, by the last checkpoint
abbrev pub is_first_damaged : {D : Type 0} → Ghosts D → Paged D → ℕ → Type 0
is_first_damaged g p = IsFirstDamaged (g.contents p.dev) p.saved.entries p.at

-- a bad block, where the nodes are known: that of a slot without its node; or, where the nodes
-- aren't sound, the one that is damaged then
abbrev pub is_bad : {D : Type 0} → Ghosts D → Paged D → ℕ → Type 0
is_bad g p b = is_known g p
    → ((id : ℕ) × IsBadSpot (g.contents p.dev) (spots_of p id) b)
    ⊎ (is_first_damaged g p b × ¬ IsSound (nodes_of g p) (table_of p))

-- ---- what holds of a pager

-- it is a node in which so many bytes wait
abbrev pub IsOfSize : ℕ → Option Node → Type 0
IsOfSize size None = ⊥
IsOfSize size (Some n) = buffer_size n ≡ size

-- its slot is one of those that there are, and a changed node's own one is spare
abbrev pub IsPlaceIn : List Bool → Place → Type 0
IsPlaceIn spare (Memory node None) = ⊤
IsPlaceIn spare (Memory node (Some slot)) = IsFree spare slot
IsPlaceIn spare (Slot slot copy) = slot < length spare

-- a node in a slot that the checkpoint holds is the one that it has there
abbrev pub IsStoredAs : List Bool → List TableEntry → ℕ → ℕ → Place → Type 0
IsStoredAs spare entries id level (Memory node slot) = ⊤
IsStoredAs spare entries id level (Slot slot copy) =
    IsHeld spare slot → Any (λ e. (e.id ≡ id) × (e.slot ≡ slot) × (e.level ≡ level)) entries

-- the node is in this slot
abbrev pub IsInSlot : ℕ → Place → Type 0
IsInSlot slot (Memory node own) = ⊥
IsInSlot slot (Slot there copy) = there ≡ slot

-- an entry of a table says how often the node is named, its level and the slot where it is
abbrev pub IsEntryOf : TableEntry → Option Spot → Type 0
IsEntryOf e None = ⊥
IsEntryOf e (Some s) = (e.refs ≡ s.refs) × (e.level ≡ s.level) × IsInSlot e.slot s.place

-- the entries are those of the kept nodes
pub record AreEntriesOf (entries : List TableEntry) (spots : Spots) : Type 0 where
  pub each : All (λ e. IsEntryOf e (spots e.id)) entries
  pub all : (id : ℕ) (s : Spot) → spots id ≡ Some s → Any (λ e. e.id ≡ id) entries

-- a table of these nodes, with slots that the last checkpoint doesn't hold
pub record IsReady (spare : List Bool) (spots : Spots) (root next : ℕ) (w : Written) : Type 0
  where
    pub table : IsTableAt (length spare) w.at w.table
    pub at : All (IsFree spare) w.at
    pub entries : AreEntriesOf w.table.entries spots
    pub root_is : w.table.root ≡ root
    pub next_is : w.table.next_id ≡ next
    pub spare_is : AreFreeSlots (length spare) (w.at ++ slots_of w.table.entries) w.spare
    pub free_is : w.free ≡ w.spare

-- what holds whatever the device has: each kept node is named; the root is in memory; the slots
-- that the checkpoint holds differ, the others are spare, and nodes in those are as it has them;
-- its entries have rising ids, none of them a new one; slots end in zeros where it says so, unless
-- the device was lent since; what is written is of the nodes
pub record IsPaged {D : Type 0} (contents : Option Image) (p : Paged D) : Type 0 where
  pub table : IsTable (table_of p)
  pub used : (id : ℕ) (s : Spot) → spots_of p id ≡ Some s → 1 ≤ s.refs
  pub placed : ArePlaced (spots_of p)
  pub root : IsOfSize p.size (copy_in (spots_of p p.root))
  pub cached : AreCached contents p.is_lent (spots_of p) p.cache
  pub levels : (id : ℕ) (s : Spot) → spots_of p id ≡ Some s → s.level ≤ level_limit
  pub held : AreSlots (length p.spare) (p.at ++ slots_of p.saved.entries)
  pub spare : AreFreeSlots (length p.spare) (p.at ++ slots_of p.saved.entries) p.spare
  pub slots : (id : ℕ) (s : Spot) → spots_of p id ≡ Some s → IsPlaceIn p.spare s.place
  pub stored : (id : ℕ) (s : Spot) → spots_of p id ≡ Some s
      → IsStoredAs p.spare p.saved.entries id s.level s.place
  pub saved : (id : ℕ) → IsTrue (is_saved p.saved.entries id) → id < p.next
  pub entries : AreSavedEntries p.saved.entries
  pub tails : p.is_lent ≡ false → AreTails contents p.tails
  pub ready : IfSome p.written (IsReady p.spare (spots_of p) p.root p.next)

-- the pager whose last checkpoint is what was written
abbrev pub saved_as : {D : Type 0} → Written → Paged D → Paged D
saved_as w p = record p { saved = w.table; at = w.at; spare = w.spare; written = None }

-- what it is seen as
abbrev pub seen : {D : Type 0} → NodeReader D → Checkpoint → List ℕ → List Bool → ℕ → ℕ → ℕ → ℕ
    → Option Written → Paged D
seen reader saved at spare root size next visits written = record {
  dev = reader.dev;
  spots = reader.spots.entries;
  saved = saved;
  at = at;
  spare = spare;
  root = root;
  size = size;
  next = next;
  visits = visits;
  cache = reader.cache;
  is_lent = reader.is_lent;
  tails = reader.tails;
  written = written;
}

-- only the device was read, and what is counted and kept of reads has changed; the cache keeps its
-- room
pub record IsReadOf {D : Type 0} (g : Ghosts D) (old new : Paged D) : Type 0 where
  pub device : OnlyReads g old.dev new.dev
  pub lent : old.is_lent ≡ false → new.is_lent ≡ false
  pub spots : spots_of new ≡ spots_of old
  pub room : cache_room new ≡ cache_room old
  pub rest : new ≡ record old {
    dev = new.dev;
    spots = new.spots;
    visits = new.visits;
    cache = new.cache;
    is_lent = new.is_lent;
    tails = new.tails;
  }
