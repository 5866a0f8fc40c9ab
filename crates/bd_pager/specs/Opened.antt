-- Pagers over a checkpoint.
use Rattle.std.specs.Prelude.{◌≡◌, ◌≢◌, ◌⊎◌, ◌++◌, ℕ, false, List, Option, None, Some, All, Contains, IfSome, slice_index}
use Rattle.std.specs.Global.{Global}
use Rattle.std.specs.declared.rc.Rc.{Rc}
use Rattle.bd_slots.specs.Layout.{slot_block}
use Rattle.bd_device.specs.Blocks.{Image}
use Rattle.bd_cache.specs.Cache.{kept_at}
use Rattle.bd_node.specs.declared.node.Node.{Node}
use Rattle.bd_node.specs.Nodes.{buffer_size}
use Rattle.bd_table.specs.Image.{HoldsTable, HasNoTable}
use Rattle.bd_table.specs.Tables.{AreFreeSlots, IsRoot, IsTableAt, slots_of}
use Rattle.bd_table.specs.declared.table.Table.{Table as Checkpoint}
use Rattle.bd_table.specs.declared.table.TableEntry.{TableEntry}
use Rattle.bd_tails.specs.Tails.{AreTails}
use Rattle.bd_pager.specs.declared.place.Place.TheVariants.{Slot}
use Rattle.bd_pager.specs.declared.place.Spot.{Spot}
use Rattle.bd_pager.specs.declared.usage.Usage.{Usage}
use Rattle.bd_format.specs.Slots.{HasNode}
use Rattle.bd_pager.specs.Slots.{HasNoNode, IsOfLevel}
use Rattle.bd_pager.specs.Places.{Spots}
use Rattle.bd_pager.specs.Pagers.{Paged, spots_of}
use Rattle.bd_pager.specs.Entries.{saved_spot}

-- the root of an entry, in its slot and in memory
abbrev pub root_spot : TableEntry → Rc Node Global → Spot
root_spot e node = record { refs = e.refs; level = e.level; place = Slot e.slot (Some node) }

-- the nodes of a table are kept, each in its slot, and the root in memory too
pub record AreOpened (t : Checkpoint) (root : TableEntry) (node : Rc Node Global) (spots : Spots)
    : Type 0 where
  pub root_there : spots t.root ≡ Some (root_spot root node)
  pub there : All (λ e. e.id ≢ t.root → spots e.id ≡ Some (saved_spot e)) t.entries
  pub others : (id : ℕ) → All (λ e. e.id ≢ id) t.entries → spots id ≡ None

-- a pager that was opened at the checkpoint whose table has the slots `at`, of so many: nothing was
-- read but this table and the root, and nothing was changed, visited or lent
pub record IsOpened {D : Type 0} (contents : Option Image) (slots : ℕ) (at : List ℕ)
    (p : Paged D) : Type 0 where
  pub table : IsTableAt slots at p.saved
  pub entry : TableEntry
  pub among : Contains p.saved.entries entry
  pub is_root : IsRoot p.saved.root entry
  pub node : Rc Node Global
  pub of_level : IsOfLevel entry.level node.value
  pub spots : AreOpened p.saved entry node (spots_of p)
  pub at_is : p.at ≡ at
  pub spare : AreFreeSlots slots (at ++ slots_of p.saved.entries) p.spare
  pub root : p.root ≡ p.saved.root
  pub next : p.next ≡ p.saved.next_id
  pub size : buffer_size node.value ≡ p.size
  pub cached : (id : ℕ) → kept_at p.cache id ≡ None
  pub visits : p.visits ≡ 0
  pub lent : p.is_lent ≡ false
  pub tails : AreTails contents p.tails
  pub written : p.written ≡ None
  pub table_held : IfSome contents (λ image. HoldsTable image slots at p.saved)
  pub root_held : IfSome contents (λ image. HasNode image entry.slot entry.level node.value)

-- the block is the first one of the slot that a table's entry of the root names, which has no such
-- node
pub record IsBadRoot (image : Image) (slots : ℕ) (at : List ℕ) (b : ℕ) : Type 0 where
  pub table : Checkpoint
  pub held : HoldsTable image slots at table
  pub entry : TableEntry
  pub among : Contains table.entries entry
  pub is_root : IsRoot table.root entry
  pub block : b ≡ slot_block entry.slot
  pub none : HasNoNode image entry.slot entry.level

-- nothing was changed
pub record IsUnchanged (u : Usage) : Type 0 where
  pub free : u.free ≡ u.spare
  pub changed : u.changed ≡ 0
  pub in_memory : u.in_memory ≡ 0

-- the block is the first one of the table's slots, which have none, or of the root's, which has no
-- such node
abbrev pub IsBadStart : Option Image → ℕ → List ℕ → ℕ → Type 0
IsBadStart contents slots at b = IfSome contents (λ image.
    ((b ≡ slot_block (slice_index at 0)) × HasNoTable image slots at)
    ⊎ IsBadRoot image slots at b)
