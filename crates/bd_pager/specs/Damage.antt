-- Which block is damaged where nodes aren't sound: the slots of the last checkpoint's nodes are
-- looked at, one after the other.
use Rattle.std.specs.Prelude.{◌≡◌, ◌⊎◌, ◌≤◌, ◌<◌, ◌++◌, ◌∷◌, ℕ, List, Option, All, AllPairs, IfSome, slice_index}
use Rattle.std.specs.List.{AllByRecursion}
use Rattle.bd_slots.specs.Layout.{slot_block}
use Rattle.bd_device.specs.Blocks.{Image}
use Rattle.bd_format.specs.Slots.{IsGoodNode, HasNoGoodNode}
use Rattle.bd_node.specs.declared.node.Node.{Node}
use Rattle.bd_table.specs.Entries.{level_at}
use Rattle.bd_table.specs.declared.table.TableEntry.{TableEntry}

-- entries by rising ids, each of a node that is named
pub record AreSavedEntries (entries : List TableEntry) : Type 0 where
  pub rising : AllPairs (λ e o. e.id < o.id) entries
  pub named : All (λ e. 1 ≤ e.refs) entries

-- the entry's slot has a node of its level that names nodes of lower levels alone, by these entries
abbrev pub HasGoodNode : Image → List TableEntry → TableEntry → Type 0
HasGoodNode image entries e = (n : Node) × IsGoodNode image (level_at entries) e.slot e.level n

-- of the entries this is the first one whose slot has none, as far as that is known
pub record IsFirstBad (contents : Option Image) (entries : List TableEntry) (e : TableEntry)
    : Type 0 where
  pub front : List TableEntry
  pub rest : List TableEntry
  pub there : entries ≡ front ++ e ∷ rest
  pub good : IfSome contents (λ image. AllByRecursion (HasGoodNode image entries) front)
  pub bad : IfSome contents (λ image. HasNoGoodNode image (level_at entries) e.slot e.level)

-- the slot of each has one, as far as that is known
abbrev pub AreGood : Option Image → List TableEntry → Type 0
AreGood contents entries =
    IfSome contents (λ image. AllByRecursion (HasGoodNode image entries) entries)

-- the block is the first one of that entry's slot; or of the table, which has these slots, where
-- there is no such entry
abbrev pub IsFirstDamaged : Option Image → List TableEntry → List ℕ → ℕ → Type 0
IsFirstDamaged contents entries at b =
    ((e : TableEntry) × (b ≡ slot_block e.slot) × IsFirstBad contents entries e)
    ⊎ ((b ≡ slot_block (slice_index at 0)) × AreGood contents entries)
