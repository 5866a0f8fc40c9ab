-- The nodes that an image stores, by the entries of its table.
use Rattle.std.specs.Prelude.{⊤, ℕ, false, Option, None, Some}
use Rattle.bd_device.specs.Blocks.{Image}
use Rattle.bd_table.specs.Entries.{entry_of}
use Rattle.bd_table.specs.declared.table.Table.{Table as StoredTable}
use Rattle.bd_table.specs.declared.table.TableEntry.{TableEntry}
use Rattle.bd_node.specs.declared.node.Node.{Node}
use Rattle.bd_node.specs.Meaning.{Nodes}
use Rattle.bd_node.specs.Closed.{buffer_size_in}
use Rattle.bd_node.specs.Tables.{Table}
use Rattle.bd_format.specs.Slots.{HasNode}

-- how often an entry's node is named, 0 without an entry
abbrev pub refs_in : Option TableEntry → ℕ
refs_in None = 0
refs_in (Some e) = e.refs

-- the level of an entry's node, 0 without an entry
abbrev pub level_in : Option TableEntry → ℕ
level_in None = 0
level_in (Some e) = e.level

-- an entry's slot has the node, or there is neither
abbrev pub IsNodeAt : Image → Option TableEntry → Option Node → Type 0
IsNodeAt image None None = ⊤
IsNodeAt image (Some e) (Some n) = HasNode image e.slot e.level n
IsNodeAt image None (Some n) = ⊥
IsNodeAt image (Some e) None = ⊥

-- the nodes of an image, by their ids: one for each entry of its table, and no others
pub record HoldsNodes (image : Image) (t : StoredTable) (nodes : Nodes) : Type 0 where
  pub each : (id : ℕ) → IsNodeAt image (entry_of t.entries id) (nodes id)

-- what a store that holds these nodes knows of them
abbrev pub table_of : StoredTable → Nodes → Table
table_of t nodes = record {
  count = λ id. refs_in (entry_of t.entries id);
  level = λ id. level_in (entry_of t.entries id);
  root = t.root;
  size = buffer_size_in (nodes t.root);
  next = t.next_id;
  touched = λ id. false;
}
