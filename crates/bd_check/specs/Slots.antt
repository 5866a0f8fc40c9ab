-- The nodes that the slots of a table's entries encode.
use Rattle.std.specs.Prelude.{◌≡◌, ℕ, List, map, Option, None, Some}
use Rattle.bd_device.specs.Blocks.{Image}
use Rattle.bd_tails.specs.Tails.{slot_bytes}
use Rattle.bd_format.specs.Decoding.{node_in}
use Rattle.bd_format.specs.Slots.{IsGoodNode}
use Rattle.bd_node.specs.declared.node.Node.{Node}
use Rattle.bd_node.specs.Meaning.{Nodes}
use Rattle.bd_node.specs.Tables.{references}
use Rattle.bd_table.specs.Entries.{entry_of, level_at}
use Rattle.bd_table.specs.declared.table.Table.{Table as StoredTable}
use Rattle.bd_table.specs.declared.table.TableEntry.{TableEntry}
use Rattle.bd_tally.specs.Seen.{IsLeastWrong}

-- the ids of entries
abbrev pub ids_of : List TableEntry → List ℕ
ids_of entries = map (λ e. e.id) entries

-- what an entry's slot encodes, and nothing without an entry
abbrev pub node_of_entry : Image → Option TableEntry → Option Node
node_of_entry image None = None
node_of_entry image (Some e) = node_in (slot_bytes image e.slot)

-- the nodes that the slots of a table's entries encode, by their ids
abbrev pub nodes_in : Image → StoredTable → Nodes
nodes_in image t id = node_of_entry image (entry_of t.entries id)

-- each entry's slot has a node of its level that names nodes of the table of lower levels alone
abbrev pub HaveGoodNodes : Image → StoredTable → Type 0
HaveGoodNodes image t = (e : TableEntry) → entry_of t.entries e.id ≡ Some e
    → (n : Node) × IsGoodNode image (level_at t.entries) e.slot e.level n

-- the id is the least one of an entry whose references aren't how often its node is named
abbrev pub IsMiscounted : Image → StoredTable → ℕ → Type 0
IsMiscounted image t id =
    IsLeastWrong (references (nodes_in image t) t.next_id t.root) t.entries id
