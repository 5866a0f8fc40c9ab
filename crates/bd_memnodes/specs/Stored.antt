-- The nodes that are kept, as a store tells of them.
use Rattle.std.specs.Prelude.{◌≡◌, ℕ, ◌+◌, ◌-◌, ◌≤◌, nat_lt, if◌then◌else◌, false, List, [], slice_get, vec_capacity}
use Rattle.std.specs.HashMap.{hash_map_len, spare}
use Rattle.bd_node.specs.declared.node.Node.{Node}
use Rattle.bd_node.specs.Nodes.{height_of}
use Rattle.bd_node.specs.Meaning.{Nodes}
use Rattle.bd_node.specs.Tables.{Table, IsSound}
use Rattle.bd_node.specs.Steps.{given_or}
use Rattle.bd_memnodes.specs.declared.kept.Kept.{Kept}
use Rattle.bd_memnodes.specs.Maps.{nodes_in, count_in}

-- the table of nodes with these counts
abbrev pub table_of : Nodes → (ℕ → ℕ) → ℕ → ℕ → ℕ → Table
table_of nodes counts root size next = record {
  count = counts;
  level = λ id. height_of (nodes id) - 1;
  root = root;
  size = size;
  next = next;
  touched = λ id. false;
}

-- the table of what is kept
abbrev pub table_in : Kept → Table
table_in kept =
    table_of (nodes_in kept.nodes) (count_in kept.counts) kept.root kept.size kept.next

-- the nodes with made ones, which have the ids from the next one on
abbrev pub with_made : ℕ → List Node → Nodes → Nodes
with_made next made nodes id =
    if nat_lt id next then nodes id else given_or (slice_get made (id - next)) (nodes id)

-- there is memory for so many made and changed nodes
pub record HasMemory (made changed : ℕ) (kept : Kept) : Type 0 where
  pub nodes : made ≤ spare kept.nodes
  pub counts : made ≤ spare kept.counts
  pub dead : hash_map_len kept.nodes + made + changed ≤ vec_capacity kept.dead

-- between calls the nodes are sound, and none waits
pub record IsWhole (kept : Kept) : Type 0 where
  pub sound : IsSound (nodes_in kept.nodes) (table_in kept)
  pub idle : kept.dead.items ≡ []
