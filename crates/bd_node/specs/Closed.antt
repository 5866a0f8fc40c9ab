-- Nodes that are sound but for ones that nothing names.
use Rattle.std.specs.Prelude.{◌≡◌, ℕ, ◌-◌, ◌<◌, ◌≤◌, ◌==◌, if◌then◌else◌, false, Option, None, Some}
use Rattle.bd_node.specs.declared.node.Node.{Node}
use Rattle.bd_node.specs.Nodes.{height_of, buffer_size}
use Rattle.bd_node.specs.Meaning.{Nodes, IsLevelled}
use Rattle.bd_node.specs.Shape.{IsShape}
use Rattle.bd_node.specs.Tables.{Table, references}

-- well-formed nodes of ids from 1 to below the next one that name lower ones that are there; the
-- root is an inner node
pub record IsClosed (nodes : Nodes) (next root : ℕ) : Type 0 where
  pub inner : 2 ≤ height_of (nodes root)
  pub low : (id : ℕ) (n : Node) → nodes id ≡ Some n → 1 ≤ id
  pub below : (id : ℕ) (n : Node) → nodes id ≡ Some n → id < next
  pub shape : (id : ℕ) (n : Node) → nodes id ≡ Some n → IsShape n
  pub levelled : IsLevelled nodes

-- the nodes without one
abbrev pub without : Nodes → ℕ → Nodes
without nodes d id = if id == d then None else nodes id

-- the size of the messages that wait in a node, if there is one
abbrev pub buffer_size_in : Option Node → ℕ
buffer_size_in None = 0
buffer_size_in (Some n) = buffer_size n

-- the table that the nodes have
abbrev pub table_from : Nodes → ℕ → ℕ → Table
table_from nodes next root = record {
  count = λ id. references nodes next root id;
  level = λ id. height_of (nodes id) - 1;
  root = root;
  size = buffer_size_in (nodes root);
  next = next;
  touched = λ id. false;
}
