-- Private and reached nodes.
use Rattle.std.specs.Prelude.{◌≡◌, ℕ, ◌≤◌, Some}
use Rattle.bd_node.specs.declared.node.Node.{Node}
use Rattle.bd_node.specs.Nodes.{times}
use Rattle.bd_node.specs.Meaning.{Nodes}
use Rattle.bd_node.specs.Tables.{Table}

-- each node from the root down to this one is named once
pub data IsPrivate (nodes : Nodes) (t : Table) : ℕ → Type 0 where
  root_alone : t.count t.root ≡ 1 → IsPrivate nodes t t.root
  alone : (id c : ℕ) (n : Node) → IsPrivate nodes t id → nodes id ≡ Some n → 1 ≤ times n c
      → t.count c ≡ 1 → IsPrivate nodes t c

-- the root leads to this node
pub data IsReached (nodes : Nodes) (root : ℕ) : ℕ → Type 0 where
  at_root : IsReached nodes root root
  named : (id c : ℕ) (n : Node) → IsReached nodes root id → nodes id ≡ Some n → 1 ≤ times n c
      → IsReached nodes root c
