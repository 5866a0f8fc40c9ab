-- Nodes from which those go that nothing names.
use Rattle.std.specs.Prelude.{◌≡◌, ℕ, ◌+◌, ◌≤◌, Some}
use Rattle.bd_node.specs.declared.node.Node.{Node}
use Rattle.bd_node.specs.Meaning.{Nodes}
use Rattle.bd_node.specs.Tables.{references, one_if}
use Rattle.bd_node.specs.Closed.{IsClosed}

-- nodes some of which may be gone, each of them counted, where a count is how often the node is
-- named, and how often it is still owed to be named less
pub record IsReleasing (first : Nodes) (next root : ℕ) (nodes : Nodes) (counts owed : ℕ → ℕ)
    : Type 0 where
  pub closed : IsClosed nodes next root
  pub stays : (id : ℕ) (n : Node) → nodes id ≡ Some n → first id ≡ Some n
  pub used : (id : ℕ) (n : Node) → nodes id ≡ Some n → 1 ≤ counts id
  pub exact : (c : ℕ) → counts c ≡ references nodes next root c + owed c

-- what the second count is, if it is one less at an id
pub record IsLess (id : ℕ) (counts new : ℕ → ℕ) : Type 0 where
  pub each : (c : ℕ) → new c + one_if id c ≡ counts c
