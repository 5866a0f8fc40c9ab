-- What a store knows of its nodes whatever their contents are, and sound nodes.
use Rattle.std.specs.Prelude.{◌≡◌, ℕ, zero, suc, ◌+◌, ◌<◌, ◌≤◌, ◌==◌, nat_le, if◌then◌else◌, Bool, Option, None, Some}
use Rattle.std.specs.List.{AllByRecursion}
use Rattle.bd_message.specs.KeyMaps.{At}
use Rattle.bd_node.specs.declared.node.Node.{Node}
use Rattle.bd_node.specs.Nodes.{level_of, buffer_size, names, times}
use Rattle.bd_node.specs.Meaning.{Nodes, at}
use Rattle.bd_node.specs.Shape.{IsShape}

-- how often each node is named, 0 where it isn't kept; the levels; the root, and the size of the
-- messages that wait in it; the id that the next new node gets; the nodes that steps may have
-- changed in place since the store's last checkpoint
pub record Table : Type 0 where
  pub count : ℕ → ℕ
  pub level : ℕ → ℕ
  pub root : ℕ
  pub size : ℕ
  pub next : ℕ
  pub touched : ℕ → Bool

-- the store holds the node
abbrev pub IsKept : Table → ℕ → Type 0
IsKept t id = 1 ≤ t.count id

-- f 0 + .. + f (n - 1)
unfoldable pub sum_below : ℕ → (ℕ → ℕ) → ℕ
sum_below zero f = 0
sum_below (suc n) f = f n + sum_below n f

-- how many nodes are kept
unfoldable pub kept_count : Table → ℕ
kept_count t = sum_below t.next (λ id. if nat_le 1 (t.count id) then 1 else 0)

-- how often the node, if there is one, names another
abbrev pub times_in : Option Node → ℕ → ℕ
times_in None c = 0
times_in (Some n) c = times n c

-- 1 where the two are one
abbrev pub one_if : ℕ → ℕ → ℕ
one_if root c = if root == c then 1 else 0

-- how often the nodes of ids below the next one, and the root's pointer, name a node
abbrev pub references : Nodes → ℕ → ℕ → ℕ → ℕ
references nodes next root c = sum_below next (λ id. times_in (nodes id) c) + one_if root c

-- what holds of a table whatever the nodes are
pub record IsTable (t : Table) : Type 0 where
  pub root : IsKept t t.root
  pub inner : 1 ≤ t.level t.root
  pub low : (id : ℕ) → IsKept t id → 1 ≤ id
  pub below : (id : ℕ) → IsKept t id → id < t.next

-- a kept node of a lower level
pub record IsLower (t : Table) (level id : ℕ) : Type 0 where
  pub kept : IsKept t id
  pub lower : t.level id < level

-- a well-formed node of this level that names kept nodes of lower levels
pub record IsNodeOf (t : Table) (level : ℕ) (n : Node) : Type 0 where
  pub shape : IsShape n
  pub level_is : level_of n ≡ level
  pub lower : AllByRecursion (IsLower t level) (names n)

-- the node of a kept id
pub record IsStored (nodes : Nodes) (t : Table) (id : ℕ) : Type 0 where
  pub node : Node
  pub there : nodes id ≡ Some node
  pub of_table : IsNodeOf t (t.level id) node

-- sound nodes
pub record IsSound (nodes : Nodes) (t : Table) : Type 0 where
  pub table : IsTable t
  pub each : (id : ℕ) → IsKept t id → IsStored nodes t id
  pub others : (id : ℕ) → t.count id ≡ 0 → nodes id ≡ None
  pub counts : (id : ℕ) → t.count id ≡ references nodes t.next t.root id
  pub size : (n : Node) → nodes t.root ≡ Some n → buffer_size n ≡ t.size

-- what the tree has at a key
abbrev pub root_at : Nodes → Table → At
root_at nodes t k = at nodes t.root k
