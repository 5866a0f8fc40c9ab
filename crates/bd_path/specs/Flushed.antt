-- What one step of a flush leaves.
use Rattle.std.specs.Prelude.{◌≡◌, ℕ, ◌+◌, ◌≤◌, ◌⊎◌, List, Some, IsTrue}
use Rattle.bd_node.specs.declared.node.Node.{Node}
use Rattle.bd_node.specs.Nodes.{times}
use Rattle.bd_node.specs.Meaning.{Nodes, at}
use Rattle.bd_node.specs.Tables.{Table, IsKept, IsSound, root_at}
use Rattle.bd_node.specs.Private.{IsPrivate}

-- the node is the last one, or names a node that leads to it
pub data LeadsTo (nodes : Nodes) (last : ℕ) : ℕ → Type 0 where
  itself : LeadsTo nodes last last
  through : (id c : ℕ) (n : Node) → nodes id ≡ Some n → 1 ≤ times n c → LeadsTo nodes last c
      → LeadsTo nodes last id

-- the node is what it was, and has what it had
pub record IsUntouched (nodes new : Nodes) (id : ℕ) : Type 0 where
  pub node : new id ≡ nodes id
  pub meaning : (k : List ℕ) → at new id k ≡ at nodes id k

-- what one step of a flush leaves: the tree has what it had, in sound nodes; at most four nodes are
-- made; only nodes on the one way from the root to a private node are changed, and each other one
-- that stays is untouched, and no other one is told as touched; the root is at most one level
-- higher
pub record IsFlushed (nodes : Nodes) (t : Table) (new : Nodes) (u : Table) : Type 0 where
  pub same : (k : List ℕ) → root_at new u k ≡ root_at nodes t k
  pub sound : IsSound new u
  pub later : t.next ≤ u.next
  pub few : u.next ≤ t.next + 4
  pub last : ℕ
  pub private : IsPrivate nodes t last
  pub others : (id : ℕ) → IsKept t id → IsKept u id → ¬ LeadsTo nodes last id
      → IsUntouched nodes new id
  pub touched : (id : ℕ) → IsTrue (u.touched id) → IsTrue (t.touched id) ⊎ LeadsTo nodes last id
  pub low : t.level t.root ≤ u.level u.root
  pub high : u.level u.root ≤ t.level t.root + 1

-- the root stays, as high as it was, and no more waits in it
pub record IsNoHigher (t u : Table) : Type 0 where
  pub root : u.root ≡ t.root
  pub level : u.level u.root ≡ t.level t.root
  pub size : u.size ≤ t.size

-- the root stays, at most one level higher, and no more waits in it
pub record IsHardlyHigher (t u : Table) : Type 0 where
  pub root : u.root ≡ t.root
  pub low : t.level t.root ≤ u.level u.root
  pub high : u.level u.root ≤ t.level t.root + 1
  pub size : u.size ≤ t.size
