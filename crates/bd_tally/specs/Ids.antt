-- Counts of the names of nodes, over the nodes of a list of ids.
use Rattle.std.specs.Prelude.{◌≡◌, ◌≢◌, ℕ, ◌+◌, ◌<◌, List, All, AllPairs, Contains}
use Rattle.std.specs.List.{sum_by}
use Rattle.bd_node.specs.Meaning.{Nodes}
use Rattle.bd_node.specs.Tables.{Table, IsKept, times_in, one_if}

-- the ids of the kept nodes, each once, below the next one
pub record AreIdsOf (t : Table) (ids : List ℕ) : Type 0 where
  pub once : AllPairs (λ id other. id ≢ other) ids
  pub kept : All (IsKept t) ids
  pub below : All (λ id. id < t.next) ids
  pub each : (id : ℕ) → IsKept t id → Contains ids id

-- how often the nodes of these ids name a node
abbrev pub named_by : Nodes → List ℕ → ℕ → ℕ
named_by nodes ids c = sum_by (λ id. times_in (nodes id) c) ids

-- a node's count is how often the nodes of these ids, and the root's pointer, name it
abbrev pub IsCounted : Nodes → Table → List ℕ → ℕ → Type 0
IsCounted nodes t ids c = t.count c ≡ named_by nodes ids c + one_if t.root c
