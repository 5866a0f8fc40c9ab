-- Names that are taken back, and nodes that go then.
use Rattle.std.specs.Prelude.{◌≡◌, ℕ, ◌+◌, ◌≤◌}
use Rattle.std.specs.HashMap.{hash_map_len}
use Rattle.std.specs.Prelude.{vec_len, vec_capacity}
use Rattle.bd_node.specs.Meaning.{Nodes}
use Rattle.bd_counts.specs.Releasing.{IsReleasing}
use Rattle.bd_memnodes.specs.declared.kept.Kept.{Kept}
use Rattle.bd_memnodes.specs.Maps.{nodes_in, count_in, times_of}

-- each count is how often the node is named, by the nodes that are left and by those that wait to go,
-- and how often it is owed besides to be named less
abbrev pub IsOwing : Nodes → ℕ → ℕ → (ℕ → ℕ) → Kept → Type 0
IsOwing first next root owed kept =
    IsReleasing first next root (nodes_in kept.nodes) (count_in kept.counts)
    (λ c. owed c + times_of kept.dead.items c)

-- these names were taken back: where they were owed and others, only the others still are
pub record TakesBack (named : ℕ → ℕ) (old new : Kept) : Type 0 where
  pub others : (first : Nodes) (next root : ℕ) (others : ℕ → ℕ)
      → IsOwing first next root (λ c. named c + others c) old
      → IsOwing first next root others new

-- there is room for each node that may go
abbrev pub HasRoom : Kept → Type 0
HasRoom kept = hash_map_len kept.nodes + vec_len kept.dead ≤ vec_capacity kept.dead

-- the root, the size of what waits in it and the next id are the same
pub record SameHead (old new : Kept) : Type 0 where
  pub root : new.root ≡ old.root
  pub size : new.size ≡ old.size
  pub next : new.next ≡ old.next
