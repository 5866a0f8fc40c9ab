-- Which blocks calls of a pager name as damaged: each only of a slot that it reads, or the one that
-- is damaged where it has shown that the nodes aren't sound.
use Rattle.std.specs.Prelude.{◌≡◌, ◌⊎◌, ℕ, IfSome}
use Rattle.bd_device.specs.declared.device.Device.{Ghosts}
use Rattle.bd_node.specs.declared.push.Push.{Push}
use Rattle.bd_node.specs.declared.node.Step.{Step}
use Rattle.bd_node.specs.Pushes.{CanPush}
use Rattle.bd_node.specs.Tables.{IsSound}
use Rattle.bd_counts.specs.Reading.{IsReadBy, FallsBelow}
use Rattle.bd_pager.specs.Pagers.{Paged, spots_of, nodes_of, table_of, is_known, is_first_damaged}
use Rattle.bd_pager.specs.Places.{IsBadSpot}
use Rattle.bd_pager.specs.Testing.{NamesLower}

-- the block is that of a slot without its node, of one of these ids; or the one that is damaged
-- where nodes aren't sound, which this shows; as far as the nodes are known
abbrev pub is_bad_by : {D : Type 0} → Ghosts D → Paged D → (ℕ → Type 0) → Type 0 → ℕ → Type 0
is_bad_by g p reads shown b = is_known g p
    → ((id : ℕ) × reads id × IsBadSpot (g.contents p.dev) (spots_of p id) b)
    ⊎ (is_first_damaged g p b × shown × ¬ IsSound (nodes_of g p) (table_of p))

-- the node of an id names one that isn't kept, or one of no lower level
abbrev pub NamesWrongly : {D : Type 0} → Ghosts D → Paged D → ℕ → Type 0
NamesWrongly g p id = ¬ IfSome (nodes_of g p id) (NamesLower (spots_of p))

-- a fetch reads the slot of its node
abbrev pub is_bad_to_fetch : {D : Type 0} → Ghosts D → Paged D → ℕ → ℕ → Type 0
is_bad_to_fetch g p id = is_bad_by g p (λ other. other ≡ id) (NamesWrongly g p id)

-- an extension has its root in memory
abbrev pub is_bad_to_extend : {D : Type 0} → Ghosts D → Paged D → ℕ → Type 0
is_bad_to_extend g p = is_bad_by g p (λ _. ⊥) (NamesWrongly g p p.root)

-- a push reads the slots of its two nodes
abbrev pub is_bad_to_push : {D : Type 0} → Ghosts D → Paged D → Push → ℕ → Type 0
is_bad_to_push g p push = is_bad_by g p (λ id. (id ≡ push.parent) ⊎ (id ≡ push.child))
    (¬ CanPush (nodes_of g p) (table_of p) push)

-- a commit reads the slots of nodes that it changes or lets go, and that of the root after it
abbrev pub is_bad_to_commit : {D : Type 0} → Ghosts D → Paged D → Step → ℕ → Type 0
is_bad_to_commit g p step =
    is_bad_by g p (λ id. IsReadBy (nodes_of g p) (table_of p) step id ⊎ (id ≡ step.root))
    (FallsBelow (nodes_of g p) (table_of p) step)
