-- What steps need before the first change, and what they then leave.
use Rattle.std.specs.Prelude.{◌≡◌, ◌≢◌, ◌+◌, ◌^◌, ◌<◌, ℕ, Bool, List, length, map, nat_eq, Option, None, Some, IfSome, IsSome}
use Rattle.std.specs.Global.{Global}
use Rattle.std.specs.HashMap.{get}
use Rattle.std.specs.declared.rc.Rc.{Rc}
use Rattle.bd_device.specs.Blocks.{Image}
use Rattle.bd_cache.specs.Cache.{kept_at, room_of}
use Rattle.bd_cache.specs.declared.cache.NodeCache.{NodeCache}
use Rattle.bd_node.specs.declared.node.Node.{Node}
use Rattle.bd_node.specs.declared.node.Step.{Step}
use Rattle.bd_node.specs.Nodes.{buffer_size}
use Rattle.bd_node.specs.Tables.{Table, IsSound}
use Rattle.bd_node.specs.Steps.{given}
use Rattle.bd_counts.specs.Naming.{times_among}
use Rattle.bd_counts.specs.Counting.{overlaid, IsRecount, MakesTable, Commits}
use Rattle.bd_counts.specs.declared.new_counts.NewCounts.{NewCounts}
use Rattle.bd_pager.specs.declared.committing.NewRoot.{NewRoot}
use Rattle.bd_pager.specs.declared.committing.Plan.{Plan}
use Rattle.bd_pager.specs.Slots.{IsOfLevel}
use Rattle.bd_pager.specs.Places.{Spots, copy_in, level_in, nodes_at}
use Rattle.bd_pager.specs.Pagers.{IsKnownOver}
use Rattle.bd_pager.specs.Stepping.{change_of, put_at, with_put, with_count, without_all, moved_copy, given_changes}

-- the node of an id, as it was found
pub record IsFound (contents : Option Image) (spots : Spots) (id : ℕ) (n : Node) : Type 0 where
  pub of_level : IsOfLevel (level_in (spots id)) n
  pub copy : IfSome (copy_in (spots id)) (λ m. n ≡ m)
  pub there : IsSome contents → nodes_at contents spots id ≡ Some n

-- so many bytes wait in the root, whose node was found
abbrev pub IsFoundRoot : Option Image → Spots → ℕ → ℕ → Option (Rc Node Global) → Type 0
IsFoundRoot contents spots root size None = ⊥
IsFoundRoot contents spots root size (Some node) =
    IsFound contents spots root node.value × (buffer_size node.value ≡ size)

-- the root after a step that gives it this node, or none
abbrev pub IsNewRoot : Option Image → Spots → ℕ → Option Node → NewRoot → Type 0
IsNewRoot contents spots root (Some n) new = (new.copy ≡ None) × (buffer_size n ≡ new.size)
IsNewRoot contents spots root None new = IsFoundRoot contents spots root new.size new.copy

-- what a step makes of the counts
pub record IsRecountOf (contents : Option Image) (spots : Spots) (t : Table) (step : Step)
    (recount : NewCounts) : Type 0 where
  pub counts : IsRecount t step (overlaid t.count recount.counts) recount.gone.items
  pub table : MakesTable t step (overlaid t.count recount.counts)
  pub commits : IsKnownOver contents spots → IsSound (nodes_at contents spots) t
      → Commits (nodes_at contents spots) t step (overlaid t.count recount.counts)

-- the plan of a step
pub record IsPlanOf (contents : Option Image) (spots : Spots) (t : Table) (step : Step)
    (plan : Plan) : Type 0 where
  pub puts : map change_of plan.puts.items ≡ given_changes t.next step
  pub recount : IsRecountOf contents spots t step plan.recount
  pub root : plan.root ≡ step.root
  pub root_is : IsNewRoot contents spots step.root (given t.next step step.root) plan.new_root
  pub fits : t.next + length step.made < 2 ^ 64

-- what is known of a node after a plan was carried out
abbrev pub carried_spot : List Bool → ℕ → Plan → Spots → Spots
carried_spot spare old plan spots id =
    without_all plan.recount.gone.items id
    (with_count (get nat_eq plan.recount.counts id)
    (with_put spare (put_at plan.puts.items id)
    (moved_copy old plan.root plan.new_root.copy id (spots id))))

-- no node is cached that a plan puts, that goes, or whose copy is kept
pub record IsForgotten (plan : Plan) (old new : NodeCache) : Type 0 where
  pub kept : (id : ℕ) (n : Node) → kept_at new id ≡ Some n → kept_at old id ≡ Some n
  pub put : (id : ℕ) (n : Node) → kept_at new id ≡ Some n → put_at plan.puts.items id ≡ None
  pub gone : (id : ℕ) (n : Node) → kept_at new id ≡ Some n
      → times_among plan.recount.gone.items id ≡ 0
  pub root : (id : ℕ) (n : Node) → kept_at new id ≡ Some n → IsSome plan.new_root.copy
      → id ≢ plan.root
  pub room : room_of new ≡ room_of old
