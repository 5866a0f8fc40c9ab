-- Which nodes' names were looked at.
use Rattle.std.specs.Prelude.{◌≡◌, ◌≢◌, ◌≤◌, ◌^◌, ◌-◌, ◌==◌, ◌&&◌, ⊤, nat_eq, nat_lt, ℕ, Bool, false, List, [], Option, None, Some, IfSome, IsSome, IsTrue}
use Rattle.std.specs.List.{AllByRecursion}
use Rattle.std.specs.Map.{lookup}
use Rattle.bd_cache.specs.Cache.{kept_at}
use Rattle.bd_cache.specs.declared.cache.NodeCache.{NodeCache}
use Rattle.bd_node.specs.declared.node.Node.{Node}
use Rattle.bd_node.specs.Nodes.{level_of, names}
use Rattle.bd_pager.specs.Places.{Spots, copy_in, IsLowerIn}
use Rattle.bd_pager.specs.declared.committing.Plan.{Plan}
use Rattle.bd_pager.specs.declared.place.Spot.{Spot}
use Rattle.bd_pager.specs.declared.stepping.Put.{Put}

-- ---- which count

-- how many commits there had been that let a node go or raised one when each node was tested, and
-- how many there were
pub record Marks : Type 0 where
  pub at : List (ℕ × ℕ)
  pub commits : ℕ

abbrev pub marks : List (ℕ × ℕ) → ℕ → Marks
marks at commits = record { at = at; commits = commits }

-- the number is today's, which isn't the last one
abbrev pub is_current : Option ℕ → ℕ → Bool
is_current None commits = false
is_current (Some at) commits = (at == commits) && nat_lt commits (2 ^ 64 - 1)

-- the node counts as tested
abbrev pub is_tested : Marks → ℕ → Bool
is_tested m id = is_current (lookup (nat_eq id) m.at) m.commits

-- the number isn't a later one
abbrev pub IsNoLater : Option ℕ → ℕ → Type 0
IsNoLater None commits = ⊤
IsNoLater (Some at) commits = at ≤ commits

abbrev pub AreMarks : Marks → Type 0
AreMarks m = (id : ℕ) → IsNoLater (lookup (nat_eq id) m.at) m.commits

-- ---- what holds of them

-- it names kept nodes of lower levels alone
abbrev pub NamesLower : Spots → Node → Type 0
NamesLower spots n = AllByRecursion (IsLowerIn spots (level_of n)) (names n)

-- a kept node that names those alone, as it is in memory and as it was read
pub record IsTested (spots : Spots) (cache : NodeCache) (id : ℕ) : Type 0 where
  pub there : IsSome (spots id)
  pub copy : IfSome (copy_in (spots id)) (NamesLower spots)
  pub cached : IfSome (kept_at cache id) (NamesLower spots)

abbrev pub AreTested : Spots → NodeCache → Marks → Type 0
AreTested spots cache tested = (id : ℕ) → IsTrue (is_tested tested id) → IsTested spots cache id

-- the node of an id, as it is in memory or as it was read, and as it was tested
pub record IsAtHand (spots : Spots) (cache : NodeCache) (tested : Marks) (id : ℕ) (n : Node)
    : Type 0 where
  pub copy : IfSome (copy_in (spots id)) (λ m. m ≡ n)
  pub cached : IfSome (kept_at cache id) (λ m. m ≡ n)
  pub lower : IsTrue (is_tested tested id) → NamesLower spots n

-- ---- once a plan is carried out

-- a node that is put is no higher than this
abbrev pub IsNoHigherThan : Node → Option Spot → Type 0
IsNoHigherThan n None = ⊤
IsNoHigherThan n (Some s) = level_of n ≤ s.level

-- a node that is put is no higher than the one before it
abbrev pub IsNoHigher : Spots → Put → Type 0
IsNoHigher spots put = IsNoHigherThan put.node.value (spots put.id)

-- what still counts as tested did before, and isn't a root that is found; no node goes or rises
pub record AreStillTested (plan : Plan) (spots : Spots) (old new : Marks) : Type 0 where
  pub tested : (id : ℕ) → IsTrue (is_tested new id) → IsTrue (is_tested old id)
  pub root : (id : ℕ) → IsTrue (is_tested new id) → IsSome plan.new_root.copy → id ≢ plan.root
  pub none_gone : (id : ℕ) → IsTrue (is_tested new id) → plan.recount.gone.items ≡ []
  pub low : (id : ℕ) → IsTrue (is_tested new id) → AllByRecursion (IsNoHigher spots) plan.puts.items
