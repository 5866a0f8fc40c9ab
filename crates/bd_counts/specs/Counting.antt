-- The counts after a step.
use Rattle.std.specs.Prelude.{◌≡◌, ℕ, ◌+◌, ◌^◌, ◌≤◌, ◌==◌, if◌then◌else◌, nat_eq, List, length, None, Some}
use Rattle.std.specs.Option.{unwrap_or}
use Rattle.std.specs.HashMap.{HashMap, get}
use Rattle.bd_message.specs.declared.fault.Counter.{Counter}
use Rattle.bd_message.specs.declared.fault.Counter.TheVariants.{Count, NextId, Level, Refs, Epoch, Flushes}
use Rattle.bd_node.specs.declared.node.Node.{Node}
use Rattle.bd_node.specs.declared.node.Step.{Step}
use Rattle.bd_node.specs.Nodes.{buffer_size}
use Rattle.bd_node.specs.Meaning.{Nodes}
use Rattle.bd_node.specs.Tables.{Table, IsKept, IsTable}
use Rattle.bd_node.specs.Steps.{after, level_after, IsThere, IsCommitted}
use Rattle.bd_counts.specs.Naming.{times_among}
use Rattle.bd_counts.specs.Releasing.{IsReleasing}

-- the counts of a table, and these where it has none
abbrev pub overlaid : {S : Type 0} → (ℕ → ℕ) → HashMap ℕ ℕ S → ℕ → ℕ
overlaid counts table c = unwrap_or (get nat_eq table c) (counts c)

-- a count has to pass its last value for these names
abbrev pub IsWornByNames : (ℕ → ℕ) → List ℕ → Counter → Type 0
IsWornByNames counts names Refs = (id : ℕ) × (2 ^ 64 ≤ counts id + times_among names id)
IsWornByNames counts names NextId = ⊥
IsWornByNames counts names Count = ⊥
IsWornByNames counts names Level = ⊥
IsWornByNames counts names Epoch = ⊥
IsWornByNames counts names Flushes = ⊥

-- the nodes whose count isn't 0
abbrev pub counted : (ℕ → ℕ) → Nodes → Nodes
counted counts nodes id = if counts id == 0 then None else nodes id

-- a table after the step, with these counts
pub record HasCounts (t : Table) (step : Step) (counts : ℕ → ℕ) (u : Table) : Type 0 where
  pub count : (id : ℕ) → u.count id ≡ counts id
  pub level : (id : ℕ) → IsKept u id → u.level id ≡ level_after t step id
  pub root : u.root ≡ step.root
  pub next : u.next ≡ t.next + length step.made

-- a table that tells of so many bytes that wait in the root
abbrev pub HasRootSize : Nodes → Table → Type 0
HasRootSize nodes u = (n : Node) → nodes u.root ≡ Some n → buffer_size n ≡ u.size

-- counts after a step, and the ids that go, whatever the nodes are: what is counted is there, and
-- what is there and isn't counted goes, each id once
pub record IsRecount (t : Table) (step : Step) (counts : ℕ → ℕ) (gone : List ℕ) : Type 0 where
  pub root : 1 ≤ counts step.root
  pub there : (id : ℕ) → 1 ≤ counts id → IsThere t step id
  pub goes : (id : ℕ) → IsThere t step id → counts id ≡ 0 → times_among gone id ≡ 1
  pub only : (id : ℕ) → 1 ≤ times_among gone id → IsThere t step id × (counts id ≡ 0)

-- each table with these counts is one
abbrev pub MakesTable : Table → Step → (ℕ → ℕ) → Type 0
MakesTable t step counts = (u : Table) → HasCounts t step counts u → IsTable u

-- the nodes that are counted, where these names are still to be taken back
abbrev pub IsOwing : Nodes → Table → Step → (ℕ → ℕ) → List ℕ → Type 0
IsOwing nodes t step counts owed =
    IsReleasing (after nodes t step) (t.next + length step.made) step.root
    (counted counts (after nodes t step)) counts (times_among owed)

-- with these counts the nodes that are counted are those that the step leaves
abbrev pub Commits : Nodes → Table → Step → (ℕ → ℕ) → Type 0
Commits nodes t step counts = (u : Table) → HasCounts t step counts u
    → HasRootSize (after nodes t step) u
    → IsCommitted nodes t step (counted counts (after nodes t step)) u
