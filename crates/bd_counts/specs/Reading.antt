-- Which nodes a step reads: those that it changes, and those that go.
use Rattle.std.specs.Prelude.{◌≡◌, ℕ, ◌+◌, ◌<◌, ◌≤◌, ◌⊎◌, List, [], ◌∷◌, ◌++◌, Any}
use Rattle.std.specs.List.{sum_by}
use Rattle.bd_node.specs.declared.node.Change.{Change}
use Rattle.bd_node.specs.declared.node.Step.{Step}
use Rattle.bd_node.specs.Meaning.{Nodes}
use Rattle.bd_node.specs.Tables.{Table, times_in, one_if}
use Rattle.bd_node.specs.Steps.{after, given_times, IsThere}
use Rattle.bd_counts.specs.Naming.{times_among, step_names}

-- how often a step takes an id's names back: as the old root, and as often as what the changed
-- nodes were, and the nodes that are gone, name it
abbrev pub taken_times : Nodes → Table → Step → List ℕ → ℕ → ℕ
taken_times nodes t step gone c =
    one_if t.root c + sum_by (λ (d : Change). times_in (nodes d.id) c) step.changes
    + sum_by (λ id. times_in (after nodes t step id) c) gone

-- the node of this id goes after those: all of its names are taken back, also those that the step
-- gives
pub record GoesToo (nodes : Nodes) (t : Table) (step : Step) (gone : List ℕ) (id : ℕ) : Type 0 where
  pub there : IsThere t step id
  pub once : times_among gone id ≡ 0
  pub taken : t.count id + times_among (step_names step) id ≤ taken_times nodes t step gone id

-- the nodes of these ids go, one after the other
pub data AreLetGo (nodes : Nodes) (t : Table) (step : Step) : List ℕ → Type 0 where
  none_goes : AreLetGo nodes t step []
  one_more : (gone : List ℕ) (id : ℕ) → AreLetGo nodes t step gone
      → GoesToo nodes t step gone id → AreLetGo nodes t step (gone ++ id ∷ [])

-- a node that goes, after others that do
pub record IsLetGo (nodes : Nodes) (t : Table) (step : Step) (id : ℕ) : Type 0 where
  pub before : List ℕ
  pub are_gone : AreLetGo nodes t step before
  pub goes : GoesToo nodes t step before id

-- the step changes the node of the id, or lets it go
abbrev pub IsReadBy : Nodes → Table → Step → ℕ → Type 0
IsReadBy nodes t step id = Any (λ d. d.id ≡ id) step.changes ⊎ IsLetGo nodes t step id

-- an id's names are taken back more often than the table counts them and the step's nodes have them
pub record FallsBelow (nodes : Nodes) (t : Table) (step : Step) : Type 0 where
  pub gone : List ℕ
  pub are_gone : AreLetGo nodes t step gone
  pub id : ℕ
  pub below : t.count id + given_times step id < taken_times nodes t step gone id

-- nodes that are gone, and counts from which some names are still to be taken back
pub record IsAccounted (nodes : Nodes) (t : Table) (step : Step) (counts : ℕ → ℕ)
    (gone owed : List ℕ) : Type 0 where
  pub are_gone : AreLetGo nodes t step gone
  pub sums : (c : ℕ) → counts c + taken_times nodes t step gone c
      ≡ t.count c + times_among (step_names step) c + times_among owed c
