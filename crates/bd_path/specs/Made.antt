-- The steps of a store by which calls do their work, and for which counters are worn.
use Rattle.std.specs.Prelude.{◌≡◌, ◌⊎◌}
use Rattle.bd_message.specs.declared.fault.Counter.{Counter}
use Rattle.bd_message.specs.declared.fault.Counter.TheVariants.{Level}
use Rattle.bd_node.specs.declared.node.Step.{Step}
use Rattle.bd_node.specs.declared.store.NodeStore.{Ghosts}
use Rattle.bd_node.specs.Meaning.{Nodes}
use Rattle.bd_node.specs.Tables.{Table, IsSound}
use Rattle.bd_node.specs.Steps.{IsTableAfter, IsCommitted, IsWornBy}

-- the nodes of a store are known and sound
abbrev pub AreKnown : {S : Type 0} → Ghosts S → S → Type 0
AreKnown g s = g.is_known s × IsSound (g.nodes s) (g.table s)

-- one of these steps was made: the nodes that it gives are as it says, and each other one that stays
-- is as it was
pub record IsMadeBy (IsOne : Step → Type 0) (nodes : Nodes) (t : Table) (new : Nodes) (u : Table)
    : Type 0 where
  pub step : Step
  pub is : IsOne step
  pub after : IsTableAfter t step u
  pub committed : IsCommitted nodes t step new u

-- a counter has to pass its last value for all that one of these steps adds
pub record WearsOut (IsOne : Step → Type 0) (t : Table) (counter : Counter) : Type 0 where
  pub step : Step
  pub is : IsOne step
  pub worn : IsWornBy t step counter

-- why none of these steps is made: a counter has to pass its last value for all that it adds, or,
-- which is `high`, a node has to rise above level 1,000
abbrev pub IsWornFor : (Step → Type 0) → Type 0 → Table → Counter → Type 0
IsWornFor IsOne high t counter = WearsOut IsOne t counter ⊎ ((counter ≡ Level) × high)
