-- Steps that begin at an edge.
use Rattle.std.specs.Prelude.{◌≢◌, ℕ, ◌≤◌, List, [], ◌∷◌, length, reverse}
use Rattle.bd_limits.specs.Limits.{room_edges, full_edges}
use Rattle.bd_node.specs.declared.node.Edge.{Edge}
use Rattle.bd_message.specs.declared.fault.Counter.{Counter}
use Rattle.bd_node.specs.Meaning.{Nodes}
use Rattle.bd_node.specs.Tables.{Table}
use Rattle.bd_node.specs.Parts.{edges_of}
use Rattle.bd_path.specs.declared.fetching.Fetched.{Fetched}
use Rattle.bd_step.specs.declared.ways.FlushStep.{FlushStep}
use Rattle.bd_step.specs.declared.ways.FlushStep.TheVariants.{SplitRoot, At}
use Rattle.bd_step.specs.declared.ways.Work.TheVariants.{Split, Privatise}
use Rattle.bd_path.specs.Fetching.{IsEdgeTo, IsWayTo}
use Rattle.bd_path.specs.Flushed.{IsFlushed}
use Rattle.bd_step.specs.Ways.{IsDue, IsStepFrom, IsStanding, IsReached, IsWayOf}
use Rattle.bd_step.specs.Steps.{IsFlushMade, IsHighAfter, IsWornStep}

-- a node with 15 or 16 edges and those above it, the nearest first: it is split, or first the nearest
-- one above with so many edges, and where such a node is asked with something in front of a key, it
-- is copied first
pub data IsSplitFirst : List Fetched → Fetched → FlushStep → Type 0 where
  at_root : (root : Fetched) → IsSplitFirst [] root (SplitRoot root)
  asked_through : (above : List Fetched) (parent node : Fetched) (place : ℕ) (e : Edge)
      → IsEdgeTo parent.node.value place node.id e → e.source ≢ []
      → IsSplitFirst (parent ∷ above) node
      (At (record { above = reverse above; parent = parent; place = place }) Privatise)
  below : (above : List Fetched) (parent node : Fetched) (place : ℕ) (e : Edge)
      → IsWayTo parent.node.value place node.id e → length (edges_of parent.node.value) ≤ room_edges
      → IsSplitFirst (parent ∷ above) node
      (At (record { above = reverse above; parent = parent; place = place }) (Split node))
  further : (above : List Fetched) (parent node : Fetched) (place : ℕ) (e : Edge)
      (step : FlushStep) → IsWayTo parent.node.value place node.id e
      → full_edges ≤ length (edges_of parent.node.value) → IsSplitFirst above parent step
      → IsSplitFirst (parent ∷ above) node step

-- the step that begins at the edge at a place of a node, with the nodes above it: where the node has
-- at most 14 edges, the one that is to be done at the edge or further down
pub record BeginsAt (above : List Fetched) (node : Fetched) (place : ℕ) (step : FlushStep) : Type 0
  where
    pub narrow : length (edges_of node.node.value) ≤ room_edges → IsStepFrom node place step
    pub wide : full_edges ≤ length (edges_of node.node.value) → IsSplitFirst (reverse above) node step

-- such a step is to be done, and how high the root is after it
pub record IsFoundFrom (t : Table) (above : List Fetched) (node : Fetched) (place : ℕ) (u : Table)
    : Type 0 where
  pub step : FlushStep
  pub begins : BeginsAt above node place step
  pub due : IsDue t step
  pub height : IsHighAfter t step u

-- such a step is made, at an edge on the way down from the one at which it begins
pub record IsMadeFrom (nodes : Nodes) (t : Table) (above : List Fetched) (node : Fetched)
    (place : ℕ) (new : Nodes) (u : Table) : Type 0 where
  pub step : FlushStep
  pub begins : BeginsAt above node place step
  pub due : IsDue t step
  pub stands : IsStanding nodes t step
  pub reached : length (edges_of node.node.value) ≤ room_edges → IsReached nodes t node.id place step
  pub made : IsFlushMade nodes t step new u
  pub height : IsHighAfter t step u
  pub flushed : IsFlushed nodes t new u

-- why no such step is made: a counter has to pass its last value for all that it adds, where the nodes
-- may be known or not
pub record IsWornFrom (known : Type 0) (nodes : Nodes) (t : Table) (above : List Fetched)
    (node : Fetched) (place : ℕ) (counter : Counter) : Type 0 where
  pub step : FlushStep
  pub begins : BeginsAt above node place step
  pub due : IsDue t step
  pub way : IsWayOf t step
  pub stands : known → IsStanding nodes t step
  pub reached : known → length (edges_of node.node.value) ≤ room_edges
      → IsReached nodes t node.id place step
  pub worn : IsWornStep known nodes t step counter
