-- A node that is put between its parent and its halves.
use Rattle.std.specs.Prelude.{◌≡◌, ℕ, ◌+◌, ◌⊎◌, List, ◌∷◌, map}
use Rattle.bd_node.specs.declared.node.Node.{Node}
use Rattle.bd_node.specs.declared.node.Step.{Step}
use Rattle.bd_node.specs.Nodes.{level_of}
use Rattle.bd_node.specs.Tables.{Table}
use Rattle.bd_path.specs.declared.fetching.Fetched.{Fetched}
use Rattle.bd_inner.specs.declared.halves.Halves.{Halves}
use Rattle.bd_inner.specs.Halves.{AreHalves}
use Rattle.bd_flush.specs.Splitting.{over_step}
use Rattle.bd_flush.specs.Children.{IsChildStep, IsLongPivot}
use Rattle.bd_path.specs.Flushed.{IsNoHigher, IsHardlyHigher}
use Rattle.bd_path.specs.Raising.{raise, IsRising, CannotRise}

-- the step that puts a child between its parent and its halves: the nodes of the way above it, the
-- nearest first, rise where they must
pub record IsBetweenStep (root next : ℕ) (way : List Fetched) (child : Fetched) (halves : Halves)
    (step : Step) : Type 0 where
  pub rising : List Fetched
  pub rise : IsRising (level_of child.node.value + 1) way rising
  pub is : step ≡ over_step root next child.id (level_of child.node.value + 1) halves
      (map raise rising)

-- the step of a child's split below its parent, or, where the pivot of its halves would be too long
-- there, the one that puts it between
pub data IsSplitStep (t : Table) (above : List Fetched) (parent : Fetched) (place : ℕ)
    (child : Fetched) (step : Step) : Type 0 where
  short : IsChildStep t.root t.next parent place child step → IsSplitStep t above parent place child step
  long : (halves : Halves) → IsLongPivot parent.node.value place child.node.value
      → AreHalves child.node.value halves
      → IsBetweenStep t.root t.next (parent ∷ above) child halves step
      → IsSplitStep t above parent place child step

-- the pivot would be too long, and a node above the halves would have to rise above level 1,000
abbrev pub IsHighSplit : List Fetched → Fetched → ℕ → Fetched → Type 0
IsHighSplit above parent place child = IsLongPivot parent.node.value place child.node.value
    × CannotRise (level_of child.node.value + 1) (parent ∷ above)

-- the root is as high as it was after a child's split, or, where the pivot of the halves was too long,
-- at most one level higher
abbrev pub IsHighAfterSplit : Table → Node → ℕ → Node → Table → Type 0
IsHighAfterSplit t n place m u = IsNoHigher t u ⊎ (IsLongPivot n place m × IsHardlyHigher t u)
