-- The kinds of a step of a flush, and what it takes.
use Rattle.std.specs.Prelude.{◌≡◌, ℕ, ◌+◌, ◌*◌, ◌<◌, ◌≤◌, ◌⊎◌, reverse, None, Some, ⊤}
use Rattle.bd_limits.specs.Limits.{soft_limit, abundant_limit, level_limit}
use Rattle.bd_message.specs.declared.fault.Counter.{Counter}
use Rattle.bd_node.specs.declared.node.Node.{Node}
use Rattle.bd_node.specs.declared.node.Step.{Step}
use Rattle.bd_node.specs.Meaning.{Nodes}
use Rattle.bd_node.specs.Tables.{Table}
use Rattle.bd_node.specs.Parts.{edges_of, buffer_of}
use Rattle.bd_step.specs.declared.ways.FlushStep.{FlushStep}
use Rattle.bd_step.specs.declared.ways.FlushStep.TheVariants.{SplitRoot, At}
use Rattle.bd_step.specs.declared.ways.Site.{Site}
use Rattle.bd_step.specs.declared.ways.Work.{Work}
use Rattle.bd_step.specs.declared.ways.Work.TheVariants.{Split, Push, Privatise, Carve}
use Rattle.bd_step.specs.Filling.{IsFullest}
use Rattle.bd_path.specs.Flushed.{IsFlushed, IsNoHigher, IsHardlyHigher}
use Rattle.bd_path.specs.Made.{IsMadeBy, IsWornFor}
use Rattle.bd_flush.specs.Splitting.{IsRootSplit, IsRaised}
use Rattle.bd_flush.specs.Children.{IsLongPivot}
use Rattle.bd_flush.specs.Between.{IsSplitStep, IsHighSplit}
use Rattle.bd_flush.specs.Pushing.{IsSomePush, IsHighPush, IsNewStep, IsLongPush}
use Rattle.bd_flush.specs.Carving.{IsCarveStep}
use Rattle.bd_step.specs.Ways.{AtRootOr, IsToDo, IsToDoAt, IsWayOf}
use Rattle.bd_copy.specs.Privatising.{IsPrivatiseStep}

-- ---- the kinds of a step

-- the step of the store that is work at a site: a child's split, a push to a new leaf or to a child,
-- a child that is copied, or a Goto whose keys get edges of their own
abbrev pub IsWorkStep : Type 0 → Nodes → Table → Site → Work → Step → Type 0
IsWorkStep known nodes t site (Split child) step =
    IsSplitStep t (reverse site.above) site.parent site.place child step
IsWorkStep known nodes t site (Push None) step =
    IsNewStep t.root t.next site.parent site.place step
IsWorkStep known nodes t site (Push (Some child)) step =
    IsSomePush t.root t.next (reverse site.above) site.parent site.place child step
IsWorkStep known nodes t site Privatise step =
    IsPrivatiseStep known nodes t site.parent site.place step
IsWorkStep known nodes t site (Carve index) step = IsCarveStep t site.parent site.place step

-- the step of the store that is a step of a flush, by its kind; the nodes may be known or not
abbrev pub IsStepOf : Type 0 → Nodes → Table → FlushStep → Step → Type 0
IsStepOf known nodes t (SplitRoot root) step = IsRootSplit t root.node.value step
IsStepOf known nodes t (At site work) step = IsWorkStep known nodes t site work step

-- what a step leaves: what its step of the store does
abbrev pub IsFlushMade : Nodes → Table → FlushStep → Nodes → Table → Type 0
IsFlushMade nodes t step new u = IsMadeBy (IsStepOf ⊤ nodes t step) nodes t new u

-- a node above halves whose pivot would have more than 518 bytes in their parent would have to rise
-- above level 1,000; no other work needs a level
abbrev pub IsHighWork : Site → Work → Type 0
IsHighWork site (Split child) = IsHighSplit (reverse site.above) site.parent site.place child
IsHighWork site (Push (Some child)) =
    IsHighPush site.parent.node.value site.place child.node.value (reverse site.above)
IsHighWork site other = ⊥

-- a node would have to rise above level 1,000: the root that is split, or one above a site
abbrev pub IsTooHigh : Table → FlushStep → Type 0
IsTooHigh t (SplitRoot root) = t.level t.root ≡ level_limit
IsTooHigh t (At site work) = IsHighWork site work

-- why a step that was found is refused: a counter has to pass its last value for all that it adds
abbrev pub IsWornStep : Type 0 → Nodes → Table → FlushStep → Counter → Type 0
IsWornStep known nodes t step counter =
    IsWornFor (IsStepOf known nodes t step) (IsTooHigh t step) t counter

-- why no step of a flush is made: a counter has to pass its last value for all that the step adds that
-- the way down from the root finds, where the nodes may be known or not
pub record IsWornToFlush (known : Type 0) (nodes : Nodes) (t : Table) (counter : Counter) : Type 0
  where
    pub step : FlushStep
    pub to_do : IsToDo t step
    pub way : IsWayOf t step
    pub here : known → IsToDoAt nodes t step
    pub worn : IsWornStep known nodes t step counter

-- the pivot of a child's or a leaf's halves would have more than 518 bytes in its parent
abbrev pub IsLongWork : Site → Work → Type 0
IsLongWork site (Split child) = IsLongPivot site.parent.node.value site.place child.node.value
IsLongWork site (Push (Some child)) =
    IsLongPush site.parent.node.value site.place child.node.value
IsLongWork site other = ⊥

-- how high the root is after a step: one level higher only after its split, or for a long pivot
abbrev pub IsHighAfter : Table → FlushStep → Table → Type 0
IsHighAfter t (SplitRoot root) u = IsRaised t u
IsHighAfter t (At site work) u =
    IsNoHigher t u ⊎ (IsLongWork site work × IsHardlyHigher t u)

-- 1,024 bytes or more are pending for a node's edge at a place, the fullest one
pub record IsAbundantAt (n : Node) (place : ℕ) : Type 0 where
  pub bytes : ℕ
  pub fullest : IsFullest (edges_of n) (buffer_of n) place bytes
  pub many : abundant_limit ≤ bytes

-- much is pending for the edge to which a step goes
abbrev pub IsAbundant : FlushStep → Type 0
IsAbundant step = AtRootOr (λ site. IsAbundantAt site.parent.node.value site.place) step

-- one step of a flush, between the nodes before and after it: what the way down finds is made, and
-- the tree has what it had. Where more than 16,384 bytes wait in the root, much is pending there
pub record IsFlushStep (nodes : Nodes) (t : Table) (new : Nodes) (u : Table) : Type 0 where
  pub step : FlushStep
  pub to_do : IsToDo t step
  pub here : IsToDoAt nodes t step
  pub abundant : soft_limit < t.size → IsAbundant step
  pub made : IsFlushMade nodes t step new u
  pub height : IsHighAfter t step u
  pub flushed : IsFlushed nodes t new u

-- the step that the way down finds by the tables alone, and how high the root is after it
pub record IsFound (t u : Table) : Type 0 where
  pub step : FlushStep
  pub to_do : IsToDo t step
  pub height : IsHighAfter t step u

-- how many visits a step takes at most: as many as the tree is high, and four more, and where a
-- child is copied, those of at most 17 sources that are looked through
abbrev pub step_visits : Table → ℕ
step_visits t = (t.level t.root + 1) + (4 + 17 * t.level t.root)
