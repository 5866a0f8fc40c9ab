-- Nodes that are split.
use Rattle.std.specs.Prelude.{◌≡◌, ℕ, ◌+◌, ◌^◌, ◌<◌, ◌≤◌, List, [], ◌∷◌, Some}
use Rattle.bd_node.specs.declared.node.Edge.{Edge}
use Rattle.bd_node.specs.declared.node.Node.{Node}
use Rattle.bd_node.specs.declared.node.Node.TheVariants.{Inner}
use Rattle.bd_node.specs.declared.node.Change.{Change}
use Rattle.bd_node.specs.declared.node.Step.{Step}
use Rattle.bd_node.specs.Nodes.{level_of}
use Rattle.bd_node.specs.Tables.{Table}
use Rattle.bd_inner.specs.declared.halves.Halves.{Halves}
use Rattle.bd_inner.specs.Halves.{AreHalves}
use Rattle.bd_flush.specs.declared.splitting.Plan.{Plan}
use Rattle.bd_flush.specs.declared.splitting.Plan.TheVariants.{Ready, NoId, NoLevel}
use Rattle.bd_path.specs.Paths.{path_step}

-- an edge to a child that is asked at the same key, over an empty buffer
abbrev pub plain_edge : List ℕ → ℕ → Edge
plain_edge pivot child =
    record { pivot = pivot; lift = 0; source = []; child = Some child; seen = 0 }

-- a node over two others, the second one with the keys from a pivot on
abbrev pub over_two : ℕ → List ℕ → ℕ → ℕ → Node
over_two level pivot first second =
    Inner level (plain_edge [] first ∷ plain_edge pivot second ∷ []) []

-- the step that puts a node of a level above its halves, which are made, and makes other changes
abbrev pub over_step : ℕ → ℕ → ℕ → ℕ → Halves → List Change → Step
over_step root next id level halves others =
    path_step root id (over_two level halves.pivot next (next + 1)) others
    (halves.first ∷ halves.second ∷ [])

-- one of these steps, for which there are two ids, or why there is none: there are no ids for it, or,
-- which is `high`, a node has to rise above level 1,000
abbrev pub IsPlanOf : (Step → Type 0) → ℕ → Type 0 → Plan → Type 0
IsPlanOf IsOne next high (Ready step) = IsOne step × (next + 1 < 2 ^ 64)
IsPlanOf IsOne next high NoId = (step : Step) × IsOne step × (2 ^ 64 ≤ next + 1)
IsPlanOf IsOne next high NoLevel = high

-- the step of the split of a root, which is this node
pub record IsRootSplit (t : Table) (n : Node) (step : Step) : Type 0 where
  pub halves : Halves
  pub are : AreHalves n halves
  pub is : step ≡ over_step t.root t.next t.root (level_of n + 1) halves []

-- the root is one level higher, nothing waits in it, and two nodes are made
pub record IsRaised (t u : Table) : Type 0 where
  pub root : u.root ≡ t.root
  pub level : u.level u.root ≡ t.level t.root + 1
  pub size : u.size ≡ 0
  pub next : u.next ≡ t.next + 2
