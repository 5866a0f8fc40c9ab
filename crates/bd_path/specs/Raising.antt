-- Nodes that rise by one level, since the node below them has risen.
use Rattle.std.specs.Prelude.{◌≡◌, ℕ, ◌+◌, ◌<◌, ◌≤◌, List, [], ◌∷◌, ◌++◌, map}
use Rattle.bd_limits.specs.Limits.{level_limit}
use Rattle.bd_node.specs.declared.node.Edge.{Edge}
use Rattle.bd_node.specs.declared.node.Node.{Node}
use Rattle.bd_node.specs.declared.node.Node.TheVariants.{Leaf, Inner}
use Rattle.bd_node.specs.declared.node.Change.{Change}
use Rattle.bd_node.specs.Nodes.{level_of}
use Rattle.bd_node.specs.Tables.{Table}
use Rattle.bd_path.specs.declared.fetching.Fetched.{Fetched}
use Rattle.bd_path.specs.Fetching.{IsFetched, IsEdgeTo}

-- the node one level higher, all else as it is; a leaf stays a leaf
abbrev pub raised : Node → Node
raised (Leaf entries) = Leaf entries
raised (Inner level edges buffer) = Inner (level + 1) edges buffer

-- the change of a fetched node to the one a level higher
abbrev pub raise : Fetched → Change
raise f = record { id = f.id; node = raised f.node.value }

-- fetched nodes from the one above a node up to the root: each has an edge to the one below it, which
-- nothing else names
pub data IsWayUp (t : Table) : ℕ → List Fetched → Type 0 where
  top : IsWayUp t t.root []
  one_up : (c place : ℕ) (f : Fetched) (e : Edge) (fs : List Fetched) → IsFetched t f
      → IsEdgeTo f.node.value place c e → t.count c ≡ 1 → IsWayUp t f.id fs → IsWayUp t c (f ∷ fs)

-- the nodes above one that gets this level, the nearest first, and those of them that rise: each that
-- isn't above the one below it, by one level
pub data IsRising : ℕ → List Fetched → List Fetched → Type 0 where
  at_top : (level : ℕ) → IsRising level [] []
  high_enough : (level : ℕ) (f : Fetched) (fs : List Fetched) → level < level_of f.node.value
      → IsRising level (f ∷ fs) []
  rises : (level : ℕ) (f : Fetched) (fs rising : List Fetched) → level_of f.node.value ≤ level
      → level_of f.node.value < level_limit → IsRising (level_of f.node.value + 1) fs rising
      → IsRising level (f ∷ fs) (f ∷ rising)

-- of the nodes above one that gets this level, the nearest first, one that has to rise is at level
-- 1,000
pub data CannotRise : ℕ → List Fetched → Type 0 where
  here : (level : ℕ) (f : Fetched) (fs : List Fetched) → level_of f.node.value ≤ level
      → level_of f.node.value ≡ level_limit → CannotRise level (f ∷ fs)
  further : (level : ℕ) (f : Fetched) (fs : List Fetched) → level_of f.node.value ≤ level
      → CannotRise (level_of f.node.value + 1) fs → CannotRise level (f ∷ fs)

-- these changes, and behind them those of the nodes above one that gets this level, the nearest first
pub record AreRaised (level : ℕ) (way : List Fetched) (changes all : List Change) : Type 0 where
  pub rising : List Fetched
  pub rise : IsRising level way rising
  pub are : all ≡ changes ++ map raise rising

-- a node over a child that gets this level, and the nodes above it, the nearest first: what the node
-- becomes, one level higher where it has to be, and those that rise with it
pub data IsRaisedOver (level : ℕ) (n : Node) (way : List Fetched) : Node → List Fetched → Type 0
  where
    is_above : level < level_of n → IsRaisedOver level n way n []
    rises_too : (rising : List Fetched) → level_of n ≤ level → IsRising (level_of n + 1) way rising
        → IsRaisedOver level n way (raised n) rising

-- the changes of a node over a child that gets this level, and of those above that rise
pub record AreChangesOver (level : ℕ) (parent : Change) (way : List Fetched) (all : List Change)
    : Type 0 where
  pub node : Node
  pub rising : List Fetched
  pub rise : IsRaisedOver level parent.node way node rising
  pub are : all ≡ record { id = parent.id; node = node } ∷ map raise rising

-- a node that has to rise over a child that gets this level, and one above it that cannot
abbrev pub CannotRiseOver : ℕ → Node → List Fetched → Type 0
CannotRiseOver level n way = (level_of n ≤ level) × CannotRise (level_of n + 1) way
