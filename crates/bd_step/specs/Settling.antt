-- What waits on the way of a prefix, and the step that takes it down.
use Rattle.std.specs.Prelude.{◌≡◌, ◌≢◌, ℕ, ◌+◌, ◌<◌, ◌≤◌, ◌⊎◌, if◌then◌else◌, List, [], ◌∷◌, drop, reverse, Option, Some, ⊤}
use Rattle.std.specs.List.{sum_by}
use Rattle.bd_limits.specs.Limits.{abundant_limit}
use Rattle.bd_message.specs.declared.fault.Counter.{Counter}
use Rattle.bd_message.specs.declared.message.Message.{Message}
use Rattle.bd_message.specs.Effect.{begins}
use Rattle.bd_message.specs.Freeing.{stem}
use Rattle.bd_message.specs.Messages.{size}
use Rattle.bd_node.specs.declared.node.Edge.{Edge}
use Rattle.bd_node.specs.declared.node.Node.{Node}
use Rattle.bd_node.specs.Meaning.{Nodes}
use Rattle.bd_node.specs.Shape.{IsPending, IsShape}
use Rattle.bd_node.specs.Tables.{Table}
use Rattle.bd_node.specs.Parts.{buffer_of, end_at, IsEdgeAt}
use Rattle.bd_path.specs.declared.fetching.Fetched.{Fetched}
use Rattle.bd_path.specs.Fetching.{IsFetched, IsWayTo, IsOwn, AreOwn}
use Rattle.bd_path.specs.Raising.{IsWayUp}
use Rattle.bd_flush.specs.GoingDown.{LiesWithin}
use Rattle.bd_step.specs.declared.settling.Along.{Along}
use Rattle.bd_step.specs.declared.settling.Along.TheVariants.{Due, Down, Ends}
use Rattle.bd_step.specs.declared.ways.FlushStep.{FlushStep}
use Rattle.bd_step.specs.declared.ways.FlushStep.TheVariants.{SplitRoot, At}
use Rattle.bd_step.specs.declared.ways.Site.{Site}
use Rattle.bd_step.specs.declared.ways.Work.TheVariants.{Split, Push, Privatise, Carve}
use Rattle.bd_step.specs.Beginning.{IsFoundFrom, IsMadeFrom, IsWornFrom}

-- ---- what waits for a prefix

-- the message's size where its key, or the prefix of its keys, begins with a prefix, and else 0
abbrev pub size_under : List ℕ → Message → ℕ
size_under q m = if begins (stem m) q then size m else 0

-- how many bytes of such messages an edge hasn't seen
abbrev pub waiting_under : List ℕ → Edge → List Message → ℕ
waiting_under q e buffer = sum_by (size_under q) (drop e.seen buffer)

-- the keys of a well-formed node's edge at a place include all that begin with a prefix, which isn't
-- empty
pub record IsEdgeFor (n : Node) (q : List ℕ) (place : ℕ) (e : Edge) : Type 0 where
  pub shape : IsShape n
  pub some : q ≢ []
  pub here : IsEdgeAt n place e
  pub all : LiesWithin q e.pivot (end_at n place)

-- no edge's keys do
abbrev pub HasNoEdgeFor : Node → List ℕ → Type 0
HasNoEdgeFor n q = (place : ℕ) (e : Edge) → ¬ IsEdgeFor n q place e

-- 1,024 bytes or more wait for the prefix at that edge of a node
pub record IsDueAt (n : Node) (q : List ℕ) (place : ℕ) : Type 0 where
  pub edge : Edge
  pub for : IsEdgeFor n q place edge
  pub much : abundant_limit ≤ waiting_under q edge (buffer_of n)

-- ---- the way of a prefix

-- fewer wait at that edge, which leads to a private inner node, with nothing in front of a key
pub record LeadsDown (t : Table) (n : Node) (q : List ℕ) (place child : ℕ) (e : Edge) : Type 0 where
  pub for : IsEdgeFor n q place e
  pub little : waiting_under q e (buffer_of n) < abundant_limit
  pub way : IsWayTo n place child e
  pub once : t.count child ≡ 1
  pub inner : 1 ≤ t.level child

-- fewer wait, and the way goes no further: no edge has all keys of the prefix, or the one that has
-- doesn't lead down
abbrev pub StopsAt : Table → Node → List ℕ → Type 0
StopsAt t n q =
    ((place : ℕ) → ¬ IsDueAt n q place)
    × ((place child : ℕ) (e : Edge) → ¬ LeadsDown t n q place child e)

-- the way of a prefix from the root down comes to a node, where this is left of the prefix
pub data IsPassedTo (nodes : Nodes) (t : Table) (s : List ℕ) : ℕ → List ℕ → Type 0 where
  at_root : IsPassedTo nodes t s t.root s
  below : (id place child : ℕ) (q : List ℕ) (n : Node) (e : Edge) → IsPassedTo nodes t s id q
      → nodes id ≡ Some n → LeadsDown t n q place child e
      → IsPassedTo nodes t s child (drop e.lift q)

-- it comes to a node at whose edge at a place 1,024 bytes or more wait for what is left
pub record IsDueOn (nodes : Nodes) (t : Table) (s : List ℕ) (id place : ℕ) : Type 0 where
  pub node : Node
  pub there : nodes id ≡ Some node
  pub left : List ℕ
  pub way : IsPassedTo nodes t s id left
  pub due : IsDueAt node left place

-- it ends without such a node
pub record IsSettled (nodes : Nodes) (t : Table) (s : List ℕ) : Type 0 where
  pub id : ℕ
  pub node : Node
  pub there : nodes id ≡ Some node
  pub left : List ℕ
  pub way : IsPassedTo nodes t s id left
  pub stops : StopsAt t node left

-- ---- where a step is due

-- what is seen at a node, where this is left of the prefix: the way goes on below the edge for it
abbrev pub IsAlong : Table → Node → List ℕ → Along → Type 0
IsAlong t n q (Due place) = IsDueAt n q place
IsAlong t n q (Down child lift) =
    (place : ℕ) × (e : Edge) × LeadsDown t n q place child e × (lift ≡ e.lift)
IsAlong t n q Ends = StopsAt t n q

-- nodes from the one above a node up: each asks the one below it with nothing in front of a key
pub data IsPlainUp : ℕ → List Fetched → Type 0 where
  top : (id : ℕ) → IsPlainUp id []
  one_up : (child place : ℕ) (f : Fetched) (e : Edge) (fs : List Fetched)
      → IsWayTo f.node.value place child e → IsPlainUp f.id fs → IsPlainUp child (f ∷ fs)

-- a fetched node, below fetched ones, at whose edge 1,024 bytes or more wait for some prefix
pub record IsUnsettled (t : Table) (site : Site) : Type 0 where
  pub fetched : IsFetched t site.parent
  pub way : IsWayUp t site.parent.id (reverse site.above)
  pub plain : IsPlainUp site.parent.id (reverse site.above)
  pub left : List ℕ
  pub due : IsDueAt site.parent.node.value left site.place

-- it is the one to which the way of a prefix comes, and all of them are private nodes of known ones
pub record IsUnsettledIn (nodes : Nodes) (t : Table) (s : List ℕ) (site : Site) : Type 0 where
  pub due : IsDueOn nodes t s site.parent.id site.place
  pub own : IsOwn nodes t site.parent
  pub all_own : AreOwn nodes t (reverse site.above)

-- ---- the step

-- messages of so many bytes, where the first one stands at a place, are pending for an edge
abbrev pub ArePending : Edge → Option (List ℕ) → ℕ → List Message → ℕ → Type 0
ArePending e hi place [] bytes = bytes ≡ 0
ArePending e hi place (m ∷ ms) bytes =
    (own : ℕ) × (more : ℕ) × ((IsPending place m e hi × (own ≡ size m)) ⊎ (own ≡ 0))
    × ArePending e hi (place + 1) ms more × (bytes ≡ own + more)

-- 1,024 bytes or more are pending for a node's edge at a place
pub record IsMuchAt (n : Node) (place : ℕ) : Type 0 where
  pub edge : Edge
  pub here : IsEdgeAt n place edge
  pub bytes : ℕ
  pub pending : ArePending edge (end_at n place) 0 (buffer_of n) bytes
  pub much : abundant_limit ≤ bytes

-- a child is copied only where so much is pending for it
abbrev pub IsAbundantCopy : FlushStep → Type 0
IsAbundantCopy (SplitRoot root) = ⊤
IsAbundantCopy (At site (Split child)) = ⊤
IsAbundantCopy (At site (Push child)) = ⊤
IsAbundantCopy (At site Privatise) = IsMuchAt site.parent.node.value site.place
IsAbundantCopy (At site (Carve index)) = ⊤

-- one step before a graft of what stands under a prefix, between the nodes before and after it: where
-- the way of the prefix comes to an edge for which 1,024 bytes or more wait, it begins there
pub record IsSettleStep (nodes : Nodes) (t : Table) (s : List ℕ) (new : Nodes) (u : Table) : Type 0
  where
    pub site : Site
    pub due : IsUnsettled t site
    pub here : IsUnsettledIn nodes t s site
    pub made : IsMadeFrom nodes t site.above site.parent site.place new u
    pub abundant : IsAbundantCopy made.step

-- such a step, as far as the tables tell
pub record IsSettleFound (t u : Table) : Type 0 where
  pub site : Site
  pub due : IsUnsettled t site
  pub found : IsFoundFrom t site.above site.parent site.place u

-- why no such step is made: a counter has to pass its last value for all that it adds, where the nodes
-- may be known or not
pub record IsWornToSettle (known : Type 0) (nodes : Nodes) (t : Table) (s : List ℕ)
    (counter : Counter) : Type 0 where
  pub site : Site
  pub due : IsUnsettled t site
  pub here : known → IsUnsettledIn nodes t s site
  pub worn : IsWornFrom known nodes t site.above site.parent site.place counter
