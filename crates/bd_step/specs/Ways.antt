-- The way down that a step of a flush takes, and what is to be done at its end.
use Rattle.std.specs.Prelude.{◌≡◌, ◌≢◌, ℕ, ◌<◌, ◌≤◌, ◌⊎◌, [], length, reverse, Option, None, Some, slice_get, ⊤}
use Rattle.bd_limits.specs.Limits.{soft_limit, room_edges, full_edges}
use Rattle.bd_message.specs.declared.message.Message.{Message}
use Rattle.bd_node.specs.declared.node.Edge.{Edge}
use Rattle.bd_node.specs.declared.node.Node.{Node}
use Rattle.bd_node.specs.Nodes.{level_of, buffer_size}
use Rattle.bd_node.specs.Meaning.{Nodes}
use Rattle.bd_node.specs.Shape.{IsPending}
use Rattle.bd_node.specs.Tables.{Table}
use Rattle.bd_node.specs.Parts.{edges_of, buffer_of, end_at, IsEdgeAt}
use Rattle.bd_inner.specs.Batches.{SomeCanTouch}
use Rattle.bd_path.specs.declared.fetching.Fetched.{Fetched}
use Rattle.bd_step.specs.declared.ways.FlushStep.{FlushStep}
use Rattle.bd_step.specs.declared.ways.FlushStep.TheVariants.{SplitRoot, At}
use Rattle.bd_step.specs.declared.ways.Site.{Site}
use Rattle.bd_step.specs.declared.ways.Work.{Work}
use Rattle.bd_step.specs.declared.ways.Work.TheVariants.{Split, Push, Privatise, Carve}
use Rattle.bd_step.specs.declared.ways.Asked.{Asked}
use Rattle.bd_step.specs.declared.ways.Asked.TheVariants.{Nothing, Through, Child}
use Rattle.bd_step.specs.declared.ways.Look.{Look}
use Rattle.bd_step.specs.declared.ways.Look.TheVariants.{Down, End}
use Rattle.bd_step.specs.Filling.{IsFullest}
use Rattle.bd_path.specs.Fetching.{IsFetched, IsWayTo, IsOwn, AreOwn}
use Rattle.bd_flush.specs.Children.{CanSplitChild}
use Rattle.bd_path.specs.Raising.{IsWayUp}
use Rattle.bd_flush.specs.GoingDown.{child_level}
use Rattle.bd_flush.specs.Pushing.{AllGoDown, unseen}
use Rattle.bd_flush.specs.Carving.{IsOldestAt}

-- most bytes of a node's messages are pending for the edge at a place
pub record IsFullestAt (n : Node) (place : ℕ) : Type 0 where
  pub bytes : ℕ
  pub fullest : IsFullest (edges_of n) (buffer_of n) place bytes

-- a message is pending for a node's edge at a place
pub record HasPending (n : Node) (place : ℕ) (e : Edge) : Type 0 where
  pub index : ℕ
  pub message : Message
  pub there : slice_get (buffer_of n) index ≡ Some message
  pub pending : IsPending index message e (end_at n place)

-- a message is pending for the edge at a place of a node
pub record HasPendingAt (n : Node) (place : ℕ) : Type 0 where
  pub edge : Edge
  pub here : IsEdgeAt n place edge
  pub pending : HasPending n place edge

-- an edge of a node, on the way down from one: that one, or the edge for which most bytes wait, of the
-- child of such an edge of a node with at most 14 edges, if the child is private, asked with nothing
-- in front of a key, and more than 16,384 bytes wait in it
pub data IsOnWay (nodes : Nodes) (t : Table) (from at : ℕ) : ℕ → ℕ → Type 0 where
  start : IsOnWay nodes t from at from at
  below : (id place c next : ℕ) (n m : Node) (e : Edge) → IsOnWay nodes t from at id place
      → nodes id ≡ Some n → length (edges_of n) ≤ room_edges → IsWayTo n place c e → t.count c ≡ 1
      → nodes c ≡ Some m → soft_limit < buffer_size m → IsFullestAt m next
      → IsOnWay nodes t from at c next

-- the fetched node is the root, or more than 16,384 bytes wait in it
abbrev pub IsFull : Table → Fetched → Type 0
IsFull t f = (f.id ≡ t.root) ⊎ (soft_limit < buffer_size f.node.value)

-- it is at most as high as the root
abbrev pub IsUpToRoot : Table → Fetched → Type 0
IsUpToRoot t f = t.level f.id ≤ t.level t.root

-- ---- what is to be done at an edge

-- the child of an edge that asks nothing, or a private one with nothing in front of a key, in which
-- no more than 16,384 bytes wait
abbrev pub IsTarget : Table → Node → ℕ → Edge → Option Fetched → Type 0
IsTarget t n place e None = IsEdgeAt n place e × (e.child ≡ None)
IsTarget t n place e (Some child) =
    IsWayTo n place child.id e × IsFetched t child × (t.count child.id ≡ 1)
    × (buffer_size child.node.value ≤ soft_limit)

-- a node from whose edge messages can be pushed to a child, or to a new leaf
pub record IsReadyToPush (t : Table) (parent : Fetched) (place : ℕ) (child : Option Fetched) : Type 0
  where
    pub parent_is : IsFetched t parent
    pub room : length (edges_of parent.node.value) ≤ room_edges
    pub edge : Edge
    pub target : IsTarget t parent.node.value place edge child
    pub down : AllGoDown t.level (child_level t.level edge.child) parent.node.value place edge

-- a node whose edge asks a shared child, or one with something in front of a key
pub record IsShared (t : Table) (parent : Fetched) (place : ℕ) : Type 0 where
  pub parent_is : IsFetched t parent
  pub edge : Edge
  pub here : IsEdgeAt parent.node.value place edge
  pub child : ℕ
  pub child_is : edge.child ≡ Some child
  pub shared : (edge.source ≢ []) ⊎ (t.count child ≢ 1)

-- a node from whose edge messages would be pushed, but that a Goto is pending for the edge which may
-- not go down it, the oldest one at this index
pub record HasHeldGoto (t : Table) (parent : Fetched) (place index : ℕ) : Type 0 where
  pub parent_is : IsFetched t parent
  pub room : length (edges_of parent.node.value) ≤ room_edges
  pub edge : Edge
  pub here : IsEdgeAt parent.node.value place edge
  pub child : Option Fetched
  pub target : IsTarget t parent.node.value place edge child
  pub oldest : IsOldestAt t.level parent.node.value place edge index

-- why this work is to be done at an edge, as far as the table tells
abbrev pub IsWorkDue : Table → Fetched → ℕ → Work → Type 0
IsWorkDue t parent place (Split child) = CanSplitChild t parent place child
IsWorkDue t parent place (Push child) = IsReadyToPush t parent place child
IsWorkDue t parent place Privatise = IsShared t parent place
IsWorkDue t parent place (Carve index) = HasHeldGoto t parent place index

-- what is to be done, as far as the table tells
abbrev pub IsDue : Table → FlushStep → Type 0
IsDue t (SplitRoot root) =
    IsFetched t root × (root.id ≡ t.root) × (full_edges ≤ length (edges_of root.node.value))
IsDue t (At site work) =
    IsWorkDue t site.parent site.place work × IsUpToRoot t site.parent

-- more than 16,384 bytes wait in a child that is to be split
abbrev pub HasFullChild : FlushStep → Type 0
HasFullChild (At site (Split child)) = soft_limit < buffer_size child.node.value
HasFullChild other = ⊤

-- a message is pending for the edge from which messages go down
abbrev pub IsWaited : FlushStep → Type 0
IsWaited (At site (Push child)) = (e : Edge) → IsEdgeAt site.parent.node.value site.place e
    → SomeCanTouch e (end_at site.parent.node.value site.place) (unseen site.parent.node.value e)
IsWaited other = ⊤

-- ---- where it is to be done

-- the step is at a node's edge, of which this holds
abbrev pub AtEdge : (Fetched → ℕ → Type 0) → FlushStep → Type 0
AtEdge P (SplitRoot root) = ⊥
AtEdge P (At site work) = P site.parent site.place

-- the root is split, or the step is at a site of which this holds
abbrev pub AtRootOr : (Site → Type 0) → FlushStep → Type 0
AtRootOr P (SplitRoot root) = ⊤
AtRootOr P (At site work) = P site

-- the edge is this one
abbrev pub IsSameEdge : Fetched → ℕ → Fetched → ℕ → Type 0
IsSameEdge parent place p at = (p ≡ parent) × (at ≡ place)

-- most bytes wait for the edge, of a node with at most 14 edges in which more than 16,384 do
pub record IsFullEdge (f : Fetched) (place : ℕ) : Type 0 where
  pub room : length (edges_of f.node.value) ≤ room_edges
  pub fullest : IsFullestAt f.node.value place
  pub full : soft_limit < buffer_size f.node.value

-- the edge is this one, or further down
abbrev pub IsFromEdge : Fetched → ℕ → Fetched → ℕ → Type 0
IsFromEdge parent place p at = IsSameEdge parent place p at ⊎ IsFullEdge p at

-- the step is at this edge, or at one further down
abbrev pub IsStepFrom : Fetched → ℕ → FlushStep → Type 0
IsStepFrom parent place step = AtEdge (IsFromEdge parent place) step

-- most bytes wait for the edge at a place of a node of the way from the root, which has at most 14
-- edges: one with more is split first
pub record IsFullestIn (t : Table) (f : Fetched) (place : ℕ) : Type 0 where
  pub room : length (edges_of f.node.value) ≤ room_edges
  pub fullest : IsFullestAt f.node.value place
  pub full : IsFull t f

-- the root is split, or the step is at the edge for which most bytes wait
abbrev pub IsAtFullest : Table → FlushStep → Type 0
IsAtFullest t step = AtRootOr (λ site. IsFullestIn t site.parent site.place) step

-- what is to be done on the way by the edges for which most bytes wait, as far as the table tells
abbrev pub IsToDo : Table → FlushStep → Type 0
IsToDo t step = IsDue t step × IsAtFullest t step × HasFullChild step

-- the child, if there is one
abbrev pub IsChildThere : Nodes → Option Fetched → Type 0
IsChildThere nodes None = ⊤
IsChildThere nodes (Some child) = nodes child.id ≡ Some child.node.value

-- the child that was fetched for the work: one that is split is private
abbrev pub IsWorkThere : Nodes → Table → Work → Type 0
IsWorkThere nodes t (Split child) = IsOwn nodes t child
IsWorkThere nodes t (Push child) = IsChildThere nodes child
IsWorkThere nodes t other = ⊤

-- it is to be done at private nodes of known ones
abbrev pub IsStanding : Nodes → Table → FlushStep → Type 0
IsStanding nodes t (SplitRoot root) = IsOwn nodes t root
IsStanding nodes t (At site work) = IsOwn nodes t site.parent × IsWorkThere nodes t work

-- the step is at an edge on the way down from this one
abbrev pub IsReached : Nodes → Table → ℕ → ℕ → FlushStep → Type 0
IsReached nodes t from at step = AtEdge (λ f place. IsOnWay nodes t from at f.id place) step

-- the site is on the way down from the root's edge for which most bytes wait
pub record IsFromRoot (nodes : Nodes) (t : Table) (site : Site) : Type 0 where
  pub node : Node
  pub there : nodes t.root ≡ Some node
  pub place : ℕ
  pub fullest : IsFullestAt node place
  pub way : IsOnWay nodes t t.root place site.parent.id site.place

-- the root is split, or the step is at an edge on the way from it
abbrev pub HasWay : Nodes → Table → FlushStep → Type 0
HasWay nodes t step = AtRootOr (IsFromRoot nodes t) step

-- where it is to be done, in known nodes
abbrev pub IsToDoAt : Nodes → Table → FlushStep → Type 0
IsToDoAt nodes t step = IsStanding nodes t step × HasWay nodes t step

-- the nodes above the one where it is to be done, as far as the table tells
abbrev pub IsWayOf : Table → FlushStep → Type 0
IsWayOf t step = AtRootOr (λ site. IsWayUp t site.parent.id (reverse site.above)) step

-- the nodes above are private ones of known ones
abbrev pub IsWayThere : Nodes → Table → FlushStep → Type 0
IsWayThere nodes t step = AtRootOr (λ site. AreOwn nodes t (reverse site.above)) step

-- ---- from one node

-- what an edge asks: nothing, a child with something in front of a key, or with nothing
abbrev pub IsAsked : Node → ℕ → Asked → Type 0
IsAsked n place Nothing = (e : Edge) × IsEdgeAt n place e × (e.child ≡ None)
IsAsked n place Through =
    (e : Edge) × (c : ℕ) × IsEdgeAt n place e × (e.child ≡ Some c) × (e.source ≢ [])
IsAsked n place (Child c) = (e : Edge) × IsWayTo n place c e

-- the way goes on at the private child of the edge at a place
pub record IsNext (t : Table) (parent : Fetched) (place : ℕ) (child : Fetched) : Type 0 where
  pub edge : Edge
  pub way : IsWayTo parent.node.value place child.id edge
  pub once : t.count child.id ≡ 1
  pub child_is : IsFetched t child
  pub lower : t.level child.id < t.level parent.id
  pub inner : 1 ≤ level_of child.node.value
  pub room : length (edges_of child.node.value) ≤ room_edges
  pub full : soft_limit < buffer_size child.node.value

-- the step is at this edge of a node
abbrev pub IsStepAt : Fetched → ℕ → FlushStep → Type 0
IsStepAt parent place step = AtEdge (IsSameEdge parent place) step

-- what is seen from an edge of a node, as far as the table tells
abbrev pub IsSeen : Table → Fetched → ℕ → Look → Type 0
IsSeen t parent place (Down above child) = IsNext t parent place child
IsSeen t parent place (End step) = IsDue t step × IsStepAt parent place step × HasFullChild step

-- and in known nodes
abbrev pub IsSeenAt : Nodes → Table → Look → Type 0
IsSeenAt nodes t (Down above child) = IsOwn nodes t child
IsSeenAt nodes t (End step) = IsStanding nodes t step

-- the nodes above the next one or the one where something is to be done, as far as the table tells
abbrev pub IsWaySeen : Table → Look → Type 0
IsWaySeen t (Down above child) = IsWayUp t child.id (reverse above.items)
IsWaySeen t (End step) = IsWayOf t step

-- and in known nodes
abbrev pub IsWaySeenAt : Nodes → Table → Look → Type 0
IsWaySeenAt nodes t (Down above child) = AreOwn nodes t (reverse above.items)
IsWaySeenAt nodes t (End step) = IsWayThere nodes t step
