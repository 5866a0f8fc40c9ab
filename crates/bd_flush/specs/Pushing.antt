-- Messages that go down to a child.
use Rattle.std.specs.Prelude.{◌≡◌, ℕ, ◌+◌, ◌^◌, ◌<◌, ◌≤◌, List, [], ◌∷◌, length, map, take, drop, ◌⊎◌, None}
use Rattle.std.specs.List.{AllByRecursion}
use Rattle.bd_limits.specs.Limits.{soft_limit, leaf_limit, room_edges}
use Rattle.bd_keys.specs.Keys.{IsLift}
use Rattle.bd_message.specs.declared.message.Message.{Message}
use Rattle.bd_message.specs.Messages.{IsPlain}
use Rattle.bd_node.specs.declared.node.Change.{Change}
use Rattle.bd_node.specs.declared.node.Edge.{Edge}
use Rattle.bd_node.specs.declared.node.Entry.{Entry}
use Rattle.bd_node.specs.declared.node.Node.{Node}
use Rattle.bd_node.specs.declared.node.Node.TheVariants.{Leaf}
use Rattle.bd_node.specs.declared.node.Step.{Step}
use Rattle.bd_node.specs.declared.push.Gain.{Gain}
use Rattle.bd_node.specs.declared.push.Gain.TheVariants.{Messages, Entries}
use Rattle.bd_node.specs.declared.push.Push.{Push}
use Rattle.bd_node.specs.Nodes.{level_of, buffer_size, appended}
use Rattle.bd_node.specs.Shape.{IsLeaf}
use Rattle.bd_node.specs.Tables.{Table}
use Rattle.bd_node.specs.Parts.{edges_of, buffer_of, end_at, IsEdgeAt}
use Rattle.bd_node.specs.Pushes.{seen_by, IsRelieved, IsPlainFor}
use Rattle.bd_inner.specs.declared.batches.Batch.{Batch}
use Rattle.bd_inner.specs.declared.halves.Halves.{Halves}
use Rattle.bd_inner.specs.Halves.{AreHalves}
use Rattle.bd_inner.specs.Batches.{CanMove, SomeCanTouch, IsBatch}
use Rattle.bd_inner.specs.Exchanging.{way_to}
use Rattle.bd_leaf.specs.Leaves.{entries_size, IsReceived}
use Rattle.bd_path.specs.declared.fetching.Fetched.{Fetched}
use Rattle.bd_path.specs.Fetching.{IsFetched, IsWayTo}
use Rattle.bd_path.specs.Paths.{child_step, leaf_step}
use Rattle.bd_path.specs.Raising.{raise, IsRaisedOver, CannotRiseOver}
use Rattle.bd_flush.specs.declared.children.Halving.{Halving}
use Rattle.bd_flush.specs.declared.children.Halving.TheVariants.{Short, Long}
use Rattle.bd_flush.specs.declared.children.Parts.{Parts}
use Rattle.bd_flush.specs.declared.pushing.Below.{Below}
use Rattle.bd_flush.specs.declared.pushing.Below.TheVariants.{Moved, Made}
use Rattle.bd_flush.specs.declared.pushing.Work.{Work}
use Rattle.bd_flush.specs.declared.pushing.Work.TheVariants.{Down, Planned}
use Rattle.bd_flush.specs.declared.splitting.Plan.{Plan}
use Rattle.bd_flush.specs.declared.splitting.Plan.TheVariants.{Ready, NoId, NoLevel}
use Rattle.bd_flush.specs.Children.{IsSplitInto, IsLongIn}
use Rattle.bd_flush.specs.GoingDown.{GoesDown}
use Rattle.bd_flush.specs.Splitting.{over_step, IsPlanOf}

-- the messages that a node's edge hasn't seen
abbrev pub unseen : Node → Edge → List Message
unseen n e = drop e.seen (buffer_of n)

-- each message that a node's edge hasn't seen may go down the edge to a child of a level
abbrev pub AllGoDown : (ℕ → ℕ) → ℕ → Node → ℕ → Edge → Type 0
AllGoDown level top n place e = AllByRecursion (GoesDown level top e (end_at n place)) (unseen n e)

-- messages are pending for the edge, and each of them can go down it
pub record CanMoveSome (n : Node) (place : ℕ) (e : Edge) : Type 0 where
  pub some : SomeCanTouch e (end_at n place) (unseen n e)
  pub each : AllByRecursion (CanMove e (end_at n place)) (unseen n e)

-- messages are pending for the edge, and none of them names a node
pub record IsWaitedFor (n : Node) (place : ℕ) (e : Edge) : Type 0 where
  pub some : SomeCanTouch e (end_at n place) (unseen n e)
  pub plain : AllByRecursion (IsPlainFor e (end_at n place)) (unseen n e)

-- messages may go down from a node, at most as high as the root, to a private child, as far as the
-- table tells
pub record CanPush (t : Table) (parent : Fetched) (place : ℕ) (child : Fetched) : Type 0 where
  pub parent_is : IsFetched t parent
  pub child_is : IsFetched t child
  pub under : t.level parent.id ≤ t.level t.root
  pub room : length (edges_of parent.node.value) ≤ room_edges
  pub edge : Edge
  pub way : IsWayTo parent.node.value place child.id edge
  pub some : SomeCanTouch edge (end_at parent.node.value place) (unseen parent.node.value edge)
  pub down : AllGoDown t.level (t.level child.id) parent.node.value place edge
  pub once : t.count child.id ≡ 1
  pub soft : buffer_size child.node.value ≤ soft_limit

-- the oldest messages that are pending for the edge, at least one, for its child
pub record IsEdgeBatch (n : Node) (place : ℕ) (e : Edge) (b : Batch) : Type 0 where
  pub batch : IsBatch e (end_at n place) (unseen n e) b
  pub some : SomeCanTouch e (end_at n place) (take b.count (unseen n e))

-- a node `n` and its child `m` after messages have gone down, and what is made: a leaf that would have
-- more than 40,960 bytes is split
pub data IsPushInto (n : Node) (place : ℕ) (e : Edge) (m : Node) (b : Batch) (next : ℕ)
    : Node → Node → List Node → Type 0 where
  received : (parent : Node) → 1 ≤ level_of m → IsRelieved n place e b.count parent
      → IsPushInto n place e m b next parent (appended m b.messages) []
  fitted : (old new : List Entry) (parent : Node) → m ≡ Leaf old → IsReceived old b.messages new
      → IsLeaf new → IsRelieved n place e b.count parent
      → IsPushInto n place e m b next parent (Leaf new) []
  split : (old new : List Entry) (parent half : Node) (made : List Node) → m ≡ Leaf old
      → IsReceived old b.messages new → leaf_limit < entries_size new
      → IsSplitInto n place (seen_by e b.count) (Leaf new) next parent half made
      → IsPushInto n place e m b next parent half made

-- the halves of a leaf that would have more than 40,960 bytes after messages, whose pivot is inside the
-- edge and too long for the node
pub record AreLongHalves (n : Node) (place : ℕ) (e : Edge) (m : Node) (b : Batch)
    (halves : Halves) : Type 0 where
  pub old : List Entry
  pub new : List Entry
  pub leaf : m ≡ Leaf old
  pub got : IsReceived old b.messages new
  pub over : leaf_limit < entries_size new
  pub are : AreHalves (Leaf new) halves
  pub long : IsLongIn n place e halves.pivot

-- a node and its child after messages have gone down, and what is made
pub record ArePushed (n : Node) (place : ℕ) (m : Node) (next : ℕ) (parts : Parts) : Type 0 where
  pub edge : Edge
  pub here : IsEdgeAt n place edge
  pub batch : Batch
  pub moved : IsEdgeBatch n place edge batch
  pub into : IsPushInto n place edge m batch next parts.node parts.half parts.made.items

-- a node over the halves of a leaf of these entries, after so many messages have gone down, or the edge
-- and the halves, where the pivot would be too long
abbrev pub IsPartedOver : Node → ℕ → ℕ → List Entry → ℕ → Halving → Type 0
IsPartedOver n place count new next (Short parts) =
    (e : Edge) → IsEdgeAt n place e
    → IsSplitInto n place (seen_by e count) (Leaf new) next parts.node parts.half parts.made.items
IsPartedOver n place count new next (Long edge halves) =
    AreHalves (Leaf new) halves
    × ((e : Edge) → IsEdgeAt n place e
    → (edge ≡ seen_by e count) × IsLongIn n place e halves.pivot)

-- the halves of a child, a leaf that would have too many bytes after messages have gone down, would
-- have too long a pivot in the node
pub record IsLongPush (n : Node) (place : ℕ) (m : Node) : Type 0 where
  pub edge : Edge
  pub here : IsEdgeAt n place edge
  pub batch : Batch
  pub moved : IsEdgeBatch n place edge batch
  pub halves : Halves
  pub long : AreLongHalves n place edge m batch halves

-- these halves, and the edge after the messages have gone down
pub record AreLongParts (n : Node) (place : ℕ) (m : Node) (f : Edge) (halves : Halves) : Type 0
  where
    pub push : IsLongPush n place m
    pub seen : f ≡ seen_by push.edge push.batch.count
    pub are : halves ≡ push.halves

-- a node and its child after messages have gone down, or the edge then, and halves whose pivot would
-- be too long
abbrev pub IsPushedOver : Node → ℕ → Node → ℕ → Halving → Type 0
IsPushedOver n place m next (Short parts) = ArePushed n place m next parts
IsPushedOver n place m next (Long edge halves) = AreLongParts n place m edge halves

-- what a child has of messages that have gone down to it: an inner one the messages, none of which names
-- a node, and a leaf its entries then, which fit
abbrev pub IsGained : Node → List Message → Gain → Type 0
IsGained m list (Messages own) =
    (own ≡ list) × (1 ≤ level_of m) × AllByRecursion IsPlain list
IsGained m list (Entries new) =
    (old : List Entry) × (m ≡ Leaf old) × IsReceived old list new × IsLeaf new

-- what goes down from a node `n` to its child `m` in place: so many messages, and what the child has of
-- them; those of the edge's keys name no node
pub record IsDescent (n : Node) (place : ℕ) (m : Node) (count : ℕ) (gain : Gain) : Type 0 where
  pub edge : Edge
  pub here : IsEdgeAt n place edge
  pub batch : Batch
  pub moved : IsEdgeBatch n place edge batch
  pub count_is : count ≡ batch.count
  pub plain : AllByRecursion (IsPlainFor edge (end_at n place)) (take batch.count (unseen n edge))
  pub gained : IsGained m batch.messages gain

-- what goes down in place, or what is made of a node and its child
abbrev pub IsBelow : Node → ℕ → Node → ℕ → Below → Type 0
IsBelow n place m next (Moved count gain) = IsDescent n place m count gain
IsBelow n place m next (Made halving) = IsPushedOver n place m next halving

-- the step of a push
pub record IsPushStep (root next : ℕ) (parent : Fetched) (place : ℕ) (child : Fetched)
    (step : Step) : Type 0 where
  pub edge : Edge
  pub here : IsEdgeAt parent.node.value place edge
  pub batch : Batch
  pub moved : IsEdgeBatch parent.node.value place edge batch
  pub node : Node
  pub half : Node
  pub made : List Node
  pub into : IsPushInto parent.node.value place edge child.node.value batch next node half made
  pub is : step ≡ child_step root parent.id node child.id half made

-- ---- to a leaf that becomes a node over two

-- the step that makes halves and a node over them in a child's place, below a parent that is changed
pub record IsStepOver (root next : ℕ) (way : List Fetched) (parent : Change) (c : ℕ)
    (halves : Halves) (step : Step) : Type 0 where
  pub node : Node
  pub rising : List Fetched
  pub rise : IsRaisedOver 1 parent.node way node rising
  pub is : step ≡ over_step root next c 1 halves
      (record { id = parent.id; node = node } ∷ map raise rising)

-- such a step, or why there is none
abbrev pub IsPlanOver : ℕ → ℕ → List Fetched → Change → ℕ → Halves → Plan → Type 0
IsPlanOver root next way parent c halves plan =
    IsPlanOf (IsStepOver root next way parent c halves) next (CannotRiseOver 1 parent.node way) plan

-- the step of a push that puts a node over the halves of a leaf, below the parent without the messages
-- that have gone down; nodes above rise where they must
pub record IsPushBetweenStep (root next : ℕ) (way : List Fetched) (parent : Fetched) (place : ℕ)
    (child : Fetched) (step : Step) : Type 0 where
  pub push : IsLongPush parent.node.value place child.node.value
  pub above : Node
  pub relieved : IsRelieved parent.node.value place push.edge push.batch.count above
  pub over : IsStepOver root next way (record { id = parent.id; node = above }) child.id
      push.halves step

-- a push by one commit, with a node between or without
abbrev pub IsSomePush : ℕ → ℕ → List Fetched → Fetched → ℕ → Fetched → Step → Type 0
IsSomePush root next way parent place child step =
    IsPushStep root next parent place child step ⊎ IsPushBetweenStep root next way parent place child step

-- a push of too long a pivot, where the parent has to rise, and one of the nodes above it that have to
-- rise with it is at level 1,000
pub record IsHighPush (n : Node) (place : ℕ) (m : Node) (way : List Fetched) : Type 0 where
  pub long : IsLongPush n place m
  pub high : CannotRiseOver 1 n way

-- the step of a push, for which there are ids, or why there is none
abbrev pub IsPlan : ℕ → ℕ → List Fetched → Fetched → ℕ → Fetched → Plan → Type 0
IsPlan root next way parent place child (Ready step) =
    IsPushStep root next parent place child step
    ⊎ (IsPushBetweenStep root next way parent place child step × (next + 1 < 2 ^ 64))
IsPlan root next way parent place child NoId =
    (step : Step) × IsPushBetweenStep root next way parent place child step × (2 ^ 64 ≤ next + 1)
IsPlan root next way parent place child NoLevel =
    IsHighPush parent.node.value place child.node.value way

-- what goes down in place from a fetched node to its child
pub record IsPushOf (parent : Fetched) (place : ℕ) (child : Fetched) (push : Push) : Type 0 where
  pub count : ℕ
  pub gain : Gain
  pub is : push ≡ record {
    parent = parent.id;
    place = place;
    count = count;
    child = child.id;
    gain = gain;
  }
  pub descent : IsDescent parent.node.value place child.node.value count gain

-- what goes down in place, or the step of a push, or why there is none
abbrev pub IsWork : ℕ → ℕ → List Fetched → Fetched → ℕ → Fetched → Work → Type 0
IsWork root next way parent place child (Down push) = IsPushOf parent place child push
IsWork root next way parent place child (Planned plan) = IsPlan root next way parent place child plan

-- ---- to a new leaf

-- messages may go down from a node's edge without a child, as far as the table tells
pub record CanPushNew (t : Table) (parent : Fetched) (place : ℕ) : Type 0 where
  pub parent_is : IsFetched t parent
  pub edge : Edge
  pub here : IsEdgeAt parent.node.value place edge
  pub bare : edge.child ≡ None
  pub waiting : IsWaitedFor parent.node.value place edge

-- the edge's way to a new child, which leaves out all that its keys have in common
abbrev pub IsWay : Node → ℕ → ℕ → Edge → Edge → Type 0
IsWay n place child e f = (f ≡ way_to e f.lift child) × IsLift e.pivot (end_at n place) f.lift

-- a node `n` after messages have gone down to a new leaf of its edge, and the leaf's entries
pub record IsNewLeaf (n : Node) (place : ℕ) (e : Edge) (next : ℕ) (parent : Node)
    (entries : List Entry) : Type 0 where
  pub edge : Edge
  pub way : IsWay n place next e edge
  pub batch : Batch
  pub moved : IsEdgeBatch n place edge batch
  pub got : IsReceived [] batch.messages entries
  pub relieved : IsRelieved n place edge batch.count parent

-- the step of a push to a new leaf
pub record IsNewStep (root next : ℕ) (parent : Fetched) (place : ℕ) (step : Step) : Type 0 where
  pub edge : Edge
  pub here : IsEdgeAt parent.node.value place edge
  pub node : Node
  pub entries : List Entry
  pub into : IsNewLeaf parent.node.value place edge next node entries
  pub is : step ≡ leaf_step root parent.id node entries
