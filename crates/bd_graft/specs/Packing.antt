-- Overlay nodes, which have the messages of layers over the end of a way.
use Rattle.std.specs.Prelude.{◌≡◌, ◌≢◌, ℕ, suc, ◌+◌, ◌-◌, ◌<◌, ◌≤◌, ◌⊎◌, max, nat_lt, if◌then◌else◌, List, [], ◌∷◌, ◌++◌, length, Option, None, Some, slice_get}
use Rattle.std.specs.List.{AllByRecursion, flat_map, sum_by}
use Rattle.bd_limits.specs.Limits.{buffer_limit}
use Rattle.bd_keys.specs.Keys.{IsKey}
use Rattle.bd_message.specs.declared.message.Message.{Message}
use Rattle.bd_message.specs.Messages.{IsMessage, size}
use Rattle.bd_message.specs.Effect.{NodesAt, acts}
use Rattle.bd_node.specs.declared.node.Edge.{Edge}
use Rattle.bd_node.specs.declared.node.Node.{Node}
use Rattle.bd_node.specs.declared.node.Node.TheVariants.{Inner}
use Rattle.bd_node.specs.Nodes.{level_of, names, times, message_names, node_at}
use Rattle.bd_node.specs.Shape.{IsShape}
use Rattle.bd_node.specs.Tables.{Table, IsLower}
use Rattle.bd_node.specs.Steps.{level_or}
use Rattle.bd_node.specs.Parts.{buffer_of}
use Rattle.bd_resolve.specs.declared.following.Target.{Target}
use Rattle.bd_resolve.specs.Following.{target_at, target_level, IsShort}
use Rattle.bd_graft.specs.declared.layers.Layer.{Layer}
use Rattle.bd_graft.specs.declared.packing.Stack.{Stack}
use Rattle.bd_graft.specs.declared.packing.Packed.{Packed}
use Rattle.bd_graft.specs.declared.packing.Groups.{Groups}
use Rattle.bd_graft.specs.Layers.{above}

-- ---- a node over a target

-- an edge with all keys, to a target or to nothing
abbrev pub edge_over : Option Target → Edge
edge_over None = record { pivot = []; lift = 0; source = []; child = None; seen = 0 }
edge_over (Some target) =
    record { pivot = []; lift = 0; source = target.source; child = Some target.child; seen = 0 }

-- a node with messages over a target
abbrev pub overlay : ℕ → Option Target → List Message → Node
overlay level under list = Inner level (edge_over under ∷ []) list

-- the node that a target names
abbrev pub target_names : Option Target → List ℕ
target_names None = []
target_names (Some target) = target.child ∷ []

-- ---- nodes over one another

-- the made nodes have at their ids, from one on, what their contents say
abbrev pub HasMade : NodesAt → ℕ → List Node → Type 0
HasMade has next made = (place : ℕ) (n : Node) → slice_get made place ≡ Some n → (k : List ℕ)
    → IsKey k → has (next + place) k ≡ node_at has n k

-- one of the nodes made before a place, of a lower level
pub record IsMadeBefore (next : ℕ) (made : List Node) (place level c : ℕ) : Type 0 where
  pub at : ℕ
  pub node : Node
  pub id : c ≡ next + at
  pub before : at < place
  pub there : slice_get made at ≡ Some node
  pub lower : level_of node < level

-- a node may name it: a kept one or one made before, of a lower level
abbrev pub IsUnder : Table → List Node → ℕ → ℕ → ℕ → Type 0
IsUnder t made place level c = IsLower t level c ⊎ IsMadeBefore t.next made place level c

-- well-formed nodes, made from the next id on, each named by the one after it
pub record AreOverlays (t : Table) (made : List Node) : Type 0 where
  pub shape : (place : ℕ) (n : Node) → slice_get made place ≡ Some n → IsShape n
  pub lower : (place : ℕ) (n : Node) → slice_get made place ≡ Some n
      → AllByRecursion (IsUnder t made place (level_of n)) (names n)
  pub used : (place : ℕ) (n : Node) → slice_get made (suc place) ≡ Some n
      → 1 ≤ times n (t.next + place)

-- the level of a node that is kept, or made from the next id on
unfoldable pub level_in : Table → List Node → ℕ → ℕ
level_in t made c =
    level_or (if nat_lt c t.next then None else slice_get made (c - t.next)) (t.level c)

-- a node one level above the highest that it names, at level 1 where it names none; messages wait
-- in it, unless it names none
pub record IsOverlay (level : ℕ → ℕ) (n : Node) : Type 0 where
  pub one_above : level_of n ≡ max (above level (names n)) 1
  pub waiting : buffer_of n ≡ [] → names n ≡ []

-- each made node is one level above the highest that it names, and has messages
abbrev pub AreExact : Table → List Node → Type 0
AreExact t made = (place : ℕ) (n : Node) → slice_get made place ≡ Some n
    → IsOverlay (level_in t made) n

-- a target that is below a level, the last made node where there is one
pub record IsOver (t : Table) (made : List Node) (level : ℕ) (target : Option Target) : Type 0 where
  pub lower : AllByRecursion (IsUnder t made (length made) level) (target_names target)
  pub short : IsShort target
  pub last : (place : ℕ) → length made ≡ suc place
      → target ≡ Some (record { child = t.next + place; source = [] })

-- ---- a stack

-- what is made: well-formed overlay nodes, and the open node stands over the last of them
pub record IsMadeUnder (t : Table) (s : Stack) : Type 0 where
  pub overlays : AreOverlays t s.made.items
  pub exact : AreExact t s.made.items
  pub over : IsOver t s.made.items s.level s.under

-- what waits in the open node: messages that fit a node, and name kept nodes below its level
pub record IsWaitingIn (t : Table) (s : Stack) : Type 0 where
  pub each : AllByRecursion IsMessage s.waiting.items
  pub counted : s.size ≡ sum_by size s.waiting.items
  pub fits : s.size ≤ buffer_limit
  pub lower : AllByRecursion (IsLower t s.level) (flat_map message_names s.waiting.items)

-- the level: one above the highest node that the open node names, and above the end's
pub record IsLevelOver (t : Table) (end : Option Target) (s : Stack) : Type 0 where
  pub highest : s.level ≡ above (level_in t s.made.items)
      (target_names s.under ++ flat_map message_names s.waiting.items)
  pub end_below : above t.level (target_names end) ≤ s.level

-- what it means: over the made nodes, the messages that wait leave at each key what all these
-- messages leave over the end
abbrev pub HasAll : Table → Option Target → List Message → Stack → Type 0
HasAll t end done s =
    (has : NodesAt) → HasMade has t.next s.made.items → (k : List ℕ) → IsKey k
    → acts has s.waiting.items k (target_at has s.under k) ≡ acts has done k (target_at has end k)

-- overlay nodes with these messages over the end of a way, the last of them still open
pub record IsStack (t : Table) (end : Option Target) (done : List Message) (s : Stack) : Type 0 where
  pub made : IsMadeUnder t s
  pub waiting : IsWaitingIn t s
  pub level : IsLevelOver t end s
  pub meaning : HasAll t end done s

-- the same, all made
pub record IsPacked (t : Table) (end : Option Target) (done : List Message) (p : Packed) : Type 0
  where
    pub overlays : AreOverlays t p.made.items
    pub over : IsOver t p.made.items (p.level + 1) (Some p.target)
    pub over_end : above t.level (target_names end) ≤ p.level + 1
    pub exact : AreExact t p.made.items
    pub level_is : p.level ≡ level_in t p.made.items p.target.child
    pub meaning : (has : NodesAt) → HasMade has t.next p.made.items → (k : List ℕ) → IsKey k
        → target_at has (Some p.target) k ≡ acts has done k (target_at has end k)

-- the level of the first of these layers, and without one the level above the end
abbrev pub level_over : Table → List Layer → Option Target → ℕ
level_over t [] end = above t.level (target_names end)
level_over t (l ∷ ls) end = l.level

-- the level of the first of these layers, and without one the level of the end
abbrev pub highest : Table → List Layer → Option Target → ℕ
highest t [] end = target_level t end
highest t (l ∷ ls) end = l.level

-- without layers nothing waits over the end
abbrev pub IsBegun : Option Target → Stack → Type 0
IsBegun end s = (s.waiting.items ≡ []) × (s.under ≡ end) × (s.size ≡ 0)

-- ---- which messages stand together

-- newer messages join the newest group where they fit with it, and are else a new one; none make
-- none
abbrev pub gathered : List Message → List (List Message) → List (List Message)
gathered [] groups = groups
gathered (m ∷ ms) [] = (m ∷ ms) ∷ []
gathered (m ∷ ms) (g ∷ groups) =
    if nat_lt buffer_limit (sum_by size g + sum_by size (m ∷ ms)) then (m ∷ ms) ∷ g ∷ groups
    else (g ++ m ∷ ms) ∷ groups

-- the messages that travel from the nodes of a way, packed from the last node on up to the limit of
-- a buffer: those of one node stand in one group; the newest group first
abbrev pub packs : List (List Message) → List (List Message)
packs [] = []
packs (ms ∷ more) = gathered ms (packs more)

-- the groups that get overlay nodes: over nothing there is one, though it be empty
abbrev pub overlaid : Option Target → List (List Message) → List (List Message)
overlaid None [] = [] ∷ []
overlaid None (g ∷ groups) = g ∷ groups
overlaid (Some target) groups = groups

-- ---- overlay nodes of such groups

-- what stands over all: the last of their nodes, made from an id on, and without one the end
abbrev pub over_all : ℕ → Option Target → List (List Message) → Option Target
over_all next end [] = end
over_all next end (g ∷ groups) = Some (record { child = next + length groups; source = [] })

-- the level of a node with messages over a target below a level: one above the highest that it names
abbrev pub overlay_level : Table → ℕ → List Message → ℕ
overlay_level t top list = max (max top (above t.level (flat_map message_names list))) 1

-- the overlay node of messages over an end
abbrev pub overlay_of : Table → Option Target → List Message → Node
overlay_of t end list =
    overlay (overlay_level t (above t.level (target_names end)) list) end list

-- one above what stands over all, and 0 where that is nothing
abbrev pub top_over : Table → Option Target → List (List Message) → ℕ
top_over t end [] = above t.level (target_names end)
top_over t end (g ∷ groups) = overlay_level t (top_over t end groups) g + 1

-- the overlay nodes of the groups, the oldest's first, each over the one before
abbrev pub overlays_over : Table → Option Target → List (List Message) → List Node
overlays_over t end [] = []
overlays_over t end (g ∷ groups) = overlays_over t end groups
    ++ overlay (overlay_level t (top_over t end groups) g) (over_all t.next end groups) g ∷ []

-- overlay nodes of closed groups, and an open one
pub record IsStackWith (t : Table) (end : Option Target) (closed : List (List Message))
    (open_one : List Message) (s : Stack) : Type 0 where
  pub made : s.made.items ≡ overlays_over t end closed
  pub under : s.under ≡ over_all t.next end closed
  pub waiting : s.waiting.items ≡ open_one
  pub bytes : s.size ≡ sum_by size open_one
  pub top : s.level ≡ max (top_over t end closed) (above t.level (flat_map message_names open_one))

-- the newest group, which is open, and the others
abbrev pub newest_of : List (List Message) → List Message
newest_of [] = []
newest_of (g ∷ groups) = g

abbrev pub older_of : List (List Message) → List (List Message)
older_of [] = []
older_of (g ∷ groups) = groups

-- the overlay nodes of these groups, and what stands over all
pub record IsPackedWith (t : Table) (end : Option Target) (groups : List (List Message))
    (p : Packed) : Type 0 where
  pub made : p.made.items ≡ overlays_over t end groups
  pub target : over_all t.next end groups ≡ Some p.target
  pub top : p.level + 1 ≡ top_over t end groups

-- how many groups there are, and how many bytes the newest has
pub record AreGroups (groups : List (List Message)) (g : Groups) : Type 0 where
  pub count : g.count ≡ length groups
  pub bytes : g.size ≡ sum_by size (newest_of groups)

-- the layer's messages fit a node
pub record Fits (l : Layer) : Type 0 where
  pub each : AllByRecursion IsMessage l.messages
  pub fits : sum_by size l.messages ≤ buffer_limit

-- the groups with the messages of one layer more
pub record IsGrownBy (a : Groups) (l : Layer) (b : Groups) : Type 0 where
  pub none : l.messages ≡ [] → b ≡ a
  pub new : l.messages ≢ []
      → (a.count ≡ 0) ⊎ (buffer_limit < a.size + sum_by size l.messages)
      → (b.count ≡ a.count + 1) × (b.size ≡ sum_by size l.messages)
  pub fit : l.messages ≢ [] → a.count ≢ 0 → a.size + sum_by size l.messages ≤ buffer_limit
      → (b.count ≡ a.count) × (b.size ≡ a.size + sum_by size l.messages)

-- ---- how they grow

-- the open node is made, and the next one stands over it
pub record IsClosed (next : ℕ) (a b : Stack) : Type 0 where
  pub made : b.made.items ≡ a.made.items ++ overlay (max a.level 1) a.under a.waiting.items ∷ []
  pub under : b.under ≡ Some (record { child = next + length a.made.items; source = [] })
  pub waiting : b.waiting.items ≡ []
  pub size : b.size ≡ 0
  pub level : b.level ≡ max a.level 1 + 1

-- the open node gets the messages of a layer
pub record IsJoined (a : Stack) (l : Layer) (b : Stack) : Type 0 where
  pub made : b.made.items ≡ a.made.items
  pub under : b.under ≡ a.under
  pub waiting : b.waiting.items ≡ a.waiting.items ++ l.messages
  pub size : b.size ≡ a.size + sum_by size l.messages
  pub level : b.level ≡ max a.level l.over

-- the layer's messages go into the open node where they fit, and else into a new one over it
pub data IsLaidOn (next : ℕ) (a : Stack) (l : Layer) (c : Stack) : Type 0 where
  fit : a.size + sum_by size l.messages ≤ buffer_limit → IsJoined a l c → IsLaidOn next a l c
  new : (b : Stack) → buffer_limit < a.size + sum_by size l.messages → IsClosed next a b
      → IsJoined b l c → IsLaidOn next a l c

-- what the open node is over, where no message waits in it
pub record IsEnded (s : Stack) (p : Packed) : Type 0 where
  pub made : p.made.items ≡ s.made.items
  pub target : s.under ≡ Some p.target
  pub level : s.level ≡ p.level + 1

-- the open node is made where it has messages or is over nothing
pub data IsFinished (next : ℕ) (a : Stack) (p : Packed) : Type 0 where
  as_it_is : a.waiting.items ≡ [] → IsEnded a p → IsFinished next a p
  made_too : (b : Stack) → (a.waiting.items ≡ [] → a.under ≡ None) → IsClosed next a b → IsEnded b p → IsFinished next a p
