-- What answers for all keys that begin with a prefix.
use Rattle.std.specs.Prelude.{◌≡◌, ◌≢◌, ℕ, ◌+◌, ◌<◌, ◌≤◌, ◌⊎◌, ◌==◌, Bool, true, false, List, [], ◌++◌, length, drop, Option, None, Some, count_by, slice_get, ⊤}
use Rattle.bd_limits.specs.Limits.{key_limit}
use Rattle.bd_keys.specs.Keys.{InRange}
use Rattle.bd_message.specs.declared.message.Message.{Message}
use Rattle.bd_message.specs.declared.message.Message.TheVariants.{Put, Del, Patch, Cut, Goto}
use Rattle.bd_message.specs.Effect.{NodesAt, begins, rest, is_cut, acts}
use Rattle.bd_node.specs.declared.node.Edge.{Edge}
use Rattle.bd_node.specs.declared.node.Node.{Node}
use Rattle.bd_node.specs.declared.node.Node.TheVariants.{Leaf, Inner}
use Rattle.bd_node.specs.Nodes.{names, node_at, edge_of}
use Rattle.bd_node.specs.Shape.{EachEdge, SomeEdge}
use Rattle.bd_node.specs.Tables.{Table, IsLower}
use Rattle.bd_node.specs.Parts.{buffer_of}
use Rattle.bd_node.specs.Stores.{AreVisits}
use Rattle.bd_resolve.specs.declared.following.Target.{Target}
use Rattle.bd_resolve.specs.declared.following.Followed.{Followed}
use Rattle.bd_resolve.specs.declared.following.Followed.TheVariants.{Here, Past}

-- what a target has at what follows its source, and nothing without one
abbrev pub target_at : NodesAt → Option Target → List ℕ → Option (List ℕ)
target_at below None k = None
target_at below (Some target) k = below target.child (target.source ++ k)

-- the target's node is one of these
abbrev pub IsNamedTarget : List ℕ → Option Target → Type 0
IsNamedTarget ns None = ⊤
IsNamedTarget ns (Some target) = 1 ≤ count_by (λ name. name == target.child) ns

-- the target's node is kept and of a lower level
abbrev pub IsLowerTarget : Table → ℕ → Option Target → Type 0
IsLowerTarget t level None = ⊤
IsLowerTarget t level (Some target) = IsLower t level target.child

-- the level of a target's node
abbrev pub target_level : Table → Option Target → ℕ
target_level t None = 0
target_level t (Some target) = t.level target.child

-- ---- messages

-- the message alone says what stands at each key that begins with the prefix
abbrev pub covers : Message → List ℕ → Bool
covers (Put key value) q = false
covers (Del key) q = false
covers (Patch key off bytes) q = false
covers (Cut prefix from) q = is_cut prefix from q
covers (Goto prefix source child) q = begins q prefix

-- what it sends these keys to: a Cut to nothing, a Goto to its source and what of the prefix is left
abbrev pub covered : Message → List ℕ → Option Target
covered (Put key value) q = None
covered (Del key) q = None
covered (Patch key off bytes) q = None
covered (Cut prefix from) q = None
covered (Goto prefix source child) q =
    Some (record { child = child; source = source ++ rest prefix q })

-- no message from a place on covers the prefix
abbrev pub NoneCovers : List Message → ℕ → List ℕ → Type 0
NoneCovers list from q =
    (place : ℕ) (m : Message) → from ≤ place → slice_get list place ≡ Some m → covers m q ≡ false

-- the message at a place covers the prefix
abbrev pub IsCoverAt : List Message → ℕ → List ℕ → Type 0
IsCoverAt list place q =
    (m : Message) × (slice_get list place ≡ Some m) × (covers m q ≡ true)

-- the place of the newest message that covers the prefix, among those from a place on
abbrev pub IsNewestCover : List Message → ℕ → List ℕ → Option ℕ → Type 0
IsNewestCover list from q None = NoneCovers list from q
IsNewestCover list from q (Some place) =
    (from ≤ place) × NoneCovers list (place + 1) q × IsCoverAt list place q

-- ---- edges

-- the target that a child is, if there is one, with these bytes in front
abbrev pub target_of : Option ℕ → List ℕ → Option Target
target_of None source = None
target_of (Some child) source = Some (record { child = child; source = source })

-- what an edge sends the keys that begin with a prefix to
abbrev pub edge_target : Edge → List ℕ → Option Target
edge_target e q = target_of e.child (e.source ++ drop e.lift q)

-- some key of the edge begins with the prefix
abbrev pub IsUnder : List ℕ → Edge → Option (List ℕ) → Type 0
IsUnder q e hi = (k : List ℕ) × InRange e.pivot hi k × (begins k q ≡ true)

-- so many messages are the most that an edge with a key of the prefix has seen: no such edge has
-- seen more, and, unless there are none, one of them has seen as many
pub record IsMostSeen (edges : List Edge) (q : List ℕ) (seen : ℕ) : Type 0 where
  pub all : EachEdge (λ e hi. IsUnder q e hi → e.seen ≤ seen) edges
  pub one : 1 ≤ seen → SomeEdge (λ e hi. IsUnder q e hi × (e.seen ≡ seen)) edges

-- the edge's pivot begins with the prefix, and goes on
abbrev pub GoesOn : List ℕ → Edge → Option (List ℕ) → Type 0
GoesOn q e hi = (begins e.pivot q ≡ true) × (length q < length e.pivot)

-- the keys that begin with the prefix are of several edges, and each message that covers it has been
-- seen by one of these edges
pub record IsSpread (edges : List Edge) (buffer : List Message) (q : List ℕ) : Type 0 where
  pub several : SomeEdge (GoesOn q) edges
  pub seen : (place : ℕ) (m : Message) → slice_get buffer place ≡ Some m → covers m q ≡ true
      → SomeEdge (λ e hi. IsUnder q e hi × (place < e.seen)) edges

-- ---- one node

-- the way ends at the node: it is a leaf, or the prefix is empty, or no one answers for all its keys
abbrev pub IsEnd : Node → List ℕ → Type 0
IsEnd (Leaf entries) q = ⊤
IsEnd (Inner level edges buffer) q = (q ≡ []) ⊎ IsSpread edges buffer q

-- the way leads to a target, which is one of the node's names: at each key that begins with the
-- prefix the node has what the target has, changed by the messages from a place on, none of which
-- covers the prefix
pub record IsPast (n : Node) (q : List ℕ) (newer : ℕ) (target : Option Target) : Type 0 where
  pub within : newer ≤ length (buffer_of n)
  pub answer : (below : NodesAt) (k : List ℕ) → node_at below n (q ++ k)
      ≡ acts below (drop newer (buffer_of n)) (q ++ k) (target_at below target k)
  pub newest : NoneCovers (buffer_of n) newer q
  pub named : IsNamedTarget (names n) target

-- where the way of a prefix leads from a node
abbrev pub IsFollowed : Node → List ℕ → Followed → Type 0
IsFollowed n q Here = IsEnd n q
IsFollowed n q (Past newer target) = IsPast n q newer target

-- the way leads where the message at a place says
abbrev pub IsPastCover : List Message → ℕ → List ℕ → Followed → Type 0
IsPastCover list place q f =
    (m : Message) → slice_get list place ≡ Some m → f ≡ Past (place + 1) (covered m q)

-- the way leads where the newest message says that covers the prefix, from a place on, if there is
-- one
pub record IsByCover (list : List Message) (from : ℕ) (q : List ℕ) (f : Followed) : Type 0 where
  pub place : ℕ
  pub message : Message
  pub later : from ≤ place
  pub here : slice_get list place ≡ Some message
  pub covering : covers message q ≡ true
  pub newest : NoneCovers list (place + 1) q
  pub leads : f ≡ Past (place + 1) (covered message q)

-- the same, and without such a message the way leads elsewhere
pub data IsByCoverOr (elsewhere : Followed) (list : List Message) (from : ℕ) (q : List ℕ)
    (f : Followed) : Type 0 where
  by_cover : IsByCover list from q f → IsByCoverOr elsewhere list from q f
  by_none : NoneCovers list from q → f ≡ elsewhere → IsByCoverOr elsewhere list from q f

-- the way of a prefix whose keys are of several edges: the newest message leads on that covers it
-- and that none of these edges has seen, and without one the way ends
pub record IsSpreadOver (edges : List Edge) (buffer : List Message) (q : List ℕ) (f : Followed)
    : Type 0 where
  pub seen : ℕ
  pub most : IsMostSeen edges q seen
  pub leads : IsByCoverOr Here buffer seen q f

-- the way of a prefix whose keys are of one edge: the newest message leads on that covers it and
-- that the edge hasn't seen, and without one the edge
abbrev pub IsThroughEdge : Edge → List Message → List ℕ → Followed → Type 0
IsThroughEdge e buffer q f = IsByCoverOr (Past e.seen (edge_target e q)) buffer e.seen q f

-- ---- which message or edge leads on

-- the message at a place covers the prefix, and is pending for each edge with a key that begins
-- with it
pub record Decides (edges : List Edge) (buffer : List Message) (q : List ℕ) (place : ℕ)
    (m : Message) : Type 0 where
  pub here : slice_get buffer place ≡ Some m
  pub covering : covers m q ≡ true
  pub pending : EachEdge (λ e hi. IsUnder q e hi → e.seen ≤ place) edges

-- no message from a place on decides
abbrev pub NoneDecides : List Edge → List Message → List ℕ → ℕ → Type 0
NoneDecides edges buffer q from =
    (place : ℕ) (m : Message) → from ≤ place → ¬ Decides edges buffer q place m

-- the way ends where the prefix is empty; the newest message that decides leads on, and without
-- one the edge of the prefix; where its keys are of several edges, the way ends
pub data IsLed (edges : List Edge) (buffer : List Message) (q : List ℕ) (f : Followed) : Type 0
  where
    at_all : q ≡ [] → f ≡ Here → IsLed edges buffer q f
    by_message : (place : ℕ) (m : Message) → q ≢ [] → Decides edges buffer q place m
        → NoneDecides edges buffer q (place + 1) → f ≡ Past (place + 1) (covered m q)
        → IsLed edges buffer q f
    by_edge : (e : Edge) → q ≢ [] → NoneDecides edges buffer q 0
        → ¬ SomeEdge (GoesOn q) edges → edge_of edges q ≡ Some e
        → f ≡ Past e.seen (edge_target e q) → IsLed edges buffer q f
    at_several : q ≢ [] → NoneDecides edges buffer q 0 → SomeEdge (GoesOn q) edges
        → f ≡ Here → IsLed edges buffer q f

-- where the way of a prefix leads from a node; it ends at a leaf
abbrev pub LeadsTo : Node → List ℕ → Followed → Type 0
LeadsTo (Leaf entries) q f = f ≡ Here
LeadsTo (Inner level edges buffer) q f = IsLed edges buffer q f

-- ---- long prefixes

-- a target whose source can be stored, or none
abbrev pub IsShort : Option Target → Type 0
IsShort None = ⊤
IsShort (Some target) = length target.source ≤ key_limit

-- there was no visit, or there were at most so many
abbrev pub AreNoneOr : ℕ → ℕ → ℕ → Type 0
AreNoneOr most before after = (after ≡ before) ⊎ AreVisits 1 most before after
