-- Edges that ask a child for keys at which nothing stands.
use Rattle.std.specs.Prelude.{◌≡◌, ℕ, zero, suc, ◌+◌, ◌<◌, ◌≤◌, List, [], ◌∷◌, Option, None, Some, IfSome, ⊤}
use Rattle.std.specs.Option.{option_map, unwrap_or}
use Rattle.std.specs.List.{AllByRecursion}
use Rattle.bd_keys.specs.declared.range.Range.{Range}
use Rattle.bd_keys.specs.Ranges.{Has}
use Rattle.bd_message.specs.declared.message.Message.{Message}
use Rattle.bd_message.specs.declared.message.Message.TheVariants.{Put, Del, Patch, Cut, Goto}
use Rattle.bd_node.specs.declared.node.Entry.{Entry}
use Rattle.bd_node.specs.declared.node.Edge.{Edge}
use Rattle.bd_node.specs.declared.node.Node.{Node}
use Rattle.bd_node.specs.declared.node.Node.TheVariants.{Leaf, Inner}
use Rattle.bd_node.specs.Compaction.{IsCompacted}
use Rattle.bd_node.specs.Meaning.{Nodes}
use Rattle.bd_node.specs.Parts.{edges_of, end_at, IsEdgeAt}
use Rattle.bd_node.specs.Pushes.{exchanged}
use Rattle.bd_node.specs.Shape.{end_before, EachEdge}
use Rattle.bd_node.specs.Touching.{CanTouch}
use Rattle.bd_inner.specs.Halves.{bare_edge}
use Rattle.bd_path.specs.Fetching.{IsEdgeTo}
use Rattle.bd_cover.specs.declared.asking.Ask.{Ask}
use Rattle.bd_cover.specs.Asked.{asks}

-- ---- keys at which nothing stands

-- the message leaves nothing where nothing stood
abbrev pub Removes : Message → Type 0
Removes (Put key value) = ⊥
Removes (Del key) = ⊤
Removes (Patch key off bytes) = ⊥
Removes (Cut prefix from) = ⊤
Removes (Goto prefix source child) = ⊥

-- a node itself puts nothing at the keys: a leaf has no entry there, and an inner node no message
-- that can change what stands there but those that remove
abbrev pub PutsNothing : Node → Range → Type 0
PutsNothing (Leaf entries) keys = AllByRecursion (λ (x : Entry). ¬ Has keys x.key) entries
PutsNothing (Inner level edges buffer) keys =
    AllByRecursion (λ (m : Message). CanTouch m keys.lo keys.hi → Removes m) buffer

-- what is asked of a child finds nothing, where `Finds` says so of what the child asks below
pub record FindsNothing (nodes : Nodes) (Finds : Ask → Type 0) (ask : Ask) : Type 0 where
  pub node : Node
  pub there : nodes ask.child ≡ Some node
  pub own : PutsNothing node ask.keys
  pub below : EachEdge (λ e end. IfSome (asks e end ask.keys.lo ask.keys.hi) Finds) (edges_of node)

-- a child has nothing at the keys that it is asked for, as far as its own messages or entries and
-- those of the nodes tell that are asked below it, at most so many one below the other
unfoldable pub HasNothing : Nodes → ℕ → Ask → Type 0
HasNothing nodes zero ask = ⊥
HasNothing nodes (suc depth) ask = FindsNothing nodes (HasNothing nodes depth) ask

-- a sum over edges, of a number that also takes where an edge's keys end
abbrev pub sum_edges : (Edge → Option (List ℕ) → ℕ) → List Edge → ℕ
sum_edges f [] = 0
sum_edges f (e ∷ es) = f e (end_before es) + sum_edges f es

-- a number of what an edge asks its child, 0 where it asks nothing
abbrev pub if_asked : (Ask → ℕ) → Option Ask → ℕ
if_asked f ask = unwrap_or (option_map f ask) 0

-- the sum over what a node's edges ask, where the node is asked for keys
abbrev pub sum_asked : (Ask → ℕ) → Range → Option Node → ℕ
sum_asked f keys None = 0
sum_asked f keys (Some n) =
    sum_edges (λ e end. if_asked f (asks e end keys.lo keys.hi)) (edges_of n)

-- how many looks it takes: one at the child, and those that each of its edges takes
unfoldable pub look_count : Nodes → ℕ → Ask → ℕ
look_count nodes zero ask = 0
look_count nodes (suc depth) ask =
    suc (sum_asked (look_count nodes depth) ask.keys (nodes ask.child))

-- with so many looks: the child has nothing there, and so many of them are left; or else, where none
-- are said to be left, it has something, or it takes more
abbrev pub LooksLeave : Nodes → ℕ → Ask → ℕ → Option ℕ → Type 0
LooksLeave nodes depth ask looks (Some rest) =
    HasNothing nodes depth ask × (rest + look_count nodes depth ask ≡ looks)
LooksLeave nodes depth ask looks None =
    HasNothing nodes depth ask → looks < look_count nodes depth ask

-- ---- edges that ask for such keys

-- how many looks are taken for an edge at most
abbrev pub look_limit : ℕ
look_limit = 64

-- the node's edge at a place has a child
pub record HasChildAt (n : Node) (place : ℕ) : Type 0 where
  pub edge : Edge
  pub child : ℕ
  pub asks : IsEdgeTo n place child edge

-- an edge, whose keys end there, asks a child that has nothing for it, as few looks tell
pub record IsBareWay (nodes : Nodes) (e : Edge) (hi : Option (List ℕ)) : Type 0 where
  pub ask : Ask
  pub asked : asks e hi [] None ≡ Some ask
  pub nothing : HasNothing nodes look_limit ask
  pub few : look_count nodes look_limit ask ≤ look_limit

-- so does the edge at a place of a node
pub record IsBareAt (nodes : Nodes) (n : Node) (place : ℕ) : Type 0 where
  pub edge : Edge
  pub here : IsEdgeAt n place edge
  pub bare : IsBareWay nodes edge (end_at n place)

-- there is no such edge
abbrev pub HasNoBare : Nodes → Node → Type 0
HasNoBare nodes n = (place : ℕ) → ¬ IsBareAt nodes n place

-- ---- what becomes of the node

-- the node `m` is `n` without the child of the edge at a place, which has seen what it had seen; and
-- without the messages that are then pending for no edge
pub record IsBared (n : Node) (place : ℕ) (m : Node) : Type 0 where
  pub edge : Edge
  pub here : IsEdgeAt n place edge
  pub into : IsCompacted (exchanged n place (bare_edge edge.pivot edge.seen ∷ [])) m
