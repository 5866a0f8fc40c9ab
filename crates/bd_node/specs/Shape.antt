-- Well-formed nodes.
use Rattle.std.specs.Prelude.{◌≡◌, ℕ, ◌+◌, ◌<◌, ◌≤◌, ◌^◌, ◌⊎◌, List, [], ◌∷◌, length, take, Option, None, Some, slice_get, ⊤}
use Rattle.std.specs.List.{AllByRecursion, sum_by}
use Rattle.bd_limits.specs.Limits.{key_limit, block_limit, buffer_limit, leaf_limit, level_limit, edge_limit, base_size}
use Rattle.bd_keys.specs.Keys.{IsBelow, IsBelowEnd, InRange, IsCommon}
use Rattle.bd_message.specs.declared.message.Message.{Message}
use Rattle.bd_message.specs.Messages.{IsMessage, size}
use Rattle.bd_node.specs.declared.node.Entry.{Entry}
use Rattle.bd_node.specs.declared.node.Edge.{Edge}
use Rattle.bd_node.specs.declared.node.Node.{Node}
use Rattle.bd_node.specs.declared.node.Node.TheVariants.{Leaf, Inner}
use Rattle.bd_node.specs.Touching.{CanTouch}

-- ---- leaves

-- how many bytes an entry counts: as its Put
abbrev pub entry_size : Entry → ℕ
entry_size e = base_size + length e.key + length e.value

-- a key of at most 518 bytes and a value of 1 to 1,024
pub record IsEntry (e : Entry) : Type 0 where
  pub key : length e.key ≤ key_limit
  pub some : 1 ≤ length e.value
  pub value : length e.value ≤ block_limit

-- the key is below that of each of these entries
abbrev pub IsBelowAll : Entry → List Entry → Type 0
IsBelowAll e es = AllByRecursion (λ (f : Entry). IsBelow e.key f.key) es

-- each key is below those after it
abbrev pub IsRising : List Entry → Type 0
IsRising [] = ⊤
IsRising (e ∷ es) = IsBelowAll e es × IsRising es

-- a leaf: entries in rising order, not too many bytes
pub record IsLeaf (entries : List Entry) : Type 0 where
  pub each : AllByRecursion IsEntry entries
  pub rising : IsRising entries
  pub size : sum_by entry_size entries ≤ leaf_limit

-- ---- inner nodes

-- where the keys of the edge before these end
abbrev pub end_before : List Edge → Option (List ℕ)
end_before [] = None
end_before (e ∷ es) = Some e.pivot

-- each edge has the property, which also takes where its keys end
abbrev pub EachEdge : (Edge → Option (List ℕ) → Type 0) → List Edge → Type 0
EachEdge P [] = ⊤
EachEdge P (e ∷ es) = P e (end_before es) × EachEdge P es

-- some edge has it
abbrev pub SomeEdge : (Edge → Option (List ℕ) → Type 0) → List Edge → Type 0
SomeEdge P [] = ⊥
SomeEdge P (e ∷ es) = P e (end_before es) ⊎ SomeEdge P es

-- each pivot is below the next one
abbrev pub AreRising : List Edge → Type 0
AreRising edges = EachEdge (λ (e : Edge) hi. IsBelowEnd e.pivot hi) edges

-- a child is a node's id, and without one there is no source
abbrev pub IsChild : Option ℕ → List ℕ → Type 0
IsChild None source = source ≡ []
IsChild (Some child) source = (1 ≤ child) × (child < 2 ^ 64)

-- an edge whose keys end there, over a buffer of so many messages: its pivot and its source can be
-- stored, and the bytes that it leaves out are the first of all its keys
pub record IsEdge (buffered : ℕ) (e : Edge) (hi : Option (List ℕ)) : Type 0 where
  pub pivot : length e.pivot ≤ key_limit
  pub rising : IsBelowEnd e.pivot hi
  pub lift : e.lift ≤ length e.pivot
  pub common : IsCommon e.pivot hi (take e.lift e.pivot)
  pub source : length e.source ≤ key_limit
  pub child : IsChild e.child e.source
  pub seen : e.seen ≤ buffered

-- the edge hasn't seen the message at this place, and its keys include the key
abbrev pub IsUnseen : ℕ → List ℕ → Edge → Option (List ℕ) → Type 0
IsUnseen place k e hi = (e.seen ≤ place) × InRange e.pivot hi k

-- the edge hasn't seen the message at this place, which can change what stands at a key of the edge
abbrev pub IsPending : ℕ → Message → Edge → Option (List ℕ) → Type 0
IsPending place m e hi = (e.seen ≤ place) × CanTouch m e.pivot hi

-- an inner node: its level, how many edges, the first from the empty key on, and messages that
-- aren't too many bytes, each of which is pending for some edge
pub record IsInner (level : ℕ) (edges : List Edge) (buffer : List Message) : Type 0 where
  pub low : 1 ≤ level
  pub high : level ≤ level_limit
  pub few : length edges ≤ edge_limit
  pub first : end_before edges ≡ Some []
  pub each : EachEdge (IsEdge (length buffer)) edges
  pub messages : AllByRecursion IsMessage buffer
  pub size : sum_by size buffer ≤ buffer_limit
  pub pending : (place : ℕ) (m : Message) → slice_get buffer place ≡ Some m
      → SomeEdge (IsPending place m) edges

-- a well-formed node
abbrev pub IsShape : Node → Type 0
IsShape (Leaf entries) = IsLeaf entries
IsShape (Inner level edges buffer) = IsInner level edges buffer
