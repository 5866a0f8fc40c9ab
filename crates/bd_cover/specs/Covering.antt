-- Messages that decide what stands at each key of an edge.
use Rattle.std.specs.Prelude.{◌≡◌, ℕ, zero, suc, ◌+◌, ◌<◌, ◌≤◌, true, List, [], ◌∷◌, ◌++◌, take, drop, Option, Some, slice_get, ⊤}
use Rattle.bd_keys.specs.Keys.{IsKey, InRange}
use Rattle.bd_message.specs.declared.message.Message.{Message}
use Rattle.bd_message.specs.declared.message.Message.TheVariants.{Put, Del, Patch, Cut, Goto}
use Rattle.bd_node.specs.declared.node.Edge.{Edge}
use Rattle.bd_node.specs.declared.node.Node.{Node}
use Rattle.bd_node.specs.declared.node.Node.TheVariants.{Leaf, Inner}
use Rattle.bd_node.specs.Shape.{end_before, IsPending}
use Rattle.bd_node.specs.Touching.{touches}
use Rattle.bd_node.specs.Parts.{edges_of, buffer_of, end_at, IsEdgeAt}
use Rattle.bd_inner.specs.Halves.{bare_edge}
use Rattle.bd_inner.specs.Carving.{from_key, goto_edge}
use Rattle.bd_node.specs.Compaction.{IsCompacted}
use Rattle.bd_cover.specs.declared.covering.Cover.{Cover}
use Rattle.bd_cover.specs.declared.covering.Cover.TheVariants.{Gone, Elsewhere}

-- the message says so of its keys: a Cut that nothing stands there, a Goto that another node is
-- asked
abbrev pub Says : Cover → Message → Type 0
Says Gone (Put key value) = ⊥
Says Gone (Del key) = ⊥
Says Gone (Patch key off bytes) = ⊥
Says Gone (Cut prefix from) = ⊤
Says Gone (Goto prefix source child) = ⊥
Says Elsewhere (Put key value) = ⊥
Says Elsewhere (Del key) = ⊥
Says Elsewhere (Patch key off bytes) = ⊥
Says Elsewhere (Cut prefix from) = ⊥
Says Elsewhere (Goto prefix source child) = ⊤

-- the message changes what stands at `lo`, and at each key from it up to `hi`
pub record TouchesAll (m : Message) (lo : List ℕ) (hi : Option (List ℕ)) : Type 0 where
  pub first : touches m lo ≡ true
  pub each : (k : List ℕ) → IsKey k → InRange lo hi k → touches m k ≡ true

-- an edge, whose keys end there, hasn't seen the message at a place, which decides all its keys
abbrev pub Decides : Cover → ℕ → Message → Edge → Option (List ℕ) → Type 0
Decides cover at m e hi = (e.seen ≤ at) × Says cover m × TouchesAll m e.pivot hi

-- no message of a buffer does
abbrev pub NoneDecides : Cover → List Message → Edge → Option (List ℕ) → Type 0
NoneDecides cover buffer e hi =
    (i : ℕ) (m : Message) → slice_get buffer i ≡ Some m → ¬ Decides cover i m e hi

-- the newest one that does stands at this place
pub record IsNewest (cover : Cover) (buffer : List Message) (e : Edge) (hi : Option (List ℕ))
    (at : ℕ) : Type 0 where
  pub message : Message
  pub there : slice_get buffer at ≡ Some message
  pub decides : Decides cover at message e hi
  pub newest : (i : ℕ) (m : Message) → at < i → slice_get buffer i ≡ Some m
      → ¬ Decides cover i m e hi

-- ---- of a node

-- the message at a place of a node's buffer decides all keys of the edge at a place, which hasn't
-- seen it
pub record IsCovered (cover : Cover) (n : Node) (place at : ℕ) : Type 0 where
  pub edge : Edge
  pub here : IsEdgeAt n place edge
  pub message : Message
  pub there : slice_get (buffer_of n) at ≡ Some message
  pub decides : Decides cover at message edge (end_at n place)

-- there is no such edge
abbrev pub HasNoCovered : Cover → Node → Type 0
HasNoCovered cover n = (place at : ℕ) → ¬ IsCovered cover n place at

-- the first such edge, and the newest such message
pub record IsFirstCovered (cover : Cover) (n : Node) (place at : ℕ) : Type 0 where
  pub covered : IsCovered cover n place at
  pub newest : (j : ℕ) → at < j → ¬ IsCovered cover n place j
  pub first : (i j : ℕ) → i < place → ¬ IsCovered cover n i j

-- ---- Cuts that are pending

-- a Cut of a buffer is pending for an edge, whose keys end there
pub record IsCutFor (buffer : List Message) (e : Edge) (hi : Option (List ℕ)) : Type 0 where
  pub at : ℕ
  pub message : Message
  pub there : slice_get buffer at ≡ Some message
  pub cut : Says Gone message
  pub pending : IsPending at message e hi

-- a Cut is pending for the edge at a place of a node
pub record HasCut (n : Node) (place : ℕ) : Type 0 where
  pub edge : Edge
  pub here : IsEdgeAt n place edge
  pub cut : IsCutFor (buffer_of n) edge (end_at n place)

-- there is no such edge
abbrev pub HasNoCut : Node → Type 0
HasNoCut n = (place : ℕ) → ¬ HasCut n place

-- the first such edge
pub record IsFirstCut (n : Node) (place : ℕ) : Type 0 where
  pub cut : HasCut n place
  pub first : (i : ℕ) → i < place → ¬ HasCut n i

-- ---- what a covering message makes of an edge

-- what the message at a place makes of an edge all of whose keys it decides: after a Cut it has no
-- child, after a Goto it asks the Goto's node; it has seen all up to the message
abbrev pub decided_edge : Edge → ℕ → Message → Edge
decided_edge e at (Put key value) = e
decided_edge e at (Del key) = e
decided_edge e at (Patch key off bytes) = e
decided_edge e at (Cut prefix from) = bare_edge e.pivot (at + 1)
decided_edge e at (Goto prefix source child) = from_key (goto_edge at prefix source child) e.pivot

-- so many of the first of these edges, and no more, are such that the newest Goto which decides all
-- keys of the edge stands at a place of the buffer
abbrev pub IsRun : List Message → ℕ → List Edge → ℕ → Type 0
IsRun buffer at [] count = count ≡ 0
IsRun buffer at (e ∷ es) zero = ¬ IsNewest Elsewhere buffer e (end_before es) at
IsRun buffer at (e ∷ es) (suc count) =
    IsNewest Elsewhere buffer e (end_before es) at × IsRun buffer at es count

-- the edges after the one at a place
abbrev pub edges_after : Node → ℕ → List Edge
edges_after n place = drop (place + 1) (edges_of n)

-- the node with an edge in place of the one at a place and of so many after it
abbrev pub joined : Node → ℕ → ℕ → Edge → Node
joined (Leaf entries) place count e = Leaf entries
joined (Inner level edges buffer) place count e =
    Inner level (take place edges ++ e ∷ drop count (drop (place + 1) edges)) buffer

-- the node `m` is `n` with what the message at a place makes of the edge at a place, in place of
-- that edge and, if the message is a Goto, of the neighbours after it of which it is the newest that
-- decides all their keys; and without the messages that are then pending for no edge
pub record IsDecided (n : Node) (place at : ℕ) (m : Node) : Type 0 where
  pub edge : Edge
  pub here : IsEdgeAt n place edge
  pub message : Message
  pub there : slice_get (buffer_of n) at ≡ Some message
  pub count : ℕ
  pub run : IsRun (buffer_of n) at (edges_after n place) count
  pub into : IsCompacted (joined n place count (decided_edge edge at message)) m
