-- Which messages go down an edge that has seen more of them.
use Rattle.std.specs.Prelude.{◌≡◌, ℕ, ◌+◌, ◌<◌, ◌≤◌, ◌∷◌, ◌++◌, List, take, drop, Some, slice_get}
use Rattle.bd_message.specs.declared.message.Message.{Message}
use Rattle.bd_message.specs.Messages.{IsPlain}
use Rattle.bd_node.specs.declared.node.Edge.{Edge}
use Rattle.bd_node.specs.Pushes.{seen_by}
use Rattle.bd_node.specs.Shape.{end_before}
use Rattle.bd_node.specs.Touching.{CanTouch}

-- the edge at a place, which can see so many more of the messages that wait
abbrev pub CanSee : List Edge → ℕ → ℕ → ℕ → Edge → Type 0
CanSee edges place count waiting e =
    (slice_get edges place ≡ Some e) × (e.seen + count ≤ waiting)

-- the edges, after the one at a place has seen so many more messages
abbrev pub after_seeing : List Edge → ℕ → ℕ → Edge → List Edge
after_seeing edges place count e =
    take place edges ++ (seen_by e count ∷ drop (place + 1) edges)

-- the message at this place, among those from one on that the edge has seen, can change what stands
-- at a key of the edge
abbrev pub IsGoing : List Edge → ℕ → ℕ → ℕ → Message → Type 0
IsGoing edges place from at m =
    (e : Edge) × (slice_get edges place ≡ Some e) × (from ≤ at) × (at < e.seen)
    × CanTouch m e.pivot (end_before (drop (place + 1) edges))

-- none of those names a node
abbrev pub ArePlain : List Edge → ℕ → ℕ → List Message → Type 0
ArePlain edges place from list =
    (at : ℕ) (m : Message) → slice_get list at ≡ Some m → IsGoing edges place from at m → IsPlain m
