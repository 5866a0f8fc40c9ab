-- What is read of an image part by part, before it is known whether the node is well-formed.
use Rattle.std.specs.Prelude.{◌≡◌, ℕ, ◌^◌, ◌<◌, ◌≤◌, List, ◌++◌, length, Option, None, Some, ⊤}
use Rattle.std.specs.List.{AllByRecursion, flat_map}
use Rattle.std.specs.Int.{w32, w64}
use Rattle.bd_wire.specs.Numbers.{be, FitsWidth}
use Rattle.bd_wire.specs.Text.{FitsText16}
use Rattle.bd_wire.specs.Reading.{Unread, Reads}
use Rattle.bd_wire.specs.Encoding.{BeginsNone, FitsBoth, encode_both}
use Rattle.bd_message.specs.Messages.{IsMessage}
use Rattle.bd_message.specs.Codec.{IsPartAs, FitsPart, message_bytes}
use Rattle.bd_message.specs.declared.message.Message.{Message}
use Rattle.bd_node.specs.declared.node.Entry.{Entry}
use Rattle.bd_node.specs.declared.node.Edge.{Edge}
use Rattle.bd_node.specs.declared.node.Node.{Node}
use Rattle.bd_node.specs.declared.node.Node.TheVariants.{Leaf, Inner}
use Rattle.bd_format.specs.Images.{head_bytes, edge_bytes, node_bytes}
use Rattle.bd_format.specs.declared.read.Head.{Head}

-- so many values, each of which fits
abbrev pub AreOf : {A : Type 0} → ℕ → (A → Type 0) → List A → Type 0
AreOf count fits values = (length values ≡ count) × AllByRecursion fits values

-- so many values were read off the front, one after the other, or no such stand there
abbrev pub AreReadAs : {A : Type 0} → ℕ → (A → Type 0) → (A → List ℕ) → Unread → Unread
    → Option (List A) → Type 0
AreReadAs count fits encoding old new found =
    IsPartAs (AreOf count fits) (flat_map encoding) old new found

-- numbers of four bytes
abbrev pub FitsHead : Head → Type 0
FitsHead h = (h.level < 2 ^ 32) × (h.items < 2 ^ 32) × (h.messages < 2 ^ 32)

abbrev pub encode_head : Head → List ℕ
encode_head h = head_bytes h.level h.items h.messages

-- a key and a value with lengths of two bytes
abbrev pub FitsEntry : Entry → Type 0
FitsEntry e = FitsText16 e.key × FitsText16 e.value

-- a child's id has eight bytes, and isn't 0
abbrev pub FitsChild : Option ℕ → Type 0
FitsChild None = ⊤
FitsChild (Some child) = (1 ≤ child) × (child < 2 ^ 64)

-- a child's number and how many messages it has already
abbrev pub FitsTarget : ℕ × ℕ → Type 0
FitsTarget = FitsBoth (FitsWidth w64) (FitsWidth w32)

abbrev pub encode_target : ℕ × ℕ → List ℕ
encode_target = encode_both (be w64) (be w32)

-- an edge whose parts have encodings
abbrev pub FitsEdge : Edge → Type 0
FitsEdge e = FitsPart ((e.pivot, e.lift), e.source) × FitsChild e.child × FitsWidth w32 e.seen

-- edges, and then messages
abbrev pub FitsInner : ℕ → ℕ → List Edge × List Message → Type 0
FitsInner edges messages = FitsBoth (AreOf edges FitsEdge) (AreOf messages IsMessage)

abbrev pub encode_inner : List Edge × List Message → List ℕ
encode_inner = encode_both (flat_map edge_bytes) (flat_map message_bytes)

-- a node whose parts have encodings; a leaf is told by its level
abbrev pub FitsNode : Node → Type 0
FitsNode (Leaf entries) = AreOf (length entries) FitsEntry entries × (length entries < 2 ^ 32)
FitsNode (Inner level edges buffer) =
    (1 ≤ level)
    × FitsHead (record { level = level; items = length edges; messages = length buffer })
    × FitsInner (length edges) (length buffer) (edges, buffer)

-- after this head the rest of such a node was read off the front, or the rest of none stands there
abbrev pub IsRestAs : Head → Unread → Unread → Option Node → Type 0
IsRestAs h old new (Some n) =
    FitsNode n × ((rest : List ℕ) × (node_bytes n ≡ encode_head h ++ rest) × Reads old new rest)
IsRestAs h old new None = BeginsNone FitsNode node_bytes (encode_head h ++ old.left)
