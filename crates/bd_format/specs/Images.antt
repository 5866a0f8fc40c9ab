-- How nodes are encoded in slots.
use Rattle.std.specs.Prelude.{◌≡◌, ℕ, ◌-◌, List, ◌++◌, length, Option, None, Some}
use Rattle.std.specs.List.{flat_map}
use Rattle.std.specs.Int.{w16, w32, w64}
use Rattle.bd_limits.specs.Limits.{slot_size}
use Rattle.bd_wire.specs.Numbers.{be}
use Rattle.bd_wire.specs.Text.{text16, zeros}
use Rattle.bd_message.specs.Codec.{message_bytes}
use Rattle.bd_node.specs.declared.node.Entry.{Entry}
use Rattle.bd_node.specs.declared.node.Edge.{Edge}
use Rattle.bd_node.specs.declared.node.Node.{Node}
use Rattle.bd_node.specs.declared.node.Node.TheVariants.{Leaf, Inner}
use Rattle.bd_node.specs.Shape.{IsShape}

-- what an image of a node begins with: the bytes `BDN1`
abbrev pub node_magic : ℕ
node_magic = 0x42444e31

-- the level, how many entries or edges there are, and how many messages
abbrev pub head_bytes : ℕ → ℕ → ℕ → List ℕ
head_bytes level items messages =
    be w32 node_magic ++ be w32 level ++ be w32 items ++ be w32 messages

-- the bytes of a head
abbrev pub node_head_size : ℕ
node_head_size = 16

-- a key and its value
abbrev pub entry_bytes : Entry → List ℕ
entry_bytes e = text16 e.key ++ text16 e.value

-- a child's id, which is never 0, and 0 without one
abbrev pub child_number : Option ℕ → ℕ
child_number None = 0
child_number (Some child) = child

-- an edge's parts in order
abbrev pub edge_bytes : Edge → List ℕ
edge_bytes e =
    text16 e.pivot ++ be w16 e.lift ++ text16 e.source
    ++ be w64 (child_number e.child) ++ be w32 e.seen

-- what an edge takes beside its pivot and its source
abbrev pub edge_base_size : ℕ
edge_base_size = 18

-- a node: its head, and then its entries, or its edges and the messages that wait in it
abbrev pub node_bytes : Node → List ℕ
node_bytes (Leaf entries) = head_bytes 0 (length entries) 0 ++ flat_map entry_bytes entries
node_bytes (Inner level edges buffer) =
    head_bytes level (length edges) (length buffer)
    ++ flat_map edge_bytes edges ++ flat_map message_bytes buffer

-- a node's encoding, and then zeros to the end of a slot
abbrev pub image_of : Node → List ℕ
image_of n = node_bytes n ++ zeros (slot_size - length (node_bytes n))

-- the bytes are the image of the node
abbrev pub IsImage : Node → List ℕ → Type 0
IsImage n bytes = bytes ≡ image_of n

-- the bytes are the image of this well-formed node, or else of none
abbrev pub IsDecodedAs : List ℕ → Option Node → Type 0
IsDecodedAs bytes (Some n) = IsShape n × IsImage n bytes
IsDecodedAs bytes None = (n : Node) → IsShape n → ¬ IsImage n bytes
