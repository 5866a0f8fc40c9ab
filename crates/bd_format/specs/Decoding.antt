-- The node that bytes are the image of, as a function of them. What stands at the front of bytes is
-- read by fields, whether or not they are such an image, and then they are compared with its image.
use Rattle.std.specs.Prelude.{ℕ, zero, suc, ◌==◌, if◌then◌else◌, List, [], ◌∷◌, take, drop, Option, None, Some}
use Rattle.std.specs.Int.{Width, byte_len, w16, w32, w64}
use Rattle.bd_wire.specs.Numbers.{number_at}
use Rattle.bd_message.specs.Effect.{same_key}
use Rattle.bd_message.specs.declared.message.Message.{Message}
use Rattle.bd_message.specs.declared.message.Message.TheVariants.{Put, Del, Patch, Cut, Goto}
use Rattle.bd_node.specs.declared.node.Entry.{Entry}
use Rattle.bd_node.specs.declared.node.Edge.{Edge}
use Rattle.bd_node.specs.declared.node.Node.{Node}
use Rattle.bd_node.specs.declared.node.Node.TheVariants.{Leaf, Inner}
use Rattle.bd_format.specs.Images.{image_of}

-- the value at the front of bytes, and what is left
abbrev pub Reader : Type 0 → Type 0
Reader A = List ℕ → A × List ℕ

-- a number of a width
abbrev pub front_number : Width → Reader ℕ
front_number w bytes = (number_at w bytes, drop (byte_len w) bytes)

-- length-prefixed bytes, as many as there are
abbrev pub front_text : Reader (List ℕ)
front_text bytes = (
  take (number_at w16 bytes) (drop (byte_len w16) bytes),
  drop (number_at w16 bytes) (drop (byte_len w16) bytes),
)

-- a value, and then another one
abbrev pub front_both : {A B : Type 0} → Reader A → Reader B → Reader (A × B)
front_both first second bytes =
    let a = first bytes in
    let b = second a.1 in
    ((a.0, b.0), b.1)

-- so many values
abbrev pub front_list : {A : Type 0} → Reader A → ℕ → Reader (List A)
front_list reader zero bytes = ([], bytes)
front_list reader (suc count) bytes =
    let a = reader bytes in
    let more = front_list reader count a.1 in
    (a.0 ∷ more.0, more.1)

-- a value that is made of the one at the front
abbrev pub front_map : {A B : Type 0} → (A → B) → Reader A → Reader B
front_map make reader bytes = let a = reader bytes in (make a.0, a.1)

-- two texts
abbrev pub front_texts : Reader (List ℕ × List ℕ)
front_texts = front_both front_text front_text

-- a text, a number of two bytes and a text
abbrev pub front_part : Reader ((List ℕ × ℕ) × List ℕ)
front_part = front_both (front_both front_text (front_number w16)) front_text

-- an entry of a key and a value
abbrev pub entry_with : List ℕ × List ℕ → Entry
entry_with p = record { key = p.0; value = p.1 }

-- the child with this number, where 0 is none
abbrev pub child_with : ℕ → Option ℕ
child_with zero = None
child_with (suc n) = Some (suc n)

-- an edge of a pivot, a lift, a source, its child's number and what it has seen
abbrev pub edge_with : ((List ℕ × ℕ) × List ℕ) × (ℕ × ℕ) → Edge
edge_with p = record {
  pivot = p.0.0.0;
  lift = p.0.0.1;
  source = p.0.1;
  child = child_with p.1.0;
  seen = p.1.1;
}

-- a message after its first byte
abbrev pub front_message_of : ℕ → Reader Message
front_message_of tag =
    if tag == 1 then front_map (λ p. Put p.0 p.1) front_texts
    else if tag == 2 then front_map Del front_text
    else if tag == 3 then front_map (λ p. Patch p.0.0 p.0.1 p.1) front_part
    else if tag == 4 then front_map (λ p. Cut p.0 p.1) front_texts
    else front_map (λ p. Goto p.0.0 p.0.1 p.1) (front_both front_texts (front_number w64))

abbrev pub front_message : Reader Message
front_message [] = (Del [], [])
front_message (tag ∷ bytes) = front_message_of tag bytes

abbrev pub front_entry : Reader Entry
front_entry = front_map entry_with front_texts

abbrev pub front_edge : Reader Edge
front_edge = front_map edge_with
    (front_both front_part (front_both (front_number w64) (front_number w32)))

-- the magic, the level, and how many entries or edges and how many messages there are
abbrev pub front_head : Reader (((ℕ × ℕ) × ℕ) × ℕ)
front_head = front_both
    (front_both (front_both (front_number w32) (front_number w32)) (front_number w32))
    (front_number w32)

-- a node of this level after its head, with so many entries or edges, and so many messages
abbrev pub front_rest : ℕ → ℕ → ℕ → Reader Node
front_rest zero items messages = front_map Leaf (front_list front_entry items)
front_rest (suc level) items messages = front_map (λ p. Inner (suc level) p.0 p.1)
    (front_both (front_list front_edge items) (front_list front_message messages))

abbrev pub front_node : Reader Node
front_node bytes =
    let head = front_head bytes in
    front_rest head.0.0.0.1 head.0.0.1 head.0.1 head.1

-- the node whose image the bytes are, if there is one; it may not be well-formed
unfoldable pub node_in : List ℕ → Option Node
node_in bytes =
    let node = (front_node bytes).0 in
    if same_key bytes (image_of node) then Some node else None
