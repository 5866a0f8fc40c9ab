-- Well-formed nodes have encodings, which fit into slots.
use Rattle.std.proofs.Common.{◌≡◌, ℕ, ◌+◌, ◌*◌, ◌<◌, ◌≤◌, ◌^◌, List, [], ◌∷◌, ◌++◌, length, refl, arith, length-append, Option, None, Some}
use Rattle.std.specs.List.{AllByRecursion, flat_map, sum_by}
use Rattle.std.specs.Int.{w16, w32, w64}
use Rattle.std.proofs.lemmas.List.Sums.{sum_by-cons}
use Rattle.bd_limits.specs.Limits.{key_limit, leaf_limit, buffer_limit, edge_limit, slot_size}
use Rattle.bd_wire.specs.Numbers.{be}
use Rattle.bd_wire.specs.Text.{text16}
use Rattle.bd_wire.proofs.NumberLemmas.{length-be}
use Rattle.bd_wire.proofs.TextLemmas.{length-text16}
use Rattle.bd_message.specs.declared.message.Message.{Message}
use Rattle.bd_message.specs.declared.message.Message.TheVariants.{Put, Del, Patch, Cut, Goto}
use Rattle.bd_message.specs.Messages.{IsMessage, size}
use Rattle.bd_message.specs.Codec.{message_bytes}
use Rattle.bd_node.specs.declared.node.Entry.{Entry}
use Rattle.bd_node.specs.declared.node.Edge.{Edge}
use Rattle.bd_node.specs.declared.node.Node.{Node}
use Rattle.bd_node.specs.declared.node.Node.TheVariants.{Leaf, Inner}
use Rattle.bd_node.specs.Shape.{entry_size, IsEntry, IsLeaf, end_before, EachEdge, IsChild, IsEdge, IsInner, IsShape}
use Rattle.bd_node.proofs.Lookup.{each_weaker}
use Rattle.bd_format.specs.Images.{head_bytes, node_magic, entry_bytes, child_number, edge_bytes, node_bytes}
use Rattle.bd_format.specs.Parts.{FitsEntry, FitsChild, FitsEdge, FitsNode}

-- ---- leaves

pub entry_fits : (e : Entry) → IsEntry e → FitsEntry e
entry_fits e h = (omega (arith, h.key), omega (arith, h.value))

pub entries_fit : (es : List Entry) → AllByRecursion IsEntry es → AllByRecursion FitsEntry es
entries_fit es h = each_weaker IsEntry FitsEntry entry_fits es h

-- each entry counts at least one byte
entries_few : (es : List Entry) → length es ≤ sum_by entry_size es
entries_few [] = omega arith
entries_few (e ∷ es) = omega (arith, entries_few es, sum_by-cons entry_size e es)

length-entry : (e : Entry) → length (entry_bytes e) ≤ entry_size e
length-entry e = omega (arith, length-append (text16 e.key) (text16 e.value), length-text16 e.key, length-text16 e.value)

length-entries : (es : List Entry) → length (flat_map entry_bytes es) ≤ sum_by entry_size es
length-entries [] = omega arith
length-entries (e ∷ es) = omega (arith, length-append (entry_bytes e) (flat_map entry_bytes es), length-entry e, length-entries es, sum_by-cons entry_size e es)

-- ---- edges

fits_child : (child : Option ℕ) (source : List ℕ) → IsChild child source → FitsChild child
fits_child None source h = tt
fits_child (Some child) source h = h

pub edge_fits : (n : ℕ) (e : Edge) (hi : Option (List ℕ)) → n < 2 ^ 32 → IsEdge n e hi → FitsEdge e
edge_fits n e hi few h =
    (((omega (arith, h.pivot), omega (arith, h.pivot, h.lift)), omega (arith, h.source)), fits_child e.child e.source h.child, omega (arith, few, h.seen))

pub edges_fit : (n : ℕ) (es : List Edge) → n < 2 ^ 32 → EachEdge (IsEdge n) es → AllByRecursion FitsEdge es
edges_fit n [] few h = tt
edges_fit n (e ∷ es) few h = (edge_fits n e (end_before es) few h.0, edges_fit n es few h.1)

length-edge : (n : ℕ) (e : Edge) (hi : Option (List ℕ)) → IsEdge n e hi → length (edge_bytes e) ≤ 18 + 2 * key_limit
length-edge n e hi h =
    omega (
      arith,
      h.pivot,
      h.source,
      length-append (text16 e.pivot ++ be w16 e.lift ++ text16 e.source ++ be w64 (child_number e.child)) (be w32 e.seen),
      length-append (text16 e.pivot ++ be w16 e.lift ++ text16 e.source) (be w64 (child_number e.child)),
      length-append (text16 e.pivot ++ be w16 e.lift) (text16 e.source),
      length-append (text16 e.pivot) (be w16 e.lift),
      length-text16 e.pivot,
      length-text16 e.source,
      length-be w16 e.lift,
      length-be w64 (child_number e.child),
      length-be w32 e.seen,
    )

length-edges : (n : ℕ) (es : List Edge) → EachEdge (IsEdge n) es → length (flat_map edge_bytes es) ≤ length es * (18 + 2 * key_limit)
length-edges n [] h = omega arith
length-edges n (e ∷ es) h = omega (arith, length-append (edge_bytes e) (flat_map edge_bytes es), length-edge n e (end_before es) h.0, length-edges n es h.1)

-- ---- messages

-- no message's encoding is longer than its size
abbrev pub AreWithin : Type 0
AreWithin = (m : Message) → IsMessage m → length (message_bytes m) ≤ size m

-- each message counts at least one byte
message_some : (m : Message) → 1 ≤ size m
message_some (Put key value) = omega arith
message_some (Del key) = omega arith
message_some (Patch key off bytes) = omega arith
message_some (Cut prefix from) = omega arith
message_some (Goto prefix source child) = omega arith

pub messages_few : (ms : List Message) → length ms ≤ sum_by size ms
messages_few [] = omega arith
messages_few (m ∷ ms) = omega (arith, messages_few ms, message_some m, sum_by-cons size m ms)

length-messages : AreWithin → (ms : List Message) → AllByRecursion IsMessage ms → length (flat_map message_bytes ms) ≤ sum_by size ms
length-messages within [] h = omega arith
length-messages within (m ∷ ms) h = omega (arith, length-append (message_bytes m) (flat_map message_bytes ms), within m h.0, length-messages within ms h.1, sum_by-cons size m ms)

-- ---- nodes

length-head : (level items messages : ℕ) → length (head_bytes level items messages) ≡ 16
length-head level items messages =
    omega (
      arith,
      length-append (be w32 node_magic ++ be w32 level ++ be w32 items) (be w32 messages),
      length-append (be w32 node_magic ++ be w32 level) (be w32 items),
      length-append (be w32 node_magic) (be w32 level),
      length-be w32 node_magic,
      length-be w32 level,
      length-be w32 items,
      length-be w32 messages,
    )

pub leaf_few : (es : List Entry) → IsLeaf es → length es < 2 ^ 32
leaf_few es h = omega (arith, entries_few es, h.size)

pub buffer_few : (level : ℕ) (es : List Edge) (ms : List Message) → IsInner level es ms → length ms < 2 ^ 32
buffer_few level es ms h = omega (arith, messages_few ms, h.size)

pub shape_fits : (n : Node) → IsShape n → FitsNode n
shape_fits (Leaf es) h = ((refl, entries_fit es h.each), leaf_few es h)
shape_fits (Inner level es ms) h =
    let few = buffer_few level es ms h in
    (h.low, (omega (arith, h.high), omega (arith, h.few), few), ((refl, edges_fit (length ms) es few h.each), (refl, h.messages)))

pub length-leaf : (es : List Entry) → IsLeaf es → length (node_bytes (Leaf es)) ≤ 16 + leaf_limit
length-leaf es h = omega (arith, length-append (head_bytes 0 (length es) 0) (flat_map entry_bytes es), length-head 0 (length es) 0, length-entries es, h.size)

pub length-inner : AreWithin → (level : ℕ) (es : List Edge) (ms : List Message) → IsInner level es ms → length (node_bytes (Inner level es ms)) ≤ 16 + edge_limit * (18 + 2 * key_limit) + buffer_limit
length-inner within level es ms h =
    omega (
      arith,
      length-append (head_bytes level (length es) (length ms) ++ flat_map edge_bytes es) (flat_map message_bytes ms),
      length-append (head_bytes level (length es) (length ms)) (flat_map edge_bytes es),
      length-head level (length es) (length ms),
      length-edges (length ms) es h.each,
      h.few,
      length-messages within ms h.messages,
      h.size,
    )

pub length-node : AreWithin → (n : Node) → IsShape n → length (node_bytes n) ≤ slot_size
length-node within (Leaf es) h = omega (arith, length-leaf es h)
length-node within (Inner level es ms) h = omega (arith, length-inner within level es ms h)
