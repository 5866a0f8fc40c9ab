-- What a reader finds after a head, and what it leaves.
use Rattle.std.proofs.Common.{◌≡◌, ◌≢◌, ℕ, ◌≤◌, ◌+◌, List, ◌++◌, length, ◌-◌, Some, refl, sym, ap, subst, ◌∙◌, arith, append_assoc}
use Rattle.std.specs.List.{flat_map}
use Rattle.std.proofs.lemmas.List.{length-replicate}
use Rattle.bd_limits.specs.Limits.{slot_size}
use Rattle.bd_wire.specs.Encoding.{IsPrefixFree, BeginsNone}
use Rattle.bd_wire.specs.Text.{zeros, AreZeros}
use Rattle.bd_wire.proofs.ReadingLemmas.{Reads-append}
use Rattle.bd_message.specs.Messages.{IsMessage}
use Rattle.bd_message.specs.Codec.{message_bytes}
use Rattle.bd_node.specs.Shape.{IsShape}
use Rattle.bd_wire.specs.Reading.{Unread, Reads}
use Rattle.bd_message.specs.declared.message.Message.{Message}
use Rattle.bd_node.specs.declared.node.Edge.{Edge}
use Rattle.bd_node.specs.declared.node.Node.{Node}
use Rattle.bd_node.specs.declared.node.Node.TheVariants.{Leaf, Inner}
use Rattle.bd_format.specs.declared.read.Head.{Head}
use Rattle.bd_format.specs.Images.{entry_bytes, edge_bytes, node_bytes, IsImage}
use Rattle.bd_format.specs.Parts.{AreOf, FitsHead, encode_head, FitsEntry, FitsEdge, FitsInner, encode_inner, FitsNode, IsRestAs}
use Rattle.bd_format.proofs.Alone.{after_head, head_of, rest_of, node_is, head_fits, node_alone}
use Rattle.bd_format.proofs.Fitting.{shape_fits}

-- no node where no head is
pub no_head : (bytes : List ℕ) → BeginsNone FitsHead encode_head bytes → BeginsNone FitsNode node_bytes bytes
no_head bytes none n rest fits e =
    none (head_of n) (rest_of n ++ rest) (head_fits n fits) (e ∙ ap (λ front. front ++ rest) (node_is n) ∙ append_assoc (encode_head (head_of n)) (rest_of n) rest)

-- no leaf has messages
pub no_leaf_with : (h : Head) (left : List ℕ) → FitsHead h → h.level ≡ 0 → h.messages ≢ 0 → BeginsNone FitsNode node_bytes (encode_head h ++ left)
no_leaf_with h left p leaf some (Leaf es) rest fits e = some (ap (λ (g : Head). g.messages) (after_head h (Leaf es) left rest p fits e).0)
no_leaf_with h left p leaf some (Inner l es b) rest fits e =
    omega (arith, leaf, ap (λ (g : Head). g.level) (after_head h (Inner l es b) left rest p fits e).0, fits.0)

-- no leaf stands where too few entries do
pub no_leaf : (h : Head) (left : List ℕ) → FitsHead h → h.level ≡ 0 → BeginsNone (AreOf h.items FitsEntry) (flat_map entry_bytes) left → BeginsNone FitsNode node_bytes (encode_head h ++ left)
no_leaf h left p leaf none (Leaf es) rest fits e =
    let found = after_head h (Leaf es) left rest p fits e in
    none es rest (sym (ap (λ (g : Head). g.items) found.0), fits.0.1) found.1
no_leaf h left p leaf none (Inner l es b) rest fits e =
    omega (arith, leaf, ap (λ (g : Head). g.level) (after_head h (Inner l es b) left rest p fits e).0, fits.0)

-- no inner node stands where too few edges or messages do
pub no_inner : (h : Head) (left : List ℕ) → FitsHead h → 1 ≤ h.level → BeginsNone (FitsInner h.items h.messages) encode_inner left → BeginsNone FitsNode node_bytes (encode_head h ++ left)
no_inner h left p inner none (Leaf es) rest fits e =
    omega (arith, inner, ap (λ (g : Head). g.level) (after_head h (Leaf es) left rest p fits e).0)
no_inner h left p inner none (Inner l es b) rest fits e =
    let found = after_head h (Inner l es b) left rest p fits e in
    none (es, b) rest ((sym (ap (λ (g : Head). g.items) found.0), fits.2.0.1), (sym (ap (λ (g : Head). g.messages) found.0), fits.2.1.1)) found.1

same_head : (h : Head) (es : List Edge) (ms : List Message) → length es ≡ h.items → length ms ≡ h.messages → head_of (Inner h.level es ms) ≡ h
same_head h es ms p q i = record { level = h.level; items = p i; messages = q i }

-- what an inner node's head is followed by was read
inner_rest : (h : Head) (es : List Edge) (ms : List Message) (old mid new : Unread) → FitsHead h → 1 ≤ h.level → AreOf h.items FitsEdge es → Reads old mid (flat_map edge_bytes es)
    → AreOf h.messages IsMessage ms → Reads mid new (flat_map message_bytes ms) → IsRestAs h old new (Some (Inner h.level es ms))
inner_rest h es ms old mid new p level edges read messages read' = (
  (level, (p.0, omega (arith, p.1, edges.0), omega (arith, p.2, messages.0)), ((refl, edges.1), (refl, messages.1))),
  (
    encode_inner (es, ms),
    node_is (Inner h.level es ms) ∙ ap (λ (g : Head). encode_head g ++ encode_inner (es, ms)) (same_head h es ms edges.0 messages.0),
    Reads-append old mid new (flat_map edge_bytes es) (flat_map message_bytes ms) read read',
  ),
)

pub inner_read : (h : Head) (es fs : List Edge) (ms ns : List Message) (old mid new : Unread) → FitsHead h → 1 ≤ h.level → fs ≡ es → ns ≡ ms → AreOf h.items FitsEdge es → Reads old mid (flat_map edge_bytes es)
    → AreOf h.messages IsMessage ms → Reads mid new (flat_map message_bytes ms) → IsRestAs h old new (Some (Inner h.level fs ns))
inner_read h es fs ms ns old mid new p level same same' edges read messages read' =
    subst (λ (l : List Edge). IsRestAs h old new (Some (Inner h.level l ns))) (sym same)
    (subst (λ (l : List Message). IsRestAs h old new (Some (Inner h.level es l))) (sym same') (inner_rest h es ms old mid new p level edges read messages read'))

-- ---- images

-- bytes that begin with a node's encoding are the image of no other node
pub one_image : IsPrefixFree IsMessage message_bytes → (bytes left : List ℕ) (m n : Node) → FitsNode m → bytes ≡ node_bytes m ++ left → IsShape n → IsImage n bytes
    → (m ≡ n) × (left ≡ zeros (slot_size - length (node_bytes n)))
one_image message_alone bytes left m n fits read shape image =
    node_alone message_alone m n left (zeros (slot_size - length (node_bytes n))) fits (shape_fits n shape) (sym read ∙ image)

-- bytes that are so many zeros are zeros
pub AreZeros-zeros : (bytes : List ℕ) (count : ℕ) → bytes ≡ zeros count → AreZeros bytes
AreZeros-zeros bytes count e = e ∙ ap (λ n. zeros n) (sym (ap length e ∙ length-replicate {A = ℕ} count 0))
