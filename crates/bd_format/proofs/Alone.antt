-- The encodings of the parts of nodes are prefix-free.
use Rattle.std.proofs.Common.{◌≡◌, ◌≢◌, ℕ, ◌+◌, ◌<◌, ◌≤◌, ◌^◌, List, ◌++◌, length, refl, sym, ap, ◌∙◌, arith, append_assoc, length-append, Option, None, Some}
use Rattle.std.specs.List.{flat_map}
use Rattle.std.specs.Int.{w16, w32, w64}
use Rattle.bd_wire.specs.Numbers.{be, FitsWidth}
use Rattle.bd_wire.specs.Text.{text16, FitsText16}
use Rattle.bd_wire.specs.Encoding.{IsPrefixFree, BeginsNone, FitsBoth, encode_both}
use Rattle.bd_wire.specs.Reading.{Unread, Reads}
use Rattle.bd_wire.proofs.NumberLemmas.{length-be, IsPrefixFree-be}
use Rattle.bd_wire.proofs.TextLemmas.{IsPrefixFree-text16}
use Rattle.bd_wire.proofs.EncodingLemmas.{IsPrefixFree-both}
use Rattle.bd_message.specs.declared.message.Message.{Message}
use Rattle.bd_message.specs.Messages.{IsMessage}
use Rattle.bd_message.specs.Codec.{message_bytes, FitsPart, encode_part}
use Rattle.bd_node.specs.declared.node.Entry.{Entry}
use Rattle.bd_node.specs.declared.node.Edge.{Edge}
use Rattle.bd_node.specs.declared.node.Node.{Node}
use Rattle.bd_node.specs.declared.node.Node.TheVariants.{Leaf, Inner}
use Rattle.bd_format.specs.declared.read.Head.{Head}
use Rattle.bd_format.specs.Images.{node_magic, head_bytes, entry_bytes, child_number, edge_bytes, node_bytes}
use Rattle.bd_format.specs.Parts.{AreOf, FitsHead, encode_head, FitsEntry, FitsChild, FitsTarget, encode_target, FitsEdge, encode_inner, FitsNode}
use Rattle.bd_format.proofs.Lists.{same_lists, IsPrefixFree-lists}

-- ---- heads

abbrev pub Numbers : Type 0
Numbers = ((ℕ × ℕ) × ℕ) × ℕ

abbrev pub FitsNumbers : Numbers → Type 0
FitsNumbers = FitsBoth (FitsBoth (FitsBoth (FitsWidth w32) (FitsWidth w32)) (FitsWidth w32)) (FitsWidth w32)

abbrev pub encode_numbers : Numbers → List ℕ
encode_numbers = encode_both (encode_both (encode_both (be w32) (be w32)) (be w32)) (be w32)

pub numbers_alone : IsPrefixFree FitsNumbers encode_numbers
numbers_alone =
    IsPrefixFree-both (FitsBoth (FitsBoth (FitsWidth w32) (FitsWidth w32)) (FitsWidth w32)) (FitsWidth w32) (encode_both (encode_both (be w32) (be w32)) (be w32)) (be w32)
    (IsPrefixFree-both (FitsBoth (FitsWidth w32) (FitsWidth w32)) (FitsWidth w32) (encode_both (be w32) (be w32)) (be w32)
    (IsPrefixFree-both (FitsWidth w32) (FitsWidth w32) (be w32) (be w32) (IsPrefixFree-be w32) (IsPrefixFree-be w32)) (IsPrefixFree-be w32))
    (IsPrefixFree-be w32)

abbrev numbers_of : Head → Numbers
numbers_of h = (((node_magic, h.level), h.items), h.messages)

abbrev head_from : Numbers → Head
head_from n = record { level = n.0.0.1; items = n.0.1; messages = n.1 }

numbers_fit : (h : Head) → FitsHead h → FitsNumbers (numbers_of h)
numbers_fit h p = (((omega arith, p.0), p.1), p.2)

pub head_alone : IsPrefixFree FitsHead encode_head
head_alone h g x y p q e =
    let same = numbers_alone (numbers_of h) (numbers_of g) x y (numbers_fit h p) (numbers_fit g q) e in
    (ap head_from same.0, same.1)

-- other numbers are no head
pub other_head : (n : Numbers) (bytes after : List ℕ) → FitsNumbers n → n.0.0.0 ≢ node_magic → bytes ≡ encode_numbers n ++ after → BeginsNone FitsHead encode_head bytes
other_head n bytes after fits other read h rest p e =
    other (ap (λ (m : Numbers). m.0.0.0) (numbers_alone n (numbers_of h) after rest fits (numbers_fit h p) (sym read ∙ e)).0)

-- too few bytes are no head
pub short_head : (bytes : List ℕ) → length bytes < 16 → BeginsNone FitsHead encode_head bytes
short_head bytes short h rest p e =
    omega (
      arith,
      short,
      ap length e,
      length-append (encode_head h) rest,
      length-append (be w32 node_magic ++ be w32 h.level ++ be w32 h.items) (be w32 h.messages),
      length-append (be w32 node_magic ++ be w32 h.level) (be w32 h.items),
      length-append (be w32 node_magic) (be w32 h.level),
      length-be w32 node_magic,
      length-be w32 h.level,
      length-be w32 h.items,
      length-be w32 h.messages,
    )

-- a number was read: so many bytes were left before
pub number_read : (a b : Unread) (n : ℕ) → Reads a b (be w32 n) → length a.left ≡ 4 + length b.left
number_read a b n read = omega (arith, ap length read.front, length-append (be w32 n) b.left, length-be w32 n)

-- ---- entries

pub entry_alone : IsPrefixFree FitsEntry entry_bytes
entry_alone a b x y p q e =
    let same = IsPrefixFree-both FitsText16 FitsText16 text16 text16 IsPrefixFree-text16 IsPrefixFree-text16 (a.key, a.value) (b.key, b.value) x y p q e in
    let from : List ℕ × List ℕ → Entry = λ t. record { key = t.0; value = t.1 } in
    (ap from same.0, same.1)

-- ---- edges

pub part_alone : IsPrefixFree FitsPart encode_part
part_alone =
    IsPrefixFree-both (FitsBoth FitsText16 (FitsWidth w16)) FitsText16 (encode_both text16 (be w16)) text16
    (IsPrefixFree-both FitsText16 (FitsWidth w16) text16 (be w16) IsPrefixFree-text16 (IsPrefixFree-be w16)) IsPrefixFree-text16

target_alone : IsPrefixFree FitsTarget encode_target
target_alone = IsPrefixFree-both (FitsWidth w64) (FitsWidth w32) (be w64) (be w32) (IsPrefixFree-be w64) (IsPrefixFree-be w32)

abbrev pub EdgeParts : Type 0
EdgeParts = ((List ℕ × ℕ) × List ℕ) × (ℕ × ℕ)

abbrev pub FitsEdgeParts : EdgeParts → Type 0
FitsEdgeParts = FitsBoth FitsPart FitsTarget

abbrev pub encode_edge_parts : EdgeParts → List ℕ
encode_edge_parts = encode_both encode_part encode_target

parts_alone : IsPrefixFree FitsEdgeParts encode_edge_parts
parts_alone = IsPrefixFree-both FitsPart FitsTarget encode_part encode_target part_alone target_alone

abbrev pub parts_of : Edge → EdgeParts
parts_of e = (((e.pivot, e.lift), e.source), (child_number e.child, e.seen))

pub edge_is : (e : Edge) → edge_bytes e ≡ encode_edge_parts (parts_of e)
edge_is e = append_assoc (encode_part ((e.pivot, e.lift), e.source)) (be w64 (child_number e.child)) (be w32 e.seen)

child_fits : (child : Option ℕ) → FitsChild child → child_number child < 2 ^ 64
child_fits None h = omega arith
child_fits (Some child) h = h.1

pub parts_fit : (e : Edge) → FitsEdge e → FitsEdgeParts (parts_of e)
parts_fit e h = (h.0, (child_fits e.child h.1, h.2))

same_child : (a b : Option ℕ) → FitsChild a → FitsChild b → child_number a ≡ child_number b → a ≡ b
same_child None None p q e = refl
same_child None (Some b) p q e = absurd (let one : 1 ≤ b = q.0 in omega arith)
same_child (Some a) None p q e = absurd (let one : 1 ≤ a = p.0 in omega arith)
same_child (Some a) (Some b) p q e = ap Some e

same_edge : (a b : Edge) → FitsChild a.child → FitsChild b.child → parts_of a ≡ parts_of b → a ≡ b
same_edge a b p q e =
    let child : a.child ≡ b.child = same_child a.child b.child p q (ap (λ (t : EdgeParts). t.1.0) e) in
    λ i. record { pivot = (e i).0.0.0; lift = (e i).0.0.1; source = (e i).0.1; child = child i; seen = (e i).1.1 }

pub edge_alone : IsPrefixFree FitsEdge edge_bytes
edge_alone a b x y p q e =
    let same = parts_alone (parts_of a) (parts_of b) x y (parts_fit a p) (parts_fit b q)
    (ap (λ bytes. bytes ++ x) (sym (edge_is a)) ∙ e ∙ ap (λ bytes. bytes ++ y) (edge_is b)) in
    (same_edge a b p.1 q.1 same.0, same.1)

-- no edge stands where none of its parts do
pub no_edge : (bytes : List ℕ) → BeginsNone FitsEdgeParts encode_edge_parts bytes → BeginsNone FitsEdge edge_bytes bytes
no_edge bytes none e rest fits is = none (parts_of e) rest (parts_fit e fits) (is ∙ ap (λ front. front ++ rest) (edge_is e))

-- ---- lists

pub edges_alone : (count : ℕ) → IsPrefixFree (AreOf count FitsEdge) (flat_map edge_bytes)
edges_alone count = IsPrefixFree-lists FitsEdge edge_bytes edge_alone count

-- ---- nodes

abbrev pub head_of : Node → Head
head_of (Leaf entries) = record { level = 0; items = length entries; messages = 0 }
head_of (Inner level edges buffer) = record { level = level; items = length edges; messages = length buffer }

-- what follows a node's head
abbrev pub rest_of : Node → List ℕ
rest_of (Leaf entries) = flat_map entry_bytes entries
rest_of (Inner level edges buffer) = encode_inner (edges, buffer)

pub node_is : (n : Node) → node_bytes n ≡ encode_head (head_of n) ++ rest_of n
node_is (Leaf entries) = refl
node_is (Inner level edges buffer) = append_assoc (head_bytes level (length edges) (length buffer)) (flat_map edge_bytes edges) (flat_map message_bytes buffer)

pub head_fits : (n : Node) → FitsNode n → FitsHead (head_of n)
head_fits (Leaf entries) h = (omega arith, h.1, omega arith)
head_fits (Inner level edges buffer) h = h.1

-- a node that stands after a head
pub after_head : (h : Head) (n : Node) (left rest : List ℕ) → FitsHead h → FitsNode n → encode_head h ++ left ≡ node_bytes n ++ rest → (h ≡ head_of n) × (left ≡ rest_of n ++ rest)
after_head h n left rest p q e =
    head_alone h (head_of n) left (rest_of n ++ rest) p (head_fits n q) (e ∙ ap (λ front. front ++ rest) (node_is n) ∙ append_assoc (encode_head (head_of n)) (rest_of n) rest)

same_inner : (l m : ℕ) (es fs : List Edge) (b c : List Message) → l ≡ m → es ≡ fs → b ≡ c → Inner l es b ≡ Inner m fs c
same_inner l m es fs b c p q r i = Inner (p i) (q i) (r i)

pub node_alone : IsPrefixFree IsMessage message_bytes → IsPrefixFree FitsNode node_bytes
node_alone message_alone (Leaf es) (Leaf fs) x y p q e =
    let heads = after_head (head_of (Leaf es)) (Leaf fs) (flat_map entry_bytes es ++ x) y (head_fits (Leaf es) p) q (sym (append_assoc (encode_head (head_of (Leaf es))) (flat_map entry_bytes es) x) ∙ e) in
    let same = same_lists FitsEntry entry_bytes entry_alone es fs x y (ap (λ (h : Head). h.items) heads.0) p.0.1 q.0.1 heads.1 in
    (ap Leaf same.0, same.1)
node_alone message_alone (Leaf es) (Inner m fs c) x y p q e =
    let heads = after_head (head_of (Leaf es)) (Inner m fs c) (flat_map entry_bytes es ++ x) y (head_fits (Leaf es) p) q (sym (append_assoc (encode_head (head_of (Leaf es))) (flat_map entry_bytes es) x) ∙ e) in
    absurd (omega (arith, ap (λ (h : Head). h.level) heads.0, q.0))
node_alone message_alone (Inner l es b) (Leaf fs) x y p q e =
    let heads = after_head (head_of (Inner l es b)) (Leaf fs) (rest_of (Inner l es b) ++ x) y (head_fits (Inner l es b) p) q
    (sym (append_assoc (encode_head (head_of (Inner l es b))) (rest_of (Inner l es b)) x) ∙ ap (λ front. front ++ x) (sym (node_is (Inner l es b))) ∙ e) in
    absurd (omega (arith, ap (λ (h : Head). h.level) heads.0, p.0))
node_alone message_alone (Inner l es b) (Inner m fs c) x y p q e =
    let heads = after_head (head_of (Inner l es b)) (Inner m fs c) (rest_of (Inner l es b) ++ x) y (head_fits (Inner l es b) p) q
    (sym (append_assoc (encode_head (head_of (Inner l es b))) (rest_of (Inner l es b)) x) ∙ ap (λ front. front ++ x) (sym (node_is (Inner l es b))) ∙ e) in
    let first = same_lists FitsEdge edge_bytes edge_alone es fs (flat_map message_bytes b ++ x) (flat_map message_bytes c ++ y) (ap (λ (h : Head). h.items) heads.0) p.2.0.1 q.2.0.1
    (sym (append_assoc (flat_map edge_bytes es) (flat_map message_bytes b) x) ∙ heads.1 ∙ append_assoc (flat_map edge_bytes fs) (flat_map message_bytes c) y) in
    let second = same_lists IsMessage message_bytes message_alone b c x y (ap (λ (h : Head). h.messages) heads.0) p.2.1.1 q.2.1.1 first.1 in
    (same_inner l m es fs b c (ap (λ (h : Head). h.level) heads.0) first.0 second.0, second.1)
