-- What was encoded at the front of bytes is read there again.
use Rattle.std.proofs.Common.{◌≡◌, ℕ, zero, suc, ◌-◌, ◌^◌, ◌<◌, List, [], ◌∷◌, ◌++◌, length, take, drop, cond, true, false, Option, None, Some, refl, sym, ap, ◌∙◌, arith, append_assoc}
use Rattle.std.specs.List.{AllByRecursion, flat_map}
use Rattle.std.specs.Int.{Width, byte_len, w16, w32, w64}
use Rattle.std.proofs.Math.Seq.{take-append_seam, drop-append_seam}
use Rattle.bd_limits.specs.Limits.{slot_size}
use Rattle.bd_wire.specs.Numbers.{be, FitsWidth, number_at}
use Rattle.bd_wire.specs.Text.{text16, FitsText16, zeros}
use Rattle.bd_wire.specs.Encoding.{FitsBoth, encode_both}
use Rattle.bd_wire.proofs.NumberLemmas.{length-be, number_at-be}
use Rattle.bd_message.specs.declared.message.Message.{Message}
use Rattle.bd_message.specs.declared.message.Message.TheVariants.{Put, Del, Patch, Cut, Goto}
use Rattle.bd_message.specs.Effect.{same_key}
use Rattle.bd_message.specs.Messages.{IsMessage}
use Rattle.bd_message.specs.Codec.{message_bytes, FitsTexts, encode_texts, FitsPart, encode_part, FitsGoto, encode_goto}
use Rattle.bd_message.proofs.Finds.{same_key-true, same_key-refl}
use Rattle.bd_node.specs.declared.node.Entry.{Entry}
use Rattle.bd_node.specs.declared.node.Edge.{Edge}
use Rattle.bd_node.specs.declared.node.Node.{Node}
use Rattle.bd_node.specs.declared.node.Node.TheVariants.{Leaf, Inner}
use Rattle.bd_node.specs.Shape.{IsShape}
use Rattle.bd_format.specs.Images.{node_magic, head_bytes, entry_bytes, edge_bytes, node_bytes, image_of, IsImage, child_number}
use Rattle.bd_format.specs.Parts.{FitsEntry, FitsChild, FitsTarget, encode_target, FitsEdge, FitsNode}
use Rattle.bd_format.specs.Decoding.{Reader, front_number, front_text, front_both, front_list, front_texts, front_part, entry_with, child_with, edge_with, front_message, front_entry, front_edge, front_head, front_rest, front_node, node_in}
use Rattle.bd_format.proofs.Alone.{FitsNumbers, encode_numbers, EdgeParts, FitsEdgeParts, encode_edge_parts, parts_of, edge_is, parts_fit}
use Rattle.bd_format.proofs.Fitting.{shape_fits}

-- a value's encoding is read as the value, and what follows it is left
abbrev pub ReadsBack : {A : Type 0} → (A → Type 0) → (A → List ℕ) → Reader A → Type 0
ReadsBack {A} fits encoding reader = (v : A) (rest : List ℕ) → fits v → reader (encoding v ++ rest) ≡ (v, rest)

same_pair : {A B : Type 0} (a c : A) (b d : B) → a ≡ c → b ≡ d → ◌≡◌ {A = A × B} (a, b) (c, d)
same_pair a c b d p q = λ i. (p i, q i)

-- ---- numbers and texts

number_left : (w : Width) (n : ℕ) (rest : List ℕ) → drop (byte_len w) (be w n ++ rest) ≡ rest
number_left w n rest = ap (λ k. drop k (be w n ++ rest)) (sym (length-be w n)) ∙ drop-append_seam (be w n) rest

number_back : (w : Width) → ReadsBack (FitsWidth w) (be w) (front_number w)
number_back w n rest h = same_pair (number_at w (be w n ++ rest)) n (drop (byte_len w) (be w n ++ rest)) rest (number_at-be w n rest h) (number_left w n rest)

text_back : ReadsBack FitsText16 text16 front_text
unfolding text16
text_back t rest h =
    let bytes = (be w16 (length t) ++ t) ++ rest in
    let opened : bytes ≡ be w16 (length t) ++ (t ++ rest) = append_assoc (be w16 (length t)) t rest in
    let size : number_at w16 bytes ≡ length t = ap (number_at w16) opened ∙ number_at-be w16 (length t) (t ++ rest) h in
    let after : drop (byte_len w16) bytes ≡ t ++ rest = ap (drop (byte_len w16)) opened ∙ number_left w16 (length t) (t ++ rest) in
    same_pair (take (number_at w16 bytes) (drop (byte_len w16) bytes)) t (drop (number_at w16 bytes) (drop (byte_len w16) bytes)) rest
    ((λ i. take (size i) (after i)) ∙ take-append_seam t rest)
    ((λ i. drop (size i) (after i)) ∙ drop-append_seam t rest)

-- ---- pairs, lists, and what is made of them

both_back : {A B : Type 0} (fits_a : A → Type 0) (fits_b : B → Type 0) (encode_a : A → List ℕ) (encode_b : B → List ℕ) (read_a : Reader A) (read_b : Reader B)
    → ReadsBack fits_a encode_a read_a → ReadsBack fits_b encode_b read_b → ReadsBack (FitsBoth fits_a fits_b) (encode_both encode_a encode_b) (front_both read_a read_b)
both_back {A} {B} fits_a fits_b encode_a encode_b read_a read_b first second v rest h =
    let rest_b : A × List ℕ → (A × B) × List ℕ = λ a. let b = read_b a.1 in ((a.0, b.0), b.1) in
    let with_a : B × List ℕ → (A × B) × List ℕ = λ b. ((v.0, b.0), b.1) in
    ap rest_b (ap read_a (append_assoc (encode_a v.0) (encode_b v.1) rest) ∙ first v.0 (encode_b v.1 ++ rest) h.0)
    ∙ ap with_a (second v.1 rest h.1)

list_back : {A : Type 0} (fits : A → Type 0) (encoding : A → List ℕ) (reader : Reader A) → ReadsBack fits encoding reader
    → (xs : List A) (count : ℕ) (rest : List ℕ) → length xs ≡ count → AllByRecursion fits xs → front_list reader count (flat_map encoding xs ++ rest) ≡ (xs, rest)
list_back fits encoding reader back [] zero rest l h = refl
list_back fits encoding reader back [] (suc count) rest l h = absurd (omega arith)
list_back fits encoding reader back (x ∷ xs) zero rest l h = absurd (omega arith)
list_back {A} fits encoding reader back (x ∷ xs) (suc count) rest l h =
    let rest_of : A × List ℕ → List A × List ℕ = λ a. let more = front_list reader count a.1 in (a.0 ∷ more.0, more.1) in
    let with_x : List A × List ℕ → List A × List ℕ = λ more. (x ∷ more.0, more.1) in
    ap rest_of (ap reader (append_assoc (encoding x) (flat_map encoding xs) rest) ∙ back x (flat_map encoding xs ++ rest) h.0)
    ∙ ap with_x (list_back fits encoding reader back xs count rest (omega (arith, l)) h.1)

-- ---- entries, edges and messages

texts_back : ReadsBack FitsTexts encode_texts front_texts
texts_back = both_back FitsText16 FitsText16 text16 text16 front_text front_text text_back text_back

part_back : ReadsBack FitsPart encode_part front_part
part_back =
    both_back (FitsBoth FitsText16 (FitsWidth w16)) FitsText16 (encode_both text16 (be w16)) text16 (front_both front_text (front_number w16)) front_text
    (both_back FitsText16 (FitsWidth w16) text16 (be w16) front_text (front_number w16) text_back (number_back w16)) text_back

goto_back : ReadsBack FitsGoto encode_goto (front_both front_texts (front_number w64))
goto_back = both_back FitsTexts (FitsWidth w64) encode_texts (be w64) front_texts (front_number w64) texts_back (number_back w64)

entry_back : ReadsBack FitsEntry entry_bytes front_entry
entry_back e rest h =
    let made : (List ℕ × List ℕ) × List ℕ → Entry × List ℕ = λ a. (entry_with a.0, a.1) in
    ap made (texts_back (e.key, e.value) rest h)

child_back : (child : Option ℕ) → FitsChild child → child_with (child_number child) ≡ child
child_back None h = refl
child_back (Some zero) h = absurd (omega (arith, h.0))
child_back (Some (suc n)) h = refl

target_back : ReadsBack FitsTarget encode_target (front_both (front_number w64) (front_number w32))
target_back = both_back (FitsWidth w64) (FitsWidth w32) (be w64) (be w32) (front_number w64) (front_number w32) (number_back w64) (number_back w32)

edge_parts_back : ReadsBack FitsEdgeParts encode_edge_parts (front_both front_part (front_both (front_number w64) (front_number w32)))
edge_parts_back = both_back FitsPart FitsTarget encode_part encode_target front_part (front_both (front_number w64) (front_number w32)) part_back target_back

edge_back : ReadsBack FitsEdge edge_bytes front_edge
edge_back e rest h =
    let made : EdgeParts × List ℕ → Edge × List ℕ = λ a. (edge_with a.0, a.1) in
    let same : edge_with (parts_of e) ≡ e = λ i. record { pivot = e.pivot; lift = e.lift; source = e.source; child = child_back e.child h.1 i; seen = e.seen } in
    ap front_edge (ap (λ bytes. bytes ++ rest) (edge_is e))
    ∙ ap made (edge_parts_back (parts_of e) rest (parts_fit e h))
    ∙ same_pair (edge_with (parts_of e)) e rest rest same refl

message_back : ReadsBack IsMessage message_bytes front_message
message_back (Put key value) rest h =
    let made : (List ℕ × List ℕ) × List ℕ → Message × List ℕ = λ a. (Put a.0.0 a.0.1, a.1) in
    ap made (texts_back (key, value) rest (omega (arith, h), omega (arith, h)))
message_back (Del key) rest h =
    let made : List ℕ × List ℕ → Message × List ℕ = λ a. (Del a.0, a.1) in
    ap made (text_back key rest (omega (arith, h)))
message_back (Patch key off bytes) rest h =
    let made : ((List ℕ × ℕ) × List ℕ) × List ℕ → Message × List ℕ = λ a. (Patch a.0.0.0 a.0.0.1 a.0.1, a.1) in
    ap made (part_back ((key, off), bytes) rest ((omega (arith, h), omega (arith, h)), omega (arith, h)))
message_back (Cut prefix from) rest h =
    let made : (List ℕ × List ℕ) × List ℕ → Message × List ℕ = λ a. (Cut a.0.0 a.0.1, a.1) in
    ap made (texts_back (prefix, from) rest (omega (arith, h), omega (arith, h)))
message_back (Goto prefix source child) rest h =
    let made : ((List ℕ × List ℕ) × ℕ) × List ℕ → Message × List ℕ = λ a. (Goto a.0.0.0 a.0.0.1 a.0.1, a.1) in
    ap made (goto_back ((prefix, source), child) rest ((omega (arith, h), omega (arith, h)), omega (arith, h)))

-- ---- nodes

head_back : ReadsBack FitsNumbers encode_numbers front_head
head_back =
    both_back (FitsBoth (FitsBoth (FitsWidth w32) (FitsWidth w32)) (FitsWidth w32)) (FitsWidth w32) (encode_both (encode_both (be w32) (be w32)) (be w32)) (be w32)
    (front_both (front_both (front_number w32) (front_number w32)) (front_number w32)) (front_number w32)
    (both_back (FitsBoth (FitsWidth w32) (FitsWidth w32)) (FitsWidth w32) (encode_both (be w32) (be w32)) (be w32) (front_both (front_number w32) (front_number w32)) (front_number w32)
    (both_back (FitsWidth w32) (FitsWidth w32) (be w32) (be w32) (front_number w32) (front_number w32) (number_back w32) (number_back w32)) (number_back w32))
    (number_back w32)

-- what follows a head
after_numbers : (level items messages : ℕ) (bytes rest : List ℕ) → level < 2 ^ 32 → items < 2 ^ 32 → messages < 2 ^ 32
    → front_node ((head_bytes level items messages ++ bytes) ++ rest) ≡ front_rest level items messages (bytes ++ rest)
after_numbers level items messages bytes rest l i m =
    let node_after : (((ℕ × ℕ) × ℕ) × ℕ) × List ℕ → Node × List ℕ = λ head. front_rest head.0.0.0.1 head.0.0.1 head.0.1 head.1 in
    ap node_after (ap front_head (append_assoc (head_bytes level items messages) bytes rest)
    ∙ head_back (((node_magic, level), items), messages) (bytes ++ rest) (((omega arith, l), i), m))

pub node_back : ReadsBack FitsNode node_bytes front_node
node_back (Leaf es) rest h =
    let made : List Entry × List ℕ → Node × List ℕ = λ a. (Leaf a.0, a.1) in
    after_numbers 0 (length es) 0 (flat_map entry_bytes es) rest (omega arith) h.1 (omega arith)
    ∙ ap made (list_back FitsEntry entry_bytes front_entry entry_back es (length es) rest refl h.0.1)
node_back (Inner zero es ms) rest h = absurd (omega (arith, h.0))
node_back (Inner (suc level) es ms) rest h =
    let edges = flat_map edge_bytes es in
    let messages = flat_map message_bytes ms in
    let made : (List Edge × List Message) × List ℕ → Node × List ℕ = λ a. (Inner (suc level) a.0.0 a.0.1, a.1) in
    let after_edges : List Edge × List ℕ → (List Edge × List Message) × List ℕ = λ a. let b = front_list front_message (length ms) a.1 in ((a.0, b.0), b.1) in
    let with_edges : List Message × List ℕ → (List Edge × List Message) × List ℕ = λ b. ((es, b.0), b.1) in
    ap (λ bytes. front_node (bytes ++ rest)) (append_assoc (head_bytes (suc level) (length es) (length ms)) edges messages)
    ∙ after_numbers (suc level) (length es) (length ms) (edges ++ messages) rest h.1.0 h.1.1 h.1.2
    ∙ ap made (ap after_edges (ap (front_list front_edge (length es)) (append_assoc edges messages rest)
    ∙ list_back FitsEdge edge_bytes front_edge edge_back es (length es) (messages ++ rest) refl h.2.0.1)
    ∙ ap with_edges (list_back IsMessage message_bytes front_message message_back ms (length ms) rest refl h.2.1.1))

-- ---- images

pub decodes : (n : Node) (bytes : List ℕ) → IsShape n → IsImage n bytes → node_in bytes ≡ Some n
unfolding node_in
decodes n bytes shape image =
    let pad = zeros (slot_size - length (node_bytes n)) in
    let read : (front_node bytes).0 ≡ n = ap (λ b. (front_node b).0) image ∙ ap (λ (a : Node × List ℕ). a.0) (node_back n pad (shape_fits n shape)) in
    ap (λ m. cond (same_key bytes (image_of m)) (Some m) None) read
    ∙ ap (λ b. cond (same_key b (image_of n)) (Some n) None) image
    ∙ ap (λ t. cond t (Some n) None) (same_key-refl (image_of n))

pub decoded : (n : Node) (bytes : List ℕ) → node_in bytes ≡ Some n → IsImage n bytes
unfolding node_in
decoded n bytes found =
    let m = (front_node bytes).0 in
    (elim (same_key bytes (image_of m)) as (λ b. same_key bytes (image_of m) ≡ b → cond b (Some m) None ≡ Some n → IsImage n bytes) [
      | true ↦ λ same is. same_key-true bytes (image_of m) same ∙ ap image_of (one m n is)
      | false ↦ λ other is. absurd (none n is)
    ]) refl found
  where
    one : (m n : Node) → Some m ≡ Some n → m ≡ n
    one m n e = cc

    none : (n : Node) → None ≡ Some n → ⊥
    none n e = cc
