-- A head that was written is read again.
use Rattle.std.proofs.Common.{◌≡◌, ℕ, ◌+◌, ◌<◌, ◌≤◌, List, [], ◌∷◌, ◌++◌, length, take, drop, Bool, cond, Some, None, Option, refl, sym, ap, ◌∙◌, arith, length-append, length-drop, append_assoc, append-nil}
use Rattle.std.specs.Prelude.{nat_le, slice_index, IfSome}
use Rattle.std.specs.Int.{w16, w32}
use Rattle.std.proofs.lemmas.Bool.{le-leb, lt-leb, eq-eqb, ne_eqb}
use Rattle.bd_limits.specs.Limits.{file_limit, mode_limit}
use Rattle.bd_names.specs.Names.{path_text, path_of}
use Rattle.bd_names.proofs.NamesLaws.{path_of-path_text}
use Rattle.bd_wire.specs.Numbers.{be, number_at}
use Rattle.bd_wire.specs.Text.{text16}
use Rattle.bd_wire.proofs.NumberLemmas.{length-be, number_at-be}
use Rattle.bd_wire.proofs.TextLemmas.{length-text16}
use Rattle.bd_command.specs.Command.{IsShortPath}
use Rattle.bd_stream.specs.declared.head.Head.{Head}
use Rattle.bd_stream.specs.Heads.{relative_text, head_around, head_bytes, IsHead, head_of, head_with, head_of_kind, path_count}

-- what stands after bytes of a known number
pub skip : (n : ℕ) (a rest : List ℕ) → n ≡ length a → drop n (a ++ rest) ≡ rest
skip n [] rest e = rw e refl
skip n (x ∷ a) rest e = rw e (skip (length a) a rest refl)

-- and they themselves
pub keep : (n : ℕ) (a rest : List ℕ) → n ≡ length a → take n (a ++ rest) ≡ a
keep n [] rest e = rw e refl
keep n (x ∷ a) rest e = rw e (ap (λ l. x ∷ l) (keep (length a) a rest refl))

-- the fields of a head are found where they were put
pub fields_found : (tag : ℕ) (text : List ℕ) (mode : ℕ) (tail : List ℕ) → length text < 65536 → mode < 65536 → head_of (tag ∷ ((be w16 (length text) ++ text) ++ be w16 mode) ++ tail) ≡ head_with tag (path_of (47 ∷ text)) mode (number_at w32 tail)
fields_found tag text mode tail hn hm =
    let n = length text in
    let num = be w16 n in
    let bits = be w16 mode in
    let whole : List ℕ = tag ∷ ((num ++ text) ++ bits) ++ tail in
    let front : List ℕ = tag ∷ (num ++ text) in
    let parts : ((num ++ text) ++ bits) ++ tail ≡ num ++ (text ++ (bits ++ tail)) = append_assoc (num ++ text) bits tail ∙ append_assoc num text (bits ++ tail) in
    let count : path_count whole ≡ n = ap (number_at w16) parts ∙ number_at-be w16 n (text ++ (bits ++ tail)) (omega arith) in
    let rest : drop 3 whole ≡ text ++ (bits ++ tail) = ap (drop 2) parts ∙ skip 2 num (text ++ (bits ++ tail)) (sym (length-be w16 n)) in
    let path : take n (drop 3 whole) ≡ text = ap (take n) rest ∙ keep n text (bits ++ tail) refl in
    let after : drop (3 + n) whole ≡ bits ++ tail = ap (drop (3 + n)) (ap (λ l. tag ∷ l) (append_assoc (num ++ text) bits tail)) ∙ skip (3 + n) front (bits ++ tail) (omega (arith, length-append num text, length-be w16 n)) in
    let last : drop (5 + n) whole ≡ tail = skip (5 + n) (front ++ bits) tail (omega (arith, length-append (num ++ text) bits, length-append num text, length-be w16 n, length-be w16 mode)) in
    let by : ℕ → Option Head = λ k. head_with tag (path_of (47 ∷ take k (drop 3 whole))) (number_at w16 (drop (3 + k) whole)) (number_at w32 (drop (5 + k) whole)) in
    ap by count
    ∙ ap (λ (t : List ℕ). head_with tag (path_of (47 ∷ t)) (number_at w16 (drop (3 + n) whole)) (number_at w32 (drop (5 + n) whole))) path
    ∙ ap (λ (r : List ℕ). head_with tag (path_of (47 ∷ text)) (number_at w16 r) (number_at w32 (drop (5 + n) whole))) after
    ∙ ap (λ (r : List ℕ). head_with tag (path_of (47 ∷ text)) (number_at w16 (bits ++ tail)) (number_at w32 r)) last
    ∙ ap (λ (m : ℕ). head_with tag (path_of (47 ∷ text)) m (number_at w32 tail)) (number_at-be w16 mode tail (omega arith))

-- a path's text is a slash and the names
whole_text : (p : List (List ℕ)) → 47 ∷ relative_text p ≡ path_text p
whole_text [] = refl
whole_text (n ∷ ns) = refl

path_again : (p : List (List ℕ)) → IsShortPath p → path_of (47 ∷ relative_text p) ≡ Some p
path_again p h = ap path_of (whole_text p) ∙ path_of-path_text p h.0 h.1

relative_size : (p : List (List ℕ)) → IsShortPath p → length (relative_text p) < 65536
relative_size p h = omega (arith, h.1, ap length (whole_text p))

mode_again : (tag : ℕ) (p : List (List ℕ)) (mode len : ℕ) → mode ≤ mode_limit → head_with tag (Some p) mode len ≡ head_of_kind tag p mode len
mode_again tag p mode len h = ap (λ t. cond t (head_of_kind tag p mode len) None) (le-leb mode mode_limit h)

-- the head of these fields is read again
around_again : (p : List (List ℕ)) (mode : ℕ) (len : Option ℕ) → IsShortPath p → mode ≤ mode_limit → IfSome len (λ n. n ≤ file_limit) → head_of (head_around len (text16 (relative_text p) ++ be w16 mode)) ≡ Some (record { path = p; mode = mode; len = len })
unfolding text16
around_again p mode None hp hm hl =
    let text = relative_text p in
    ap (λ (l : List ℕ). head_of (68 ∷ l)) (sym (append-nil ((be w16 (length text) ++ text) ++ be w16 mode)))
    ∙ fields_found 68 text mode [] (relative_size p hp) (omega arith)
    ∙ ap (λ (o : Option (List (List ℕ))). head_with 68 o mode (number_at w32 [])) (path_again p hp)
    ∙ mode_again 68 p mode (number_at w32 []) hm
around_again p mode (Some len) hp hm hl =
    let text = relative_text p in
    let number : number_at w32 (be w32 len) ≡ len = ap (number_at w32) (sym (append-nil (be w32 len))) ∙ number_at-be w32 len [] (omega (arith, hl)) in
    fields_found 70 text mode (be w32 len) (relative_size p hp) (omega arith)
    ∙ ap (λ (o : Option (List (List ℕ))). head_with 70 o mode (number_at w32 (be w32 len))) (path_again p hp)
    ∙ ap (λ (n : ℕ). head_with 70 (Some p) mode n) number
    ∙ mode_again 70 p mode len hm
    ∙ ap (λ (t : Bool). cond t (Some (record { path = p; mode = mode; len = Some len })) None) (le-leb len file_limit hl)

-- a head that was written is read again
pub head_again : (h : Head) → IsHead h → head_of (head_bytes h) ≡ Some h
head_again h is = around_again h.path h.mode h.len is.path is.mode is.len

-- ---- what is read

-- the head of bytes is that of its fields
pub read_by : (bytes : List ℕ) (n m l : ℕ) (o : Option (List (List ℕ))) → n ≡ path_count bytes → o ≡ path_of (47 ∷ take n (drop 3 bytes)) → m ≡ number_at w16 (drop (3 + n) bytes) → l ≡ number_at w32 (drop (5 + n) bytes) → head_of bytes ≡ head_with (slice_index bytes 0) o m l
read_by bytes n m l o count path mode len =
    let tag = slice_index bytes 0 in
    let by : ℕ → Option Head = λ k. head_with tag (path_of (47 ∷ take k (drop 3 bytes))) (number_at w16 (drop (3 + k) bytes)) (number_at w32 (drop (5 + k) bytes)) in
    ap by (sym count)
    ∙ ap (λ (p : Option (List (List ℕ))). head_with tag p (number_at w16 (drop (3 + n) bytes)) (number_at w32 (drop (5 + n) bytes))) (sym path)
    ∙ ap (λ (k : ℕ). head_with tag o k (number_at w32 (drop (5 + n) bytes))) (sym mode)
    ∙ ap (λ (k : ℕ). head_with tag o m k) (sym len)

-- a mode is too great
pub mode_over : (tag : ℕ) (p : List (List ℕ)) (mode len : ℕ) → mode_limit < mode → head_with tag (Some p) mode len ≡ None
mode_over tag p mode len h = ap (λ t. cond t (head_of_kind tag p mode len) None) (lt-leb mode mode_limit h)

-- it is a directory
pub directory_read : (tag : ℕ) (p : List (List ℕ)) (mode len : ℕ) → mode ≤ mode_limit → tag ≡ 68 → head_with tag (Some p) mode len ≡ Some (record { path = p; mode = mode; len = None })
directory_read tag p mode len h is =
    mode_again tag p mode len h
    ∙ ap (λ t. cond t (Some (record { path = p; mode = mode; len = None })) (cond (nat_le len file_limit) (Some (record { path = p; mode = mode; len = Some len })) None)) (eq-eqb tag 68 is)

file_kind : (tag : ℕ) (p : List (List ℕ)) (mode len : ℕ) → mode ≤ mode_limit → (tag ≡ 68 → ⊥) → head_with tag (Some p) mode len ≡ cond (nat_le len file_limit) (Some (record { path = p; mode = mode; len = Some len })) None
file_kind tag p mode len h not =
    mode_again tag p mode len h
    ∙ ap (λ t. cond t (Some (record { path = p; mode = mode; len = None })) (cond (nat_le len file_limit) (Some (record { path = p; mode = mode; len = Some len })) None)) (ne_eqb tag 68 not)

-- a file is too long
pub len_over : (tag : ℕ) (p : List (List ℕ)) (mode len : ℕ) → mode ≤ mode_limit → (tag ≡ 68 → ⊥) → file_limit < len → head_with tag (Some p) mode len ≡ None
len_over tag p mode len h not over =
    file_kind tag p mode len h not ∙ ap (λ t. cond t (Some (record { path = p; mode = mode; len = Some len })) None) (lt-leb len file_limit over)

-- it is a file
pub file_read : (tag : ℕ) (p : List (List ℕ)) (mode len : ℕ) → mode ≤ mode_limit → (tag ≡ 68 → ⊥) → len ≤ file_limit → head_with tag (Some p) mode len ≡ Some (record { path = p; mode = mode; len = Some len })
file_read tag p mode len h not fits =
    file_kind tag p mode len h not ∙ ap (λ t. cond t (Some (record { path = p; mode = mode; len = Some len })) None) (le-leb len file_limit fits)

-- a head has at most 520 bytes
pub length_head : (h : Head) → IsHead h → length (head_bytes h) ≤ 520
length_head h is = by h.len
  where
    by : (len : Option ℕ) → length (head_around len (text16 (relative_text h.path) ++ be w16 h.mode)) ≤ 520
    by None = omega (arith, is.path.1, length-drop 1 (path_text h.path), length-append (text16 (relative_text h.path)) (be w16 h.mode), length-text16 (relative_text h.path), length-be w16 h.mode)
    by (Some len) = omega (arith, is.path.1, length-drop 1 (path_text h.path), length-append (text16 (relative_text h.path)) (be w16 h.mode), length-append (text16 (relative_text h.path) ++ be w16 h.mode) (be w32 len), length-text16 (relative_text h.path), length-be w16 h.mode, length-be w32 len)
