-- A head that is read was written so.
use Rattle.std.proofs.Common.{◌≡◌, ℕ, ◌+◌, ◌<◌, ◌≤◌, List, [], ◌∷◌, ◌++◌, length, take, drop, Bool, true, false, cond, Option, None, Some, zero, suc, inl, inr, refl, sym, ap, subst, ◌∙◌, arith, length-append, length-drop, append_assoc, append-nil}
use Rattle.std.specs.Prelude.{nat_le, slice_index, ◌==◌}
use Rattle.std.specs.Int.{w16, w32}
use Rattle.std.proofs.lemmas.Bool.{leb-true, or_cases, eqb-true}
use Rattle.std.proofs.lemmas.List.{take-append-drop, length-take-le}
use Rattle.byteorder.specs.Numbers.{big_from-lt, big_from-append}
use Rattle.bd_limits.specs.Limits.{mode_limit, file_limit}
use Rattle.bd_names.specs.Names.{path_of}
use Rattle.bd_names.proofs.NamesLaws.{path_of-some}
use Rattle.bd_wire.specs.Numbers.{be, number_at, IsBytes}
use Rattle.bd_wire.specs.Text.{text16}
use Rattle.bd_wire.proofs.NumberLemmas.{length-be, be-number_at}
use Rattle.bd_command.specs.Command.{IsShortPath}
use Rattle.bd_stream.specs.declared.head.Head.{Head}
use Rattle.bd_stream.specs.Heads.{IsHead, relative_text, head_bytes, head_of, head_of_kind, head_with, head_size, is_kind, tail_size}
use Rattle.bd_stream.proofs.HeadLemmas.{fields_found}

front_bytes : (a b : List ℕ) → IsBytes (a ++ b) → IsBytes a
front_bytes [] b h i = omega arith
front_bytes (x ∷ a) b h zero = h 0
front_bytes (x ∷ a) b h (suc i) = front_bytes a b (λ j. h (suc j)) i

after_bytes : (a b : List ℕ) → IsBytes (a ++ b) → IsBytes b
after_bytes [] b h = h
after_bytes (x ∷ a) b h = after_bytes a b (λ j. h (suc j))

drop_bytes : (k : ℕ) (l : List ℕ) → IsBytes l → IsBytes (drop k l)
drop_bytes k l h = after_bytes (take k l) (drop k l) (subst IsBytes (sym (take-append-drop k l)) h)

-- a number of two bytes stands at the front
first16 : (l : List ℕ) → IsBytes l → 2 ≤ length l → be w16 (number_at w16 l) ++ drop 2 l ≡ l
first16 l hb h =
    let cut : take 2 l ++ drop 2 l ≡ l = take-append-drop 2 l in
    let size : length (take 2 l) ≡ 2 = length-take-le 2 l h in
    let same : number_at w16 l ≡ number_at w16 (take 2 l) = ap (number_at w16) (sym cut) ∙ big_from-append 2 (take 2 l) (drop 2 l) (omega (arith, size)) in
    let front : be w16 (number_at w16 l) ≡ take 2 l = ap (be w16) same ∙ be-number_at w16 (take 2 l) (front_bytes (take 2 l) (drop 2 l) (subst IsBytes (sym cut) hb)) size in
    ap (λ (x : List ℕ). x ++ drop 2 l) front ∙ cut

-- what follows the first byte of a head, in its fields
record Parts (rest : List ℕ) : Type 0 where
  pub text : List ℕ
  pub mode : ℕ
  pub tail : List ℕ
  pub count : length text ≡ number_at w16 rest
  pub small : number_at w16 rest < 65536
  pub fits : mode < 65536
  pub bytes : IsBytes tail
  pub whole : ((be w16 (length text) ++ text) ++ be w16 mode) ++ tail ≡ rest

parts_of : (rest : List ℕ) → IsBytes rest → 4 + number_at w16 rest ≤ length rest → Parts rest
parts_of rest hb h =
    let n = number_at w16 rest in
    let b : List ℕ = drop 2 rest in
    let t : List ℕ = take n b in
    let c : List ℕ = drop n b in
    let mode = number_at w16 c in
    let size_b : length b + 2 ≡ length rest = omega (arith, length-drop 2 rest) in
    let size_t : length t ≡ n = length-take-le n b (omega (arith, size_b)) in
    let size_c : length c + n ≡ length b = omega (arith, length-drop n b, size_b) in
    let cut : t ++ c ≡ b = take-append-drop n b in
    let bytes_c : IsBytes c = drop_bytes n b (drop_bytes 2 rest hb) in
    let last : be w16 mode ++ drop 2 c ≡ c = first16 c bytes_c (omega (arith, size_b, size_c)) in
    let whole : ((be w16 (length t) ++ t) ++ be w16 mode) ++ drop 2 c ≡ rest =
    append_assoc (be w16 (length t) ++ t) (be w16 mode) (drop 2 c)
    ∙ ap (λ (l : List ℕ). (be w16 (length t) ++ t) ++ l) last
    ∙ append_assoc (be w16 (length t)) t c
    ∙ ap (λ (l : List ℕ). be w16 (length t) ++ l) cut
    ∙ ap (λ (k : ℕ). be w16 k ++ b) size_t
    ∙ first16 rest hb (omega arith) in
    record {
      text = t;
      mode = mode;
      tail = drop 2 c;
      count = size_t;
      small = big_from-lt 0 2 rest hb;
      fits = big_from-lt 0 2 c bytes_c;
      bytes = drop_bytes 2 c bytes_c;
      whole = whole;
    }

-- what was read of the fields
record Read (tag : ℕ) (o : Option (List (List ℕ))) (m len : ℕ) (h : Head) : Type 0 where
  pub path : List (List ℕ)
  pub is : o ≡ Some path
  pub mode : m ≤ mode_limit
  pub kind : head_of_kind tag path m len ≡ Some h

mode_read : (t : Bool) (o : Option Head) (h : Head) → cond t o None ≡ Some h → (t ≡ true) × (o ≡ Some h)
mode_read true o h e = (refl, e)
mode_read false o h e = cc

read_with : (tag : ℕ) (o : Option (List (List ℕ))) (m len : ℕ) (h : Head) → head_with tag o m len ≡ Some h → Read tag o m len h
read_with tag None m len h e = cc
read_with tag (Some p) m len h e =
    let parts = mode_read (nat_le m mode_limit) (head_of_kind tag p m len) h e in
    record { path = p; is = refl; mode = leb-true m mode_limit parts.0; kind = parts.1 }

len_read : (t : Bool) (len : ℕ) (o h : Head) → cond t (Some o) None ≡ Some h → (t ≡ true) × (o ≡ h)
len_read true len o h e = (refl, cc)
len_read false len o h e = cc

text_of : (p : List (List ℕ)) (text : List ℕ) → path_of (47 ∷ text) ≡ Some p → (IsShortPath p) × (relative_text p ≡ text)
text_of p text e =
    let parts = path_of-some (47 ∷ text) p e in
    ((parts.0, parts.1), ap (drop 1) parts.2)

-- the head's bytes are these, and it is a head
record WrittenSo (w : List ℕ) (h : Head) : Type 0 where
  pub bytes : w ≡ head_bytes h
  pub head : IsHead h

none_left : (l : List ℕ) → length l ≡ 0 → l ≡ []
none_left [] h = refl
none_left (b ∷ l) h = absurd (omega arith)

directory_written : (text : List ℕ) (mode : ℕ) (tail : List ℕ) (h : Head) → length text < 65536 → mode < 65536 → length tail ≡ 0 → head_of (68 ∷ ((be w16 (length text) ++ text) ++ be w16 mode) ++ tail) ≡ Some h → WrittenSo (68 ∷ ((be w16 (length text) ++ text) ++ be w16 mode) ++ tail) h
unfolding text16
directory_written text mode tail h ht hm hd e =
    let read = read_with 68 (path_of (47 ∷ text)) mode (number_at w32 tail) h (sym (fields_found 68 text mode tail ht hm) ∙ e) in
    let p = read.path in
    let made : record { path = p; mode = mode; len = None } ≡ h = (let k : Some (record { path = p; mode = mode; len = None }) ≡ Some h = read.kind in cc) in
    let path = text_of p text read.is in
    let front : List ℕ = 68 ∷ ((be w16 (length text) ++ text) ++ be w16 mode) in
    let same : front ++ tail ≡ front = ap (λ (l : List ℕ). front ++ l) (none_left tail hd) ∙ append-nil front in
    let bytes : front ≡ head_bytes (record { path = p; mode = mode; len = None }) = ap (λ (l : List ℕ). 68 ∷ ((be w16 (length l) ++ l) ++ be w16 mode)) (sym path.1) in
    record {
      bytes = same ∙ bytes ∙ ap head_bytes made;
      head = subst IsHead made (record { path = path.0; mode = read.mode; len = tt });
    }

file_written : (text : List ℕ) (mode : ℕ) (tail : List ℕ) (h : Head) → length text < 65536 → mode < 65536 → IsBytes tail → length tail ≡ 4 → head_of (70 ∷ ((be w16 (length text) ++ text) ++ be w16 mode) ++ tail) ≡ Some h → WrittenSo (70 ∷ ((be w16 (length text) ++ text) ++ be w16 mode) ++ tail) h
unfolding text16
file_written text mode tail h ht hm hb hd e =
    let len = number_at w32 tail in
    let read = read_with 70 (path_of (47 ∷ text)) mode len h (sym (fields_found 70 text mode tail ht hm) ∙ e) in
    let p = read.path in
    let sized = len_read (nat_le len file_limit) len (record { path = p; mode = mode; len = Some len }) h read.kind in
    let path = text_of p text read.is in
    let front : List ℕ = 70 ∷ ((be w16 (length text) ++ text) ++ be w16 mode) in
    let last : tail ≡ be w32 len = sym (be-number_at w32 tail hb hd) in
    let bytes : front ++ be w32 len ≡ head_bytes (record { path = p; mode = mode; len = Some len }) = ap (λ (l : List ℕ). (70 ∷ ((be w16 (length l) ++ l) ++ be w16 mode)) ++ be w32 len) (sym path.1) in
    record {
      bytes = ap (λ (l : List ℕ). front ++ l) last ∙ bytes ∙ ap head_bytes sized.1;
      head = subst IsHead sized.1 (record { path = path.0; mode = read.mode; len = leb-true len file_limit sized.0 });
    }

tail_least : (tag : ℕ) → 2 ≤ tail_size tag
tail_least tag =
    let by : (t : Bool) → 2 ≤ cond t 2 6 = λ t. elim t as (λ t. 2 ≤ cond t 2 6) [ true ↦ omega arith | false ↦ omega arith ] in
    by (tag == 68)

at_tag : (tag : ℕ) (rest : List ℕ) (h : Head) (parts : Parts rest) → is_kind tag ≡ true → length (tag ∷ rest) ≡ 3 + number_at w16 rest + tail_size tag → head_of (tag ∷ rest) ≡ Some h → WrittenSo (tag ∷ rest) h
at_tag tag rest h parts kind size e =
    let text = parts.text in
    let bits = be w16 parts.mode in
    let num = be w16 (length text) in
    let small : length text < 65536 = omega (arith, parts.count, parts.small) in
    let long : length rest ≡ 2 + length text + 2 + length parts.tail = ap length (sym parts.whole) ∙ omega (arith, length-append ((num ++ text) ++ bits) parts.tail, length-append (num ++ text) bits, length-append num text, length-be w16 (length text), length-be w16 parts.mode) in
    let count : length text ≡ number_at w16 rest = parts.count in
    let e' : head_of (tag ∷ ((num ++ text) ++ bits) ++ parts.tail) ≡ Some h = ap (λ (l : List ℕ). head_of (tag ∷ l)) parts.whole ∙ e in
    let made : WrittenSo (tag ∷ ((num ++ text) ++ bits) ++ parts.tail) h = elim (or_cases (tag == 68) (tag == 70) kind) [
      | inl is ↦
          let tag_is : tag ≡ 68 = eqb-true tag 68 is in
          let left : length parts.tail ≡ 0 = (let after : tail_size tag ≡ 2 = ap tail_size tag_is in omega (arith, size, long, count, after)) in
          subst (λ (k : ℕ). WrittenSo (k ∷ ((num ++ text) ++ bits) ++ parts.tail) h) (sym tag_is)
          (directory_written text parts.mode parts.tail h small parts.fits left (ap (λ (k : ℕ). head_of (k ∷ ((num ++ text) ++ bits) ++ parts.tail)) (sym tag_is) ∙ e'))
      | inr is ↦
          let tag_is : tag ≡ 70 = eqb-true tag 70 is in
          let left : length parts.tail ≡ 4 = (let after : tail_size tag ≡ 6 = ap tail_size tag_is in omega (arith, size, long, count, after)) in
          subst (λ (k : ℕ). WrittenSo (k ∷ ((num ++ text) ++ bits) ++ parts.tail) h) (sym tag_is)
          (file_written text parts.mode parts.tail h small parts.fits parts.bytes left (ap (λ (k : ℕ). head_of (k ∷ ((num ++ text) ++ bits) ++ parts.tail)) (sym tag_is) ∙ e'))
    ] in
    subst (λ (l : List ℕ). WrittenSo (tag ∷ l) h) parts.whole made

written_so : (bytes : List ℕ) (h : Head) → IsBytes bytes → is_kind (slice_index bytes 0) ≡ true → length bytes ≡ head_size bytes → head_of bytes ≡ Some h → WrittenSo bytes h
written_so [] h hb kind size e = cc
written_so (tag ∷ rest) h hb kind size e =
    let n = number_at w16 rest in
    let sized : length (tag ∷ rest) ≡ 3 + n + tail_size tag = size in
    at_tag tag rest h (parts_of rest (λ j. hb (suc j)) (omega (arith, sized, tail_least tag))) kind sized e

-- bytes that are read as a head are its bytes
pub read_bytes : (bytes : List ℕ) (h : Head) → IsBytes bytes → is_kind (slice_index bytes 0) ≡ true → length bytes ≡ head_size bytes → head_of bytes ≡ Some h → bytes ≡ head_bytes h
read_bytes bytes h hb kind size e = (written_so bytes h hb kind size e).bytes

-- and it is a head
pub read_head : (bytes : List ℕ) (h : Head) → IsBytes bytes → is_kind (slice_index bytes 0) ≡ true → length bytes ≡ head_size bytes → head_of bytes ≡ Some h → IsHead h
read_head bytes h hb kind size e = (written_so bytes h hb kind size e).head
