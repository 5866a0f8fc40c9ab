-- Bytes that were cut, extended or overwritten.
use Rattle.std.proofs.Common.{◌≡◌, ℕ, ◌+◌, ◌-◌, ◌<◌, ◌≤◌, List, ◌++◌, length, take, drop, replicate, refl, sym, ◌∙◌, ap, arith, length-append}
use Rattle.std.specs.Prelude.{slice_index, max}
use Rattle.std.specs.List.{All, AllByRecursion}
use Rattle.std.proofs.lemmas.List.{length-take, length-drop, length-replicate, get_or_append_left, get_or-append_right, get_or-append-add, get_or-take, get_or-drop, get_or-replicate}
use Rattle.std.proofs.lemmas.List.Elements.{All-append, All-take, All-drop, All-replicate, All-from_recursion, recursion_from_All}
use Rattle.bd_keys.specs.Edits.{resized, overwritten}

-- ---- a new length

pub length-resized : (old : List ℕ) (len : ℕ) → length (resized old len) ≡ len
length-resized old len = omega (arith, length-append (take len old) (replicate (len - length old) 0), length-take len old, length-replicate {A = ℕ} (len - length old) 0)

pub resized-kept : (old : List ℕ) (len i : ℕ) → i < len → i < length old → slice_index (resized old len) i ≡ slice_index old i
resized-kept old len i h k = get_or_append_left (take len old) (replicate (len - length old) 0) 0 i (omega (arith, length-take len old)) ∙ get_or-take len old i 0 h

pub resized-zero : (old : List ℕ) (len i : ℕ) → i < len → length old ≤ i → slice_index (resized old len) i ≡ 0
resized-zero old len i h k =
    get_or-append_right (take len old) (replicate (len - length old) 0) (length (take len old)) i 0 refl (omega (arith, length-take len old))
    ∙ get_or-replicate (len - length old) (i - length (take len old)) 0 0 (omega (arith, length-take len old))

-- ---- new bytes

pub length-overwritten : (old : List ℕ) (off : ℕ) (bytes : List ℕ) → length (overwritten old off bytes) ≡ max (length old) (off + length bytes)
length-overwritten old off bytes =
    omega (arith, length-append (resized old off ++ bytes) (drop (off + length bytes) old), length-append (resized old off) bytes, length-resized old off, length-drop (off + length bytes) old)

front-overwritten : (old : List ℕ) (off : ℕ) (bytes : List ℕ) → length (resized old off ++ bytes) ≡ off + length bytes
front-overwritten old off bytes = omega (arith, length-append (resized old off) bytes, length-resized old off)

pub overwritten-new : (old : List ℕ) (off : ℕ) (bytes : List ℕ) (i : ℕ) → i < length bytes → slice_index (overwritten old off bytes) (off + i) ≡ slice_index bytes i
overwritten-new old off bytes i h =
    get_or_append_left (resized old off ++ bytes) (drop (off + length bytes) old) 0 (off + i) (omega (arith, front-overwritten old off bytes))
    ∙ ap (slice_index (resized old off ++ bytes)) (ap (λ (n : ℕ). n + i) (sym (length-resized old off)))
    ∙ get_or-append-add (resized old off) bytes i 0

before-overwritten : (old : List ℕ) (off : ℕ) (bytes : List ℕ) (i : ℕ) → i < off → slice_index (overwritten old off bytes) i ≡ slice_index (resized old off) i
before-overwritten old off bytes i h =
    get_or_append_left (resized old off ++ bytes) (drop (off + length bytes) old) 0 i (omega (arith, front-overwritten old off bytes))
    ∙ get_or_append_left (resized old off) bytes 0 i (omega (arith, length-resized old off))

pub overwritten-before : (old : List ℕ) (off : ℕ) (bytes : List ℕ) (i : ℕ) → i < off → i < length old → slice_index (overwritten old off bytes) i ≡ slice_index old i
overwritten-before old off bytes i h k = before-overwritten old off bytes i h ∙ resized-kept old off i h k

pub overwritten-gap : (old : List ℕ) (off : ℕ) (bytes : List ℕ) (i : ℕ) → i < off → length old ≤ i → slice_index (overwritten old off bytes) i ≡ 0
overwritten-gap old off bytes i h k = before-overwritten old off bytes i h ∙ resized-zero old off i h k

pub overwritten-after : (old : List ℕ) (off : ℕ) (bytes : List ℕ) (i : ℕ) → off + length bytes ≤ i → slice_index (overwritten old off bytes) i ≡ slice_index old i
overwritten-after old off bytes i h =
    get_or-append_right (resized old off ++ bytes) (drop (off + length bytes) old) (off + length bytes) i 0 (front-overwritten old off bytes) h
    ∙ get_or-drop (off + length bytes) old (i - (off + length bytes)) 0
    ∙ ap (slice_index old) (omega arith)

-- ---- bytes stay bytes

abbrev pub AreBytes : List ℕ → Type 0
AreBytes bytes = AllByRecursion (λ b. b < 256) bytes

all : (bytes : List ℕ) → AreBytes bytes → All (λ b. b < 256) bytes
all bytes h = All-from_recursion (λ b. b < 256) bytes h

all-resized : (old : List ℕ) (len : ℕ) → AreBytes old → All (λ b. b < 256) (resized old len)
all-resized old len h = All-append (λ b. b < 256) (take len old) (replicate (len - length old) 0) (All-take (λ b. b < 256) len old (all old h)) (All-replicate (λ b. b < 256) (len - length old) 0 (omega arith))

pub bytes-resized : (old : List ℕ) (len : ℕ) → AreBytes old → AreBytes (resized old len)
bytes-resized old len h = recursion_from_All (λ b. b < 256) (resized old len) (all-resized old len h)

pub bytes-overwritten : (old : List ℕ) (off : ℕ) (bytes : List ℕ) → AreBytes old → AreBytes bytes → AreBytes (overwritten old off bytes)
bytes-overwritten old off bytes h k =
    recursion_from_All (λ b. b < 256) (overwritten old off bytes)
    (All-append (λ b. b < 256) (resized old off ++ bytes) (drop (off + length bytes) old)
    (All-append (λ b. b < 256) (resized old off) bytes (all-resized old off h) (all bytes k))
    (All-drop (λ b. b < 256) (off + length bytes) old (all old h)))
