-- The encodings of modes, of lengths and of records.
use Rattle.std.proofs.Common.{◌≡◌, ◌≢◌, ℕ, zero, suc, ◌<◌, ◌≤◌, ◌^◌, ◌⊎◌, inl, inr, List, [], ◌∷◌, ◌++◌, ◌-◌, length, take, drop, get_or, refl, sym, ap, ◌∙◌, append-nil, length-append, arith}
use Rattle.std.proofs.lemmas.List.{take_all}
use Rattle.std.specs.Int.{w16, w32}
use Rattle.bd_limits.specs.Limits.{file_limit, mode_limit}
use Rattle.bd_wire.specs.Numbers.{be}
use Rattle.bd_wire.proofs.NumberLemmas.{length-be, IsPrefixFree-be}
use Rattle.bd_records.specs.Records.{IsRecord, IsLenMode, mode_bytes, len_mode_bytes, record_bytes}
use Rattle.bd_records.specs.declared.Record.{Record}
use Rattle.bd_records.specs.declared.Record.TheVariants.{Dir, File}

-- ---- modes

-- the bytes of a mode, by whether it is 0
pub mode_bytes-none : (n : ℕ) → n ≡ 0 → mode_bytes n ≡ []
mode_bytes-none zero e = refl
mode_bytes-none (suc n) e = absurd (omega arith)

pub mode_bytes-some : (n : ℕ) → n ≢ 0 → mode_bytes n ≡ be w16 n
mode_bytes-some zero some = absurd (some refl)
mode_bytes-some (suc n) some = refl

-- bytes that encode a mode encode no other one
one_mode : (m n : ℕ) → m ≤ mode_limit → n ≤ mode_limit → mode_bytes m ≡ mode_bytes n → m ≡ n
one_mode zero zero p q e = refl
one_mode zero (suc n) p q e = absurd (omega (arith, ap length e, length-be w16 (suc n)))
one_mode (suc m) zero p q e = absurd (omega (arith, ap length e, length-be w16 (suc m)))
one_mode (suc m) (suc n) p q e = (IsPrefixFree-be w16 (suc m) (suc n) [] [] (omega arith) (omega arith) (ap (λ (l : List ℕ). l ++ []) e)).0

-- what is read as one above 0
pub mode_is : (bytes rest : List ℕ) (m : ℕ) → bytes ≡ be w16 m ++ rest → rest ≡ [] → m ≢ 0 → bytes ≡ mode_bytes m
mode_is bytes rest m read none some =
    read ∙ ap (λ (r : List ℕ). be w16 m ++ r) none ∙ append-nil (be w16 m) ∙ sym (mode_bytes-some m some)

-- no length, no bytes
pub no_bytes : (bytes : List ℕ) → length bytes ≡ 0 → bytes ≡ []
no_bytes [] e = refl
no_bytes (b ∷ bytes) e = absurd (omega arith)

-- some bytes are of a mode only as two of them that encode one above 0
pub mode_read : (bytes rest : List ℕ) (m n : ℕ) → bytes ≡ be w16 m ++ rest → m < 2 ^ 16 → n ≤ mode_limit → bytes ≡ mode_bytes n → (m ≡ n) × (rest ≡ []) × (m ≢ 0)
mode_read bytes rest m zero read fits within encoded =
    absurd (omega (arith, ap length (sym read ∙ encoded), length-append (be w16 m) rest, length-be w16 m))
mode_read bytes rest m (suc n) read fits within encoded =
    let same = IsPrefixFree-be w16 m (suc n) rest [] (omega (arith, fits)) (omega (arith, within)) (sym read ∙ encoded ∙ sym (append-nil (be w16 (suc n)))) in
    (same.0, same.1, λ none. omega (arith, none, same.0))

-- one byte encodes no mode
pub no_mode : (bytes : List ℕ) (n : ℕ) → bytes ≢ [] → length bytes < 2 → bytes ≢ mode_bytes n
no_mode bytes zero some short encoded = some encoded
no_mode bytes (suc n) some short encoded = omega (arith, ap length encoded, length-be w16 (suc n))

-- ---- lengths and modes

-- bytes that begin with a length are of no other one
pub len_read : (bytes rest : List ℕ) (len : ℕ) (v : ℕ × ℕ) → bytes ≡ be w32 len ++ rest → len < 2 ^ 32 → IsLenMode v → bytes ≡ len_mode_bytes v → (len ≡ v.0) × (rest ≡ mode_bytes v.1)
len_read bytes rest len v read fits within encoded =
    IsPrefixFree-be w32 len v.0 rest (mode_bytes v.1) (omega (arith, fits)) (omega (arith, within.0)) (sym read ∙ encoded)

-- fewer than four bytes encode none
pub no_length : (bytes : List ℕ) (v : ℕ × ℕ) → length bytes < 4 → bytes ≢ len_mode_bytes v
no_length bytes v short encoded = omega (arith, ap length encoded, length-append (be w32 v.0) (mode_bytes v.1), length-be w32 v.0)

one_len_mode : (v w : ℕ × ℕ) → IsLenMode v → IsLenMode w → len_mode_bytes v ≡ len_mode_bytes w → v ≡ w
one_len_mode v w p q e =
    let same = len_read (len_mode_bytes v) (mode_bytes v.1) v.0 w refl (omega (arith, p.0)) q e in
    let len : v.0 ≡ w.0 = same.0 in
    let mode : v.1 ≡ w.1 = one_mode v.1 w.1 p.1 q.1 same.1 in
    ap (λ (n : ℕ). (n, v.1)) len ∙ ap (λ (n : ℕ). (w.0, n)) mode

-- ---- records

-- lists of different first bytes are two
apart : (a b : ℕ) (xs ys : List ℕ) → a ≢ b → a ∷ xs ≢ b ∷ ys
apart a b xs ys h e = h (ap (λ l. get_or l 0 0) e)

-- where what follows `F` is no length and mode, there is no record
pub no_file : (bytes : List ℕ) → 1 ≤ length bytes → get_or bytes 0 0 ≡ 70 → ((v : ℕ × ℕ) → IsLenMode v → take (length bytes - 1) (drop 1 bytes) ≢ len_mode_bytes v) → (r : Record) → IsRecord r → bytes ≢ record_bytes r
no_file [] some tag none r within encoded = absurd (omega arith)
no_file (b ∷ rest) some tag none (Dir m) within encoded = absurd (omega (arith, tag, ap (λ (l : List ℕ). get_or l 0 0) encoded))
no_file (b ∷ rest) some tag none (File n m) within encoded =
    none (n, m) within (take_all (length (b ∷ rest) - 1) rest (omega arith) ∙ ap (drop 1) encoded)

-- a record has an encoding of its own
pub one_record : (a b : Record) → IsRecord a → IsRecord b → record_bytes a ≡ record_bytes b → a ≡ b
one_record (Dir m) (Dir n) p q e = ap Dir (one_mode m n p q (ap (drop 1) e))
one_record (Dir m) (File n o) p q e = absurd (apart 68 70 (mode_bytes m) (len_mode_bytes (n, o)) (omega arith) e)
one_record (File m o) (Dir n) p q e = absurd (apart 70 68 (len_mode_bytes (m, o)) (mode_bytes n) (omega arith) e)
one_record (File m o) (File n r) p q e =
    ap (λ (v : ℕ × ℕ). File v.0 v.1) (one_len_mode (m, o) (n, r) p q (ap (drop 1) e))

-- an encoding has 1 to 7 bytes
length-mode_bytes : (n : ℕ) → length (mode_bytes n) ≤ 2
length-mode_bytes zero = omega arith
length-mode_bytes (suc n) = omega (arith, length-be w16 (suc n))

pub length-record_bytes : (r : Record) → length (record_bytes r) ≤ 7
length-record_bytes (Dir m) = omega (arith, length-mode_bytes m)
length-record_bytes (File n m) = omega (arith, length-append (be w32 n) (mode_bytes m), length-be w32 n, length-mode_bytes m)

pub some-record_bytes : (r : Record) → 1 ≤ length (record_bytes r)
some-record_bytes (Dir m) = omega arith
some-record_bytes (File n m) = omega arith

pub ruleset record_sizes = (some-record_bytes, length-record_bytes)

pub ruleset lengths = (mode_bytes-none, mode_bytes-some, length-be)
