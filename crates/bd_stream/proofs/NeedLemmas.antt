-- How many bytes are to be there before they are looked at.
use Rattle.std.proofs.Common.{◌≡◌, ℕ, ◌+◌, ◌<◌, ◌≤◌, List, [], ◌∷◌, ◌++◌, length, Bool, true, false, cond, refl, ap, arith, length-append}
use Rattle.std.specs.Prelude.{nat_lt, slice_index}
use Rattle.std.proofs.lemmas.Bool.{ltb-true, ltb-false, le-ltb}
use Rattle.bd_stream.specs.Heads.{is_kind, path_count, head_size}
use Rattle.bd_stream.specs.declared.machine.Phase.{Phase}
use Rattle.bd_stream.specs.declared.machine.Phase.TheVariants.{Start, First, Next, Data, Ended, Bad, Long}
use Rattle.bd_stream.specs.Importing.{head_need, is_long, need}

size_by : (n size : ℕ) (t k l : Bool) → (t ≡ true → n < 3) → n ≡ cond t (cond k 3 1) (cond l 3 size) → k ≡ true → l ≡ false → n ≡ size
size_by n size true true l short e hk hl = let h : n < 3 = short refl in absurd (omega arith)
size_by n size true false l short e hk hl = cc
size_by n size false k true short e hk hl = cc
size_by n size false k false short e hk hl = e

-- the bytes of a head that isn't long are as many as it has
pub size_known : (bytes : List ℕ) → length bytes ≡ head_need bytes → is_kind (slice_index bytes 0) ≡ true → path_count bytes ≤ 511 → length bytes ≡ head_size bytes
size_known bytes e k l = size_by (length bytes) (head_size bytes) (nat_lt (length bytes) 3) (is_kind (slice_index bytes 0)) (is_long bytes) (ltb-true (length bytes) 3) e k (le-ltb 511 (path_count bytes) l)

three_by : (n size : ℕ) (t k l : Bool) → (t ≡ true → n < 3) → (t ≡ false → 3 ≤ n) → n ≡ cond t (cond k 3 1) (cond l 3 size) → k ≡ true → 3 ≤ n
three_by n size true true l short more e hk = omega arith
three_by n size true false l short more e hk = cc
three_by n size false k l short more e hk = more refl

-- a head has its first three bytes
pub three_known : (bytes : List ℕ) → length bytes ≡ head_need bytes → is_kind (slice_index bytes 0) ≡ true → 3 ≤ length bytes
three_known bytes e k = three_by (length bytes) (head_size bytes) (nat_lt (length bytes) 3) (is_kind (slice_index bytes 0)) (is_long bytes) (ltb-true (length bytes) 3) (ltb-false (length bytes) 3) e k

some_by : (size : ℕ) (t k l : Bool) → 5 ≤ size → 1 ≤ cond t (cond k 3 1) (cond l 3 size)
some_by size true true l h = omega arith
some_by size true false l h = omega arith
some_by size false k true h = omega arith
some_by size false k false h = omega arith

-- a head has five bytes at least
pub size_more : (bytes : List ℕ) → 5 ≤ head_size bytes
size_more bytes =
    let by : (t : Bool) (n : ℕ) → 5 ≤ 3 + n + cond t 2 6 = λ t n. elim t as (λ t. 5 ≤ 3 + n + cond t 2 6) [ true ↦ omega arith | false ↦ omega arith ] in
    by _ (path_count bytes)

-- something is to be there
pub one_known : (bytes : List ℕ) → 1 ≤ head_need bytes
one_known bytes = some_by (head_size bytes) (nat_lt (length bytes) 3) (is_kind (slice_index bytes 0)) (is_long bytes) (size_more bytes)

-- what a head needs is known from its first three bytes on
pub need_after : (a c d : ℕ) (ws : List ℕ) → head_need (a ∷ c ∷ d ∷ ws) ≡ cond (is_long (a ∷ c ∷ d ∷ [])) 3 (head_size (a ∷ c ∷ d ∷ []))
need_after a c d ws = ap (λ t. cond t (cond (is_kind a) 3 1) (cond (is_long (a ∷ c ∷ d ∷ ws)) 3 (head_size (a ∷ c ∷ d ∷ ws)))) (le-ltb (length (a ∷ c ∷ d ∷ ws)) 3 (omega arith))

one_byte : (n : ℕ) (k : Bool) → n ≡ 1 → cond k 3 1 ≤ n → n ≡ cond k 3 1
one_byte n true e h = absurd (omega arith)
one_byte n false e h = e

two_bytes : (n m : ℕ) (k : Bool) → n ≡ 2 → m ≡ 1 → m < cond k 3 1 → cond k 3 1 ≤ n → n ≡ cond k 3 1
two_bytes n m true e f l h = absurd (omega arith)
two_bytes n m false e f l h = absurd (omega arith)

three_bytes : (n : ℕ) (l : Bool) (size : ℕ) → n ≡ 3 → 5 ≤ size → cond l 3 size ≤ n → n ≡ cond l 3 size
three_bytes n true size e h g = e
three_bytes n false size e h g = absurd (omega arith)

-- as one byte more comes, no more than are needed are there
pub head_exact : (w : List ℕ) (b : ℕ) → length w < head_need w → head_need (w ++ b ∷ []) ≤ length (w ++ b ∷ []) → length (w ++ b ∷ []) ≡ head_need (w ++ b ∷ [])
head_exact [] b h e = one_byte 1 (is_kind b) refl e
head_exact (a ∷ []) b h e = two_bytes 2 1 (is_kind a) refl refl h e
head_exact (a ∷ c ∷ []) b h e = three_bytes 3 (is_long (a ∷ c ∷ b ∷ [])) (head_size (a ∷ c ∷ b ∷ [])) refl (size_more (a ∷ c ∷ b ∷ [])) e
head_exact (a ∷ c ∷ d ∷ ws) b h e =
    let before = need_after a c d ws in
    let after = need_after a c d (ws ++ b ∷ []) in
    omega (arith, h, e, before, after, length-append ws (b ∷ []))

pub need_exact : (phase : Phase) (left : ℕ) (w : List ℕ) (b : ℕ) → length w < need phase left w → need phase left (w ++ b ∷ []) ≤ length (w ++ b ∷ []) → length (w ++ b ∷ []) ≡ need phase left (w ++ b ∷ [])
need_exact Start left w b h e = omega (arith, h, e, length-append w (b ∷ []))
need_exact First left w b h e = head_exact w b h e
need_exact Next left w b h e = head_exact w b h e
need_exact Data left w b h e = omega (arith, h, e, length-append w (b ∷ []))
need_exact Ended left w b h e = omega (arith, h, e, length-append w (b ∷ []))
need_exact Bad left w b h e = omega (arith, h, e, length-append w (b ∷ []))
need_exact Long left w b h e = omega (arith, h, e, length-append w (b ∷ []))
