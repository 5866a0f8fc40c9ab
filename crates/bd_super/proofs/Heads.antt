-- The fields of fixed width at the front of a body.
use Rattle.std.proofs.Common.{◌≡◌, ℕ, ◌+◌, ◌^◌, ◌<◌, List, ◌++◌, length, refl, sym, ◌∙◌, arith, append_assoc, length-append}
use Rattle.std.specs.Int.{w32, w64}
use Rattle.bd_slots.proofs.Items.{fronts_alone}
use Rattle.bd_wire.specs.Numbers.{be}
use Rattle.bd_wire.specs.Reading.{Unread, Reads}
use Rattle.bd_wire.proofs.NumberLemmas.{length-be, IsPrefixFree-be}
use Rattle.bd_wire.proofs.ReadingLemmas.{Reads-append}

-- fields of fixed width, whatever the magic and the version
abbrev pub fields : List ℕ → ℕ → ℕ → ℕ → ℕ → ℕ → List ℕ
fields m v s e c t = m ++ be w32 v ++ be w32 s ++ be w64 e ++ be w64 c ++ be w32 t

-- read one after the other
pub fields_read : (a b c d e f g : Unread) (m : List ℕ) (v s ep co t : ℕ)
    → Reads a b m → Reads b c (be w32 v) → Reads c d (be w32 s) → Reads d e (be w64 ep) → Reads e f (be w64 co) → Reads f g (be w32 t)
    → Reads a g (fields m v s ep co t)
fields_read a b c d e f g m v s ep co t r1 r2 r3 r4 r5 r6 =
    let x1 = be w32 v in
    let x2 = be w32 s in
    let x3 = be w64 ep in
    let x4 = be w64 co in
    let two = Reads-append a b c m x1 r1 r2 in
    let three = Reads-append a c d (m ++ x1) x2 two r3 in
    let four = Reads-append a d e (m ++ x1 ++ x2) x3 three r4 in
    let five = Reads-append a e f (m ++ x1 ++ x2 ++ x3) x4 four r5 in
    Reads-append a f g (m ++ x1 ++ x2 ++ x3 ++ x4) (be w32 t) five r6

-- the fields one after the other
fields_in_order : (m : List ℕ) (v s e c t : ℕ) (x : List ℕ)
    → fields m v s e c t ++ x ≡ m ++ (be w32 v ++ (be w32 s ++ (be w64 e ++ (be w64 c ++ (be w32 t ++ x)))))
fields_in_order m v s e c t x = simp append_assoc refl

pub length-fields : (m : List ℕ) (v s e c t : ℕ) → length (fields m v s e c t) ≡ length m + 28
length-fields m v s e c t = simp (length-append, length-be) (omega arith)

-- two of them are one, with a magic of one length and fields that fit
pub fields_alone : (m n : List ℕ) (v s e c t w s' e' c' t' : ℕ) (x y : List ℕ) → length m ≡ length n
    → v < 2 ^ 32 → s < 2 ^ 32 → e < 2 ^ 64 → c < 2 ^ 64 → t < 2 ^ 32 → w < 2 ^ 32 → s' < 2 ^ 32 → e' < 2 ^ 64 → c' < 2 ^ 64 → t' < 2 ^ 32
    → fields m v s e c t ++ x ≡ fields n w s' e' c' t' ++ y
    → (m ≡ n) × (v ≡ w) × (s ≡ s') × (e ≡ e') × (c ≡ c') × (t ≡ t') × (x ≡ y)
fields_alone m n v s e c t w s' e' c' t' x y same hv hs he hc ht hw hs' he' hc' ht' eq =
    let r0 = fronts_alone m n (be w32 v ++ (be w32 s ++ (be w64 e ++ (be w64 c ++ (be w32 t ++ x)))))
    (be w32 w ++ (be w32 s' ++ (be w64 e' ++ (be w64 c' ++ (be w32 t' ++ y))))) same
    (sym (fields_in_order m v s e c t x) ∙ eq ∙ fields_in_order n w s' e' c' t' y) in
    let r1 = IsPrefixFree-be w32 v w (be w32 s ++ (be w64 e ++ (be w64 c ++ (be w32 t ++ x)))) (be w32 s' ++ (be w64 e' ++ (be w64 c' ++ (be w32 t' ++ y)))) hv hw r0.1 in
    let r2 = IsPrefixFree-be w32 s s' (be w64 e ++ (be w64 c ++ (be w32 t ++ x))) (be w64 e' ++ (be w64 c' ++ (be w32 t' ++ y))) hs hs' r1.1 in
    let r3 = IsPrefixFree-be w64 e e' (be w64 c ++ (be w32 t ++ x)) (be w64 c' ++ (be w32 t' ++ y)) he he' r2.1 in
    let r4 = IsPrefixFree-be w64 c c' (be w32 t ++ x) (be w32 t' ++ y) hc hc' r3.1 in
    let r5 = IsPrefixFree-be w32 t t' x y ht ht' r4.1 in
    (r0.0, r1.0, r2.0, r3.0, r4.0, r5.0, r5.1)

-- the magic and the version are those of any fields
pub one_version : (m n : List ℕ) (v s e c t w s' e' c' t' : ℕ) (x y : List ℕ) → length m ≡ length n → v < 2 ^ 32 → w < 2 ^ 32
    → fields m v s e c t ++ x ≡ fields n w s' e' c' t' ++ y → (m ≡ n) × (v ≡ w)
one_version m n v s e c t w s' e' c' t' x y same hv hw eq =
    let r0 = fronts_alone m n (be w32 v ++ (be w32 s ++ (be w64 e ++ (be w64 c ++ (be w32 t ++ x)))))
    (be w32 w ++ (be w32 s' ++ (be w64 e' ++ (be w64 c' ++ (be w32 t' ++ y))))) same
    (sym (fields_in_order m v s e c t x) ∙ eq ∙ fields_in_order n w s' e' c' t' y) in
    let r1 = IsPrefixFree-be w32 v w (be w32 s ++ (be w64 e ++ (be w64 c ++ (be w32 t ++ x)))) (be w32 s' ++ (be w64 e' ++ (be w64 c' ++ (be w32 t' ++ y)))) hv hw r0.1 in
    (r0.0, r1.0)
