-- Numbers as bytes are written and read again, and no number's encoding begins another's.
use Rattle.std.proofs.Common.{◌≡◌, ℕ, zero, suc, ◌+◌, ◌*◌, ◌^◌, ◌<◌, ◌≤◌, List, [], ◌∷◌, ◌++◌, length, refl, sym, ap, ◌∙◌, arith, inl, inr, append-nil, length-append}
use Rattle.std.proofs.Math.Nat.{mul-le-mul_right}
use Rattle.std.proofs.lemmas.Bool.{cases_lt}
use Rattle.std.proofs.lemmas.List.{append_cancel_left}
use Rattle.std.specs.Int.{Width, byte_at, byte_len, bytes_high_first}
use Rattle.byteorder.specs.Endian.{big_from, big_number}
use Rattle.byteorder.specs.Numbers.{big_from-cons, big_from-lt, big_number-reads_back, length-bytes_high_first}
use Rattle.bd_wire.specs.Numbers.{be, FitsWidth, IsBytes, number_at}
use Rattle.bd_wire.specs.Encoding.{IsPrefixFree, BeginsNone}

-- what follows the first byte
IsBytes-rest : (b : ℕ) (bs : List ℕ) → IsBytes (b ∷ bs) → IsBytes bs
IsBytes-rest b bs h i = h (suc i)

byte_at-lt : (i n : ℕ) → byte_at i n < 256
byte_at-lt zero n = omega arith
byte_at-lt (suc i) n = omega arith

-- a number's bytes are bytes
pub IsBytes-bytes_high_first : (n x : ℕ) → IsBytes (bytes_high_first n x)
IsBytes-bytes_high_first zero x i = omega arith
IsBytes-bytes_high_first (suc n) x zero = byte_at-lt n x
IsBytes-bytes_high_first (suc n) x (suc i) = IsBytes-bytes_high_first n x i

-- a higher first digit makes a higher number
pub higher_digit : (a b r s p : ℕ) → r < p → a < b → a * p + r < b * p + s
higher_digit a b r s p hr h =
    let one_more : (a + 1) * p ≤ b * p = mul-le-mul_right p (omega arith) in
    omega arith

-- a number in base p has one first digit, and one rest
same_digits : (a b r s p : ℕ) → r < p → s < p → a * p + r ≡ b * p + s → (a ≡ b) × (r ≡ s)
same_digits a b r s p hr hs e =
    elim (cases_lt a b) [
      | inl h ↦ absurd (omega (arith, higher_digit a b r s p hr h))
      | inr h ↦ elim (cases_lt b a) [
        | inl h' ↦ absurd (omega (arith, higher_digit b a s r p hs h'))
        | inr h' ↦ let first : a ≡ b = omega arith in let moved : a * p ≡ b * p = ap (λ d. d * p) first in (first, omega arith)
      ]
    ]

-- lists of n bytes that read as one number are one
same_number : (n : ℕ) (xs ys : List ℕ) → length xs ≡ n → length ys ≡ n → IsBytes xs → IsBytes ys → big_from 0 n xs ≡ big_from 0 n ys → xs ≡ ys
same_number zero [] [] hx hy bx by e = refl
same_number zero (x ∷ xs) ys hx hy bx by e = absurd (omega arith)
same_number zero [] (y ∷ ys) hx hy bx by e = absurd (omega arith)
same_number (suc n) [] ys hx hy bx by e = absurd (omega arith)
same_number (suc n) (x ∷ xs) [] hx hy bx by e = absurd (omega arith)
same_number (suc n) (x ∷ xs) (y ∷ ys) hx hy bx by e =
    let rx = IsBytes-rest x xs bx in
    let ry = IsBytes-rest y ys by in
    let low : big_from 0 n xs < 256 ^ n = big_from-lt 0 n xs rx in
    let low' : big_from 0 n ys < 256 ^ n = big_from-lt 0 n ys ry in
    let digits = same_digits x y (big_from 0 n xs) (big_from 0 n ys) (256 ^ n) low low'
    (ap (λ r. x * 256 ^ n + r) (sym (big_from-cons 0 n x xs)) ∙ e ∙ ap (λ r. y * 256 ^ n + r) (big_from-cons 0 n y ys)) in
    let rest : xs ≡ ys = same_number n xs ys (omega arith) (omega arith) rx ry digits.1 in
    let first : x ≡ y = digits.0 in
    cc

-- what is read was written so, of any number of bytes
bytes_high_first-big_number : (n : ℕ) (bytes : List ℕ) → length bytes ≡ n → IsBytes bytes → bytes_high_first n (big_number n bytes) ≡ bytes
bytes_high_first-big_number n bytes hl hb =
    let x = big_from 0 n bytes in
    let back : big_from 0 n (bytes_high_first n x ++ []) ≡ x = big_number-reads_back n x [] (big_from-lt 0 n bytes hb) in
    same_number n (bytes_high_first n x) bytes (length-bytes_high_first n x) hl (IsBytes-bytes_high_first n x) hb (rw append-nil at back)

-- a number has as many bytes as its width
pub length-be : (w : Width) (n : ℕ) → length (be w n) ≡ byte_len w
unfolding be
length-be w n = length-bytes_high_first (byte_len w) n

-- what is written is read again, whatever follows it
pub number_at-be : (w : Width) (n : ℕ) (rest : List ℕ) → FitsWidth w n → number_at w (be w n ++ rest) ≡ n
unfolding be
number_at-be w n rest h = big_number-reads_back (byte_len w) n rest h

-- what is read was written so
pub be-number_at : (w : Width) (bytes : List ℕ) → IsBytes bytes → length bytes ≡ byte_len w → be w (number_at w bytes) ≡ bytes
unfolding be
be-number_at w bytes hb hl = bytes_high_first-big_number (byte_len w) bytes hl hb

-- the encodings of numbers of a width are prefix-free
pub IsPrefixFree-be : (w : Width) → IsPrefixFree (FitsWidth w) (be w)
IsPrefixFree-be w a b x y ha hb e =
    let number : a ≡ b = sym (number_at-be w a x ha) ∙ ap (number_at w) e ∙ number_at-be w b y hb in
    (number, append_cancel_left (be w b) x y (rw number at e))

-- no number stands where too few bytes are left
pub BeginsNone-be : (w : Width) (bytes : List ℕ) → length bytes < byte_len w → BeginsNone (FitsWidth w) (be w) bytes
BeginsNone-be w bytes h n rest fits e =
    omega (arith, h, ap length e, length-append (be w n) rest, length-be w n)
