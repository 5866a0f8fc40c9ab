-- Numbers as bytes come in the order of the numbers.
use Rattle.std.proofs.Common.{◌≡◌, ℕ, zero, suc, ◌+◌, ◌*◌, ◌^◌, ◌<◌, ◌≤◌, ◌⊎◌, inl, inr, List, [], ◌∷◌, length, refl, sym, ap, subst, ◌∙◌, arith, append-nil, true, false}
use Rattle.std.specs.Ordering.{nat_cmp, is_lt}
use Rattle.std.specs.Int.{w32}
use Rattle.std.proofs.lemmas.Bool.{cases_lt}
use Rattle.byteorder.specs.Endian.{big_from}
use Rattle.byteorder.specs.Numbers.{big_from-cons, big_from-lt, length-bytes_high_first}
use Rattle.bd_wire.specs.Numbers.{be, IsBytes}
use Rattle.bd_wire.proofs.NumberLemmas.{higher_digit, IsBytes-bytes_high_first, number_at-be}
use Rattle.bd_keys.specs.Keys.{key_cmp}
use Rattle.bd_keys.proofs.Order.{nat_less, nat_same, nat_more, first_less, first_same, first_more}

rest : (b : ℕ) (bs : List ℕ) → IsBytes (b ∷ bs) → IsBytes bs
rest b bs h i = h (suc i)

-- the same in front of two numbers leaves their order
shifted : (p a b : ℕ) → nat_cmp (p + a) (p + b) ≡ nat_cmp a b
shifted p a b = by (cases_lt a b) (cases_lt b a)
  where
    by : (a < b) ⊎ (b ≤ a) → (b < a) ⊎ (a ≤ b) → nat_cmp (p + a) (p + b) ≡ nat_cmp a b
    by (inl less) any = nat_less (p + a) (p + b) (omega arith) ∙ sym (nat_less a b less)
    by (inr from) (inl more) = nat_more (p + a) (p + b) (omega arith) ∙ sym (nat_more a b more)
    by (inr from) (inr to) = let same : a ≡ b = omega arith in subst (λ (c : ℕ). nat_cmp (p + a) (p + c) ≡ nat_cmp a c) same (nat_same (p + a) ∙ sym (nat_same a))

-- lists of n bytes come in the order of what they read as
pub digits_order : (n : ℕ) (xs ys : List ℕ) → length xs ≡ n → length ys ≡ n → IsBytes xs → IsBytes ys → key_cmp xs ys ≡ nat_cmp (big_from 0 n xs) (big_from 0 n ys)
digits_order zero [] [] hx hy bx by = refl
digits_order zero (x ∷ xs) ys hx hy bx by = absurd (omega arith)
digits_order zero [] (y ∷ ys) hx hy bx by = absurd (omega arith)
digits_order (suc n) [] ys hx hy bx by = absurd (omega arith)
digits_order (suc n) (x ∷ xs) [] hx hy bx by = absurd (omega arith)
digits_order (suc n) (x ∷ xs) (y ∷ ys) hx hy bx by =
    let rx = rest x xs bx in
    let ry = rest y ys by in
    let p = 256 ^ n in
    let a = big_from 0 n xs in
    let b = big_from 0 n ys in
    let low : a < 256 ^ n = big_from-lt 0 n xs rx in
    let low' : b < 256 ^ n = big_from-lt 0 n ys ry in
    let numbers : nat_cmp (big_from 0 (suc n) (x ∷ xs)) (big_from 0 (suc n) (y ∷ ys)) ≡ nat_cmp (x * 256 ^ n + a) (y * 256 ^ n + b) =
    ap (λ (m : ℕ). nat_cmp (x * 256 ^ n + m) (big_from 0 (suc n) (y ∷ ys))) (big_from-cons 0 n x xs) ∙ ap (λ (m : ℕ). nat_cmp (x * 256 ^ n + a) (y * 256 ^ n + m)) (big_from-cons 0 n y ys) in
    elim (cases_lt x y) [
      | inl less ↦ first_less x y xs ys less ∙ sym (numbers ∙ nat_less (x * 256 ^ n + a) (y * 256 ^ n + b) (higher_digit x y a b (256 ^ n) low less))
      | inr from ↦ elim (cases_lt y x) [
        | inl more ↦ first_more x y xs ys more ∙ sym (numbers ∙ nat_more (x * 256 ^ n + a) (y * 256 ^ n + b) (higher_digit y x b a (256 ^ n) low' more))
        | inr to ↦
            let same : x ≡ y = omega arith in
            let same_first : key_cmp (x ∷ xs) (y ∷ ys) ≡ key_cmp xs ys = subst (λ (z : ℕ). key_cmp (x ∷ xs) (z ∷ ys) ≡ key_cmp xs ys) same (first_same x xs ys) in
            let moved : nat_cmp (x * 256 ^ n + a) (y * 256 ^ n + b) ≡ nat_cmp a b = subst (λ (z : ℕ). nat_cmp (x * 256 ^ n + a) (z * 256 ^ n + b) ≡ nat_cmp a b) same (shifted (x * 256 ^ n) a b) in
            same_first ∙ digits_order n xs ys (omega arith) (omega arith) rx ry ∙ sym (numbers ∙ moved)
      ]
    ]

reads_back : (i : ℕ) → i < 2 ^ 32 → big_from 0 4 (be w32 i) ≡ i
reads_back i h = rw append-nil at (number_at-be w32 i [] h)

be_bytes : (i : ℕ) → IsBytes (be w32 i)
unfolding be
be_bytes i = IsBytes-bytes_high_first 4 i

be_long : (i : ℕ) → length (be w32 i) ≡ 4
unfolding be
be_long i = length-bytes_high_first 4 i

-- numbers of four bytes come in the order of the numbers
pub be-order : (i j : ℕ) → i < 2 ^ 32 → j < 2 ^ 32 → key_cmp (be w32 i) (be w32 j) ≡ nat_cmp i j
be-order i j hi hj =
    digits_order 4 (be w32 i) (be w32 j) (be_long i) (be_long j) (be_bytes i) (be_bytes j)
    ∙ ap (λ (m : ℕ). nat_cmp m (big_from 0 4 (be w32 j))) (reads_back i hi) ∙ ap (nat_cmp i) (reads_back j hj)

pub be-below : (i j : ℕ) → i < 2 ^ 32 → j < 2 ^ 32 → i < j → is_lt (key_cmp (be w32 i) (be w32 j)) ≡ true
be-below i j hi hj less = ap is_lt (be-order i j hi hj ∙ nat_less i j less)

pub be-from : (i j : ℕ) → i < 2 ^ 32 → j < 2 ^ 32 → j ≤ i → is_lt (key_cmp (be w32 i) (be w32 j)) ≡ false
be-from i j hi hj from = ap is_lt (be-order i j hi hj) ∙ by (cases_lt j i)
  where
    by : (j < i) ⊎ (i ≤ j) → is_lt (nat_cmp i j) ≡ false
    by (inl more) = ap is_lt (nat_more i j more)
    by (inr to) = let same : i ≡ j = omega arith in subst (λ (k : ℕ). is_lt (nat_cmp i k) ≡ false) same (ap is_lt (nat_same i))
