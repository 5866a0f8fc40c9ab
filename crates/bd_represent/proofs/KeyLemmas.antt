-- Keys of records and blocks are told apart, and which keys begin with the key of a path.
use Rattle.std.proofs.Common.{◌≡◌, ℕ, ◌<◌, ◌^◌, List, [], ◌∷◌, ◌++◌, length, true, refl, sym, ap, ◌∙◌, arith, append_assoc}
use Rattle.std.specs.Int.{w32}
use Rattle.bd_wire.specs.Numbers.{be}
use Rattle.bd_wire.proofs.NumberLemmas.{IsPrefixFree-be}
use Rattle.bd_names.specs.Names.{is_name, AreNames, key_of}
use Rattle.bd_names.proofs.NamesLaws.{AreNames-cons, is_name-zero, is_name-length, key_of-cons, first_part}
use Rattle.bd_represent.specs.EntryKeys.{record_key, block_key}

-- no name is empty
named : (n : List ℕ) → is_name n ≡ true → [] ≡ n → ⊥
named n h e = omega (arith, (is_name-length n h).0, ap length e)

key_of-more : (n : List ℕ) (p : List (List ℕ)) (x : List ℕ) → key_of (n ∷ p) ++ x ≡ n ++ 0 ∷ (key_of p ++ x)
key_of-more n p x = ap (λ k. k ++ x) (key_of-cons n p) ∙ append_assoc n (0 ∷ key_of p) x

-- a path whose key stands before a zero byte, where another path's key begins it, is that one or below it
pub key_of-under : (p q : List (List ℕ)) (rest x : List ℕ) → AreNames p → AreNames q → key_of q ++ 0 ∷ x ≡ key_of p ++ rest
    → (below : List (List ℕ)) × (q ≡ p ++ below) × (rest ≡ key_of below ++ 0 ∷ x)
key_of-under [] q rest x hp hq e = (q, refl, sym e)
key_of-under (n ∷ p) [] rest x hp hq e =
    let name_n = (AreNames-cons n p hp).0 in
    let parts = first_part 0 [] n (0 ∷ x) (0 ∷ (key_of p ++ rest)) refl (is_name-zero n name_n) refl refl (e ∙ key_of-more n p rest) in
    absurd (named n name_n parts.0)
key_of-under (n ∷ p) (m ∷ q) rest x hp hq e =
    let name_n = AreNames-cons n p hp in
    let name_m = AreNames-cons m q hq in
    let flat : m ++ 0 ∷ (key_of q ++ 0 ∷ x) ≡ n ++ 0 ∷ (key_of p ++ rest) = sym (key_of-more m q (0 ∷ x)) ∙ e ∙ key_of-more n p rest in
    let parts = first_part 0 m n (0 ∷ (key_of q ++ 0 ∷ x)) (0 ∷ (key_of p ++ rest)) (is_name-zero m name_m.0) (is_name-zero n name_n.0) refl refl flat in
    let keys : 0 ∷ (key_of q ++ 0 ∷ x) ≡ 0 ∷ (key_of p ++ rest) = parts.1 in
    let tails : key_of q ++ 0 ∷ x ≡ key_of p ++ rest = cc in
    let below = key_of-under p q rest x name_n.1 name_m.1 tails in
    let same : m ≡ n = parts.0 in
    let more : q ≡ p ++ below.0 = below.1 in
    (below.0, cc, below.2)

-- one path, and the same after it, where keys stand before a zero byte
pub key_of-apart : (p q : List (List ℕ)) (x y : List ℕ) → AreNames p → AreNames q → key_of p ++ 0 ∷ x ≡ key_of q ++ 0 ∷ y → (p ≡ q) × (x ≡ y)
key_of-apart [] [] x y hp hq e = let same : x ≡ y = cc in (refl, same)
key_of-apart [] (m ∷ q) x y hp hq e =
    let name_m = (AreNames-cons m q hq).0 in
    let parts = first_part 0 [] m (0 ∷ x) (0 ∷ (key_of q ++ 0 ∷ y)) refl (is_name-zero m name_m) refl refl (e ∙ key_of-more m q (0 ∷ y)) in
    absurd (named m name_m parts.0)
key_of-apart (n ∷ p) [] x y hp hq e =
    let name_n = (AreNames-cons n p hp).0 in
    let parts = first_part 0 [] n (0 ∷ y) (0 ∷ (key_of p ++ 0 ∷ x)) refl (is_name-zero n name_n) refl refl (sym e ∙ key_of-more n p (0 ∷ x)) in
    absurd (named n name_n parts.0)
key_of-apart (n ∷ p) (m ∷ q) x y hp hq e =
    let name_n = AreNames-cons n p hp in
    let name_m = AreNames-cons m q hq in
    let flat : n ++ 0 ∷ (key_of p ++ 0 ∷ x) ≡ m ++ 0 ∷ (key_of q ++ 0 ∷ y) = sym (key_of-more n p (0 ∷ x)) ∙ e ∙ key_of-more m q (0 ∷ y) in
    let parts = first_part 0 n m (0 ∷ (key_of p ++ 0 ∷ x)) (0 ∷ (key_of q ++ 0 ∷ y)) (is_name-zero n name_n.0) (is_name-zero m name_m.0) refl refl flat in
    let keys : 0 ∷ (key_of p ++ 0 ∷ x) ≡ 0 ∷ (key_of q ++ 0 ∷ y) = parts.1 in
    let tails : key_of p ++ 0 ∷ x ≡ key_of q ++ 0 ∷ y = cc in
    let rest = key_of-apart p q x y name_n.1 name_m.1 tails in
    let same : n ≡ m = parts.0 in
    let paths : p ≡ q = rest.0 in
    (cc, rest.1)

-- two records of one key are of one path
pub record_key-injective : (p q : List (List ℕ)) → AreNames p → AreNames q → record_key p ≡ record_key q → p ≡ q
record_key-injective p q hp hq e = (key_of-apart p q (0 ∷ []) (0 ∷ []) hp hq e).0

-- no record stands at the key of a block
pub record_key-block_key : (p q : List (List ℕ)) (i : ℕ) → AreNames p → AreNames q → record_key p ≡ block_key q i → ⊥
record_key-block_key p q i hp hq e = let tags : 0 ∷ [] ≡ 1 ∷ be w32 i = (key_of-apart p q (0 ∷ []) (1 ∷ be w32 i) hp hq e).1 in cc

-- two blocks of one key are one block of one path
pub block_key-injective : (p q : List (List ℕ)) (i j : ℕ) → AreNames p → AreNames q → i < 2 ^ 32 → j < 2 ^ 32 → block_key p i ≡ block_key q j → (p ≡ q) × (i ≡ j)
block_key-injective p q i j hp hq hi hj e =
    let parts = key_of-apart p q (1 ∷ be w32 i) (1 ∷ be w32 j) hp hq e in
    let tags : 1 ∷ be w32 i ≡ 1 ∷ be w32 j = parts.1 in
    let numbers : be w32 i ≡ be w32 j = cc in
    (parts.0, (IsPrefixFree-be w32 i j [] [] hi hj (ap (λ b. b ++ []) numbers)).0)
