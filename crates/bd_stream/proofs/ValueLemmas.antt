-- The keys of paths as numbers, which rise from one question of an export to the next.
use Rattle.std.proofs.Common.{◌≡◌, ℕ, zero, suc, ◌+◌, ◌*◌, ◌<◌, ◌≤◌, List, [], ◌∷◌, ◌++◌, length, Bool, true, false, Less, Equal, Greater, refl, sym, ap, subst, ◌∙◌, arith, append_assoc, length-append}
use Rattle.std.specs.Prelude.{◌&&◌, nat_le, ◌==◌, not}
use Rattle.std.specs.List.{AllByRecursion, list_all}
use Rattle.std.specs.Ordering.{nat_cmp, ordering_then}
use Rattle.std.specs.Cmp.{ranked}
use Rattle.std.specs.declared.cmp.Ordering.{Ordering}
use Rattle.std.proofs.lemmas.Bool.{leb-true}
use Rattle.bd_limits.specs.Limits.{path_limit}
use Rattle.bd_names.specs.Names.{is_name, is_name_byte, AreNames, path_text, key_of}
use Rattle.bd_names.proofs.NamesLaws.{is_name-bytes, is_name-length, AreNames-cons, key_of-append, key_of-cons, length-key_of}
use Rattle.bd_wire.proofs.NumberLemmas.{higher_digit}
use Rattle.bd_model.specs.Tree.{Path, Name}
use Rattle.bd_stream.specs.Within.{AreBytes}
use Rattle.bd_stream.proofs.OrderLemmas.{name_cmp}

-- what a digit counts that stands before so many others
unfoldable pub weight : ℕ → ℕ
weight zero = 1
weight (suc n) = 258 * weight n

-- bytes as digits of a number of so many, with a last one that is repeated
unfoldable pub value : ℕ → List ℕ → ℕ → ℕ
value zero key end = 0
value (suc n) [] end = end * weight n + value n [] end
value (suc n) (b ∷ key) end = suc b * weight n + value n key end

-- a number of so many digits is below what the next one counts
pub value_lt : (n : ℕ) (key : List ℕ) (end : ℕ) → end ≤ 257 → AreBytes key → value n key end < weight n
unfolding weight value
value_lt zero key end h bytes = omega arith
value_lt (suc n) [] end h bytes =
    let rest = value_lt n [] end h tt in
    omega (arith, higher_digit end 258 (value n [] end) 0 (weight n) rest (omega arith))
value_lt (suc n) (b ∷ key) end h bytes =
    let rest = value_lt n key end h bytes.1 in
    let byte : b < 256 = bytes.0 in
    omega (arith, higher_digit (suc b) 258 (value n key end) 0 (weight n) rest (omega arith))

-- the first byte that differs decides
pub by_digit : (n : ℕ) (a : List ℕ) (x y : ℕ) (r s : List ℕ) (e f : ℕ) → x < y → length a < n → e ≤ 257 → AreBytes r → value n (a ++ x ∷ r) e < value n (a ++ y ∷ s) f
unfolding value
by_digit zero a x y r s e f h len end bytes = absurd (omega arith)
by_digit (suc n) [] x y r s e f h len end bytes = higher_digit (suc x) (suc y) (value n r e) (value n s f) (weight n) (value_lt n r e end bytes) (omega arith)
by_digit (suc n) (b ∷ a) x y r s e f h len end bytes = (let rest = by_digit n a x y r s e f h (omega arith) end bytes in omega arith)

-- more bytes are above none
pub by_more : (n : ℕ) (a : List ℕ) (y : ℕ) (s : List ℕ) (f : ℕ) → length a < n → value n a 0 < value n (a ++ y ∷ s) f
unfolding value
by_more zero a y s f len = absurd (omega arith)
by_more (suc n) [] y s f len = higher_digit 0 (suc y) (value n [] 0) (value n s f) (weight n) (value_lt n [] 0 (omega arith) tt) (omega arith)
by_more (suc n) (b ∷ a) y s f len = (let rest = by_more n a y s f (omega arith) in omega arith)

-- and below the end
pub by_end : (n : ℕ) (a : List ℕ) (x : ℕ) (r : List ℕ) (e : ℕ) → x < 256 → length a < n → e ≤ 257 → AreBytes r → value n (a ++ x ∷ r) e < value n a 257
unfolding value
by_end zero a x r e h len end bytes = absurd (omega arith)
by_end (suc n) [] x r e h len end bytes = higher_digit (suc x) 257 (value n r e) (value n [] 257) (weight n) (value_lt n r e end bytes) (omega arith)
by_end (suc n) (b ∷ a) x r e h len end bytes = (let rest = by_end n a x r e h (omega arith) end bytes in omega arith)

-- the end is above
pub by_last : (n : ℕ) (a : List ℕ) → length a < n → value n a 0 < value n a 257
unfolding value
by_last zero a len = absurd (omega arith)
by_last (suc n) [] len = higher_digit 0 257 (value n [] 0) (value n [] 257) (weight n) (value_lt n [] 0 (omega arith) tt) (omega arith)
by_last (suc n) (b ∷ a) len = (let rest = by_last n a (omega arith) in omega arith)

-- ---- the bytes of names

first : (x y : Bool) → (x && y) ≡ true → x ≡ true
first true y e = refl
first false y e = cc

second : (x y : Bool) → (x && y) ≡ true → y ≡ true
second true y e = e
second false y e = cc

pub record IsNameByte (b : ℕ) : Type 0 where
  pub low : 33 ≤ b
  pub high : b < 256

name_byte : (b : ℕ) → is_name_byte b ≡ true → IsNameByte b
name_byte b h =
    let low : 33 ≤ b = leb-true 33 b (first (nat_le 33 b) (nat_le b 255 && (not (b == 47) && not (b == 127))) h) in
    let high : b ≤ 255 = leb-true b 255 (first (nat_le b 255) (not (b == 47) && not (b == 127)) (second (nat_le 33 b) (nat_le b 255 && (not (b == 47) && not (b == 127))) h)) in
    record { low = low; high = omega arith }

-- each byte of a name is one
pub name_bytes : (n : List ℕ) → list_all is_name_byte n ≡ true → AllByRecursion IsNameByte n
name_bytes [] h = tt
name_bytes (b ∷ n) h = (name_byte b (first (is_name_byte b) (list_all is_name_byte n) h), name_bytes n (second (is_name_byte b) (list_all is_name_byte n) h))

bytes_of : (n : List ℕ) → AllByRecursion IsNameByte n → AreBytes (n ++ 0 ∷ [])
bytes_of [] all = (omega arith, tt)
bytes_of (b ∷ n) all = (all.0.high, bytes_of n all.1)

-- ---- names in one directory

named_by : (w : ℕ) (a m n : List ℕ) (e f : ℕ) → name_cmp m n ≡ Less → AllByRecursion IsNameByte m → AllByRecursion IsNameByte n → length (a ++ (m ++ 0 ∷ [])) ≤ w → e ≤ 257 → value w (a ++ (m ++ 0 ∷ [])) e < value w (a ++ (n ++ 0 ∷ [])) f
named_by w a [] [] e f less mb nb len end = cc
named_by w a [] (y ∷ ys) e f less mb nb len end =
    by_digit w a 0 y [] (ys ++ 0 ∷ []) e f (let low : 33 ≤ y = nb.0.low in omega arith) (omega (arith, length-append a (0 ∷ []))) end tt
named_by w a (x ∷ xs) [] e f less mb nb len end = cc
named_by w a (x ∷ xs) (y ∷ ys) e f less mb nb len end = by (nat_cmp x y) refl less (named_by w (a ++ x ∷ []) xs ys e f)
  where
    by : (o : Ordering) → nat_cmp x y ≡ o → ordering_then o (name_cmp xs ys) ≡ Less
        → (name_cmp xs ys ≡ Less → AllByRecursion IsNameByte xs → AllByRecursion IsNameByte ys → length ((a ++ x ∷ []) ++ (xs ++ 0 ∷ [])) ≤ w → e ≤ 257 → value w ((a ++ x ∷ []) ++ (xs ++ 0 ∷ [])) e < value w ((a ++ x ∷ []) ++ (ys ++ 0 ∷ [])) f)
        → value w (a ++ x ∷ (xs ++ 0 ∷ [])) e < value w (a ++ y ∷ (ys ++ 0 ∷ [])) f
    by Less is at ih =
        let lt : x < y = ranked x y Less (sym is) in
        by_digit w a x y (xs ++ 0 ∷ []) (ys ++ 0 ∷ []) e f lt (omega (arith, length-append a (x ∷ (xs ++ 0 ∷ [])))) end (bytes_of xs mb.1)
    by Equal is at ih =
        let same : x ≡ y = ranked x y Equal (sym is) in
        let one : a ++ x ∷ (xs ++ 0 ∷ []) ≡ (a ++ x ∷ []) ++ (xs ++ 0 ∷ []) = sym (append_assoc a (x ∷ []) (xs ++ 0 ∷ [])) in
        let two : a ++ y ∷ (ys ++ 0 ∷ []) ≡ (a ++ x ∷ []) ++ (ys ++ 0 ∷ []) = ap (λ (b : ℕ). a ++ b ∷ (ys ++ 0 ∷ [])) (sym same) ∙ sym (append_assoc a (x ∷ []) (ys ++ 0 ∷ [])) in
        let rest = ih at mb.1 nb.1 (subst (λ (l : List ℕ). length l ≤ w) one len) end in
        omega (arith, rest, ap (λ (l : List ℕ). value w l e) one, ap (λ (l : List ℕ). value w l f) two)
    by Greater is at ih = cc

key_in : (d : Path) (n : Name) → key_of (d ++ n ∷ []) ≡ key_of d ++ (n ++ 0 ∷ [])
key_in d n = key_of-append d (n ∷ []) ∙ ap (λ (l : List ℕ). key_of d ++ l) (key_of-cons n [])

-- the place of a path among all
abbrev pub place : Path → ℕ → ℕ
place p end = value 513 (key_of p) end

fits : (p : Path) → length (path_text p) ≤ path_limit → length (key_of p) < 513
fits p h = omega (arith, length-key_of p, h)

-- the places of names in one directory rise with them
pub place_names : (d : Path) (m n : Name) (e f : ℕ) → name_cmp m n ≡ Less → is_name m ≡ true → is_name n ≡ true → length (path_text (d ++ m ∷ [])) ≤ path_limit → e ≤ 257 → place (d ++ m ∷ []) e < place (d ++ n ∷ []) f
place_names d m n e f less mh nh short end =
    let size : length (key_of d ++ (m ++ 0 ∷ [])) ≤ 513 = omega (arith, fits (d ++ m ∷ []) short, ap length (key_in d m)) in
    let lt = named_by 513 (key_of d) m n e f less (name_bytes m (is_name-bytes m mh)) (name_bytes n (is_name-bytes n nh)) size end in
    omega (arith, lt, ap (λ (l : List ℕ). value 513 l e) (key_in d m), ap (λ (l : List ℕ). value 513 l f) (key_in d n))

-- what is in a directory comes after it
pub place_inside : (d : Path) (n : Name) → is_name n ≡ true → length (path_text d) ≤ path_limit → place d 0 < place (d ++ n ∷ []) 0
place_inside d [] h short = absurd (let size = is_name-length [] h in omega arith)
place_inside d (b ∷ n) h short =
    omega (arith, by_more 513 (key_of d) b (n ++ 0 ∷ []) 0 (fits d short), ap (λ (l : List ℕ). value 513 l 0) (key_in d (b ∷ n)))

-- and before what comes after it
pub place_beside : (d : Path) (m : Name) (e : ℕ) → is_name m ≡ true → length (path_text (d ++ m ∷ [])) ≤ path_limit → e ≤ 257 → place (d ++ m ∷ []) e < place d 257
place_beside d [] e h short end = absurd (let size = is_name-length [] h in omega arith)
place_beside d (b ∷ m) e h short end =
    let all = name_bytes (b ∷ m) (is_name-bytes (b ∷ m) h) in
    let len : length (key_of d) < 513 = omega (arith, fits (d ++ (b ∷ m) ∷ []) short, ap length (key_in d (b ∷ m)), length-append (key_of d) (b ∷ (m ++ 0 ∷ []))) in
    omega (arith, by_end 513 (key_of d) b (m ++ 0 ∷ []) e all.0.high len end (bytes_of m all.1), ap (λ (l : List ℕ). value 513 l e) (key_in d (b ∷ m)))

pub place_last : (p : Path) → length (path_text p) ≤ path_limit → place p 0 < place p 257
place_last p short = by_last 513 (key_of p) (fits p short)

key_bytes : (p : Path) → AreNames p → AreBytes (key_of p)
key_bytes [] h = tt
key_bytes (n ∷ p) h =
    let parts = AreNames-cons n p h in
    subst AreBytes (sym (key_of-cons n p)) (more n (name_bytes n (is_name-bytes n parts.0)) (key_bytes p parts.1))
  where
    more : (m : List ℕ) → AllByRecursion IsNameByte m → AreBytes (key_of p) → AreBytes (m ++ 0 ∷ key_of p)
    more [] all rest = (omega arith, rest)
    more (b ∷ m) all rest = (all.0.high, more m all.1 rest)

pub place_lt : (p : Path) (end : ℕ) → AreNames p → end ≤ 257 → place p end < weight 513
place_lt p end h e = value_lt 513 (key_of p) end e (key_bytes p h)
