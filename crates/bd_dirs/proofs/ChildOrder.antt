-- The order of the keys of the children of a directory is the order of their names.
use Rattle.std.proofs.Common.{◌≡◌, ◌≢◌, ℕ, zero, suc, ◌<◌, ◌≤◌, true, List, [], ◌∷◌, ◌++◌, ◌⊎◌, inl, inr, Ordering, Less, Greater, refl, sym, ap, ◌∙◌, arith, append_assoc}
use Rattle.std.specs.Prelude.{not, ◌&&◌, ◌==◌, nat_le}
use Rattle.std.specs.List.{list_all}
use Rattle.std.proofs.lemmas.Bool.{and_parts, leb-true}
use Rattle.std.proofs.lemmas.Cmp.{nat_list_cmp_total as total}
use Rattle.bd_names.specs.Names.{is_name, is_name_byte, AreNames, key_of}
use Rattle.bd_names.proofs.NamesLaws.{is_name-bytes, is_name-length, AreNames-cons, AreNames-append, key_of-append, key_of-cons}
use Rattle.std.specs.Int.{w32}
use Rattle.bd_wire.specs.Numbers.{be}
use Rattle.bd_represent.proofs.KeyLemmas.{key_of-apart}
use Rattle.bd_represent.specs.EntryKeys.{record_key, IsEntryKey}
use Rattle.bd_keys.specs.Keys.{key_cmp, IsBelow, IsAtLeast}
use Rattle.bd_keys.proofs.Order.{first_less, first_same, first_more, not_below_itself, not_below_nil, key_cmp-front}

-- two numbers, compared
compared : (a b : ℕ) → (a < b) ⊎ ((a ≡ b) ⊎ (b < a))
compared zero zero = inr (inl refl)
compared zero (suc b) = inl (omega arith)
compared (suc a) zero = inr (inr (omega arith))
compared (suc a) (suc b) = by (compared a b)
  where
    by : (a < b) ⊎ ((a ≡ b) ⊎ (b < a)) → (suc a < suc b) ⊎ ((suc a ≡ suc b) ⊎ (suc b < suc a))
    by (inl h) = inl (omega arith)
    by (inr (inl h)) = inr (inl (ap suc h))
    by (inr (inr h)) = inr (inr (omega arith))

byte_at_least : (b : ℕ) → is_name_byte b ≡ true → 33 ≤ b
byte_at_least b h = leb-true 33 b (and_parts (nat_le 33 b) (nat_le b 255 && (not (b == 47) && not (b == 127))) h).0

not_more_less : (o : Ordering) → o ≡ Greater → o ≡ Less → ⊥
not_more_less o g l = cc

-- a key above another is at least the next one after that
pub next_key : (k l : List ℕ) → IsBelow k l → IsAtLeast l (k ++ 0 ∷ [])
next_key k [] below less = not_below_nil k below
next_key [] (b ∷ l) below less = by (compared 0 b)
  where
    by : (0 < b) ⊎ ((0 ≡ b) ⊎ (b < 0)) → ⊥
    by (inl more) = not_more_less (key_cmp (b ∷ l) (0 ∷ [])) (first_more b 0 l [] more) less
    by (inr (inl same)) = not_below_nil l (sym (first_same 0 l []) ∙ ap (λ (d : ℕ). key_cmp (d ∷ l) (0 ∷ [])) same ∙ less)
    by (inr (inr under)) = omega arith
next_key (a ∷ k) (b ∷ l) below less = by (compared a b) (next_key k l)
  where
    by : (a < b) ⊎ ((a ≡ b) ⊎ (b < a)) → (IsBelow k l → IsAtLeast l (k ++ 0 ∷ [])) → ⊥
    by (inl more) ih = not_more_less (key_cmp (b ∷ l) (a ∷ (k ++ 0 ∷ []))) (first_more b a l (k ++ 0 ∷ []) more) less
    by (inr (inl same)) ih =
        ih (sym (first_same a k l) ∙ ap (λ (d : ℕ). key_cmp (a ∷ k) (d ∷ l)) same ∙ below)
        (sym (first_same a l (k ++ 0 ∷ [])) ∙ ap (λ (d : ℕ). key_cmp (d ∷ l) (a ∷ (k ++ 0 ∷ []))) same ∙ less)
    by (inr (inr more)) ih = not_more_less (key_cmp (a ∷ k) (b ∷ l)) (first_more a b k l more) below

-- a name below another stays below it before a byte that is less than each of a name
before_byte : (m n : List ℕ) (a : ℕ) (x y : List ℕ) → list_all is_name_byte n ≡ true → a ≤ 1 → IsBelow m n → IsBelow (m ++ a ∷ x) (n ++ y)
before_byte [] [] a x y bytes small below = absurd (not_below_nil [] below)
before_byte [] (c ∷ n) a x y bytes small below =
    let least = byte_at_least c (and_parts (is_name_byte c) (list_all is_name_byte n) bytes).0 in
    first_less a c x (n ++ y) (omega arith)
before_byte (b ∷ m) [] a x y bytes small below = absurd (not_below_nil (b ∷ m) below)
before_byte (b ∷ m) (c ∷ n) a x y bytes small below = by (compared b c) (before_byte m n a x y (and_parts (is_name_byte c) (list_all is_name_byte n) bytes).1 small)
  where
    by : (b < c) ⊎ ((b ≡ c) ⊎ (c < b)) → (IsBelow m n → IsBelow (m ++ a ∷ x) (n ++ y)) → IsBelow (b ∷ (m ++ a ∷ x)) (c ∷ (n ++ y))
    by (inl h) ih = first_less b c (m ++ a ∷ x) (n ++ y) h
    by (inr (inl h)) ih =
        let shorter : IsBelow m n = sym (first_same b m n) ∙ ap (λ (d : ℕ). key_cmp (b ∷ m) (d ∷ n)) h ∙ below in
        ap (λ (d : ℕ). key_cmp (b ∷ (m ++ a ∷ x)) (d ∷ (n ++ y))) (sym h) ∙ first_same b (m ++ a ∷ x) (n ++ y) ∙ ih shorter
    by (inr (inr h)) ih = absurd (not_more_less (key_cmp (b ∷ m) (c ∷ n)) (first_more b c m n h) below)

-- two names, compared
pub name_cases : (m n : List ℕ) → (IsBelow m n) ⊎ ((m ≡ n) ⊎ IsBelow n m)
name_cases [] [] = inr (inl refl)
name_cases [] (c ∷ n) = inl refl
name_cases (b ∷ m) [] = inr (inr refl)
name_cases (b ∷ m) (c ∷ n) = by (compared b c) (name_cases m n)
  where
    by : (b < c) ⊎ ((b ≡ c) ⊎ (c < b)) → (IsBelow m n) ⊎ ((m ≡ n) ⊎ IsBelow n m) → (IsBelow (b ∷ m) (c ∷ n)) ⊎ (((b ∷ m) ≡ (c ∷ n)) ⊎ IsBelow (c ∷ n) (b ∷ m))
    by (inl h) _ = inl (first_less b c m n h)
    by (inr (inr h)) _ = inr (inr (first_less c b n m h))
    by (inr (inl h)) (inl less) = inl (ap (λ (d : ℕ). key_cmp (b ∷ m) (d ∷ n)) (sym h) ∙ first_same b m n ∙ less)
    by (inr (inl h)) (inr (inl same)) = inr (inl (cc))
    by (inr (inl h)) (inr (inr less)) = inr (inr (ap (λ (d : ℕ). key_cmp (d ∷ n) (b ∷ m)) (sym h) ∙ first_same b n m ∙ less))

-- what begins with a name and a zero byte, from the key after another name's on, is of a greater name
pub name_from : (m n y : List ℕ) → list_all is_name_byte m ≡ true → is_name n ≡ true → IsAtLeast (n ++ 0 ∷ y) (m ++ 1 ∷ []) → IsBelow m n
name_from m n y hm hn from = by (name_cases m n)
  where
    by : (IsBelow m n) ⊎ ((m ≡ n) ⊎ IsBelow n m) → IsBelow m n
    by (inl less) = less
    by (inr (inl same)) = absurd (from (ap (λ (l : List ℕ). key_cmp (n ++ 0 ∷ y) (l ++ 1 ∷ [])) same ∙ key_cmp-front n (0 ∷ y) (1 ∷ [])))
    by (inr (inr more)) = absurd (from (before_byte n m 0 y (1 ∷ []) hm (omega arith) more))

-- no key is below another and above it
pub not_twice_below : (k l : List ℕ) → IsBelow k l → IsBelow l k → ⊥
not_twice_below k l h g = not_below_itself k (total.trans k l k h g)

-- a greater name's key is from the key after the lesser name's on
pub from_name : (m n y : List ℕ) → is_name n ≡ true → IsBelow m n → IsAtLeast (n ++ y) (m ++ 1 ∷ [])
from_name m n y hn less h = not_twice_below (m ++ 1 ∷ []) (n ++ y) (before_byte m n 1 [] y (is_name-bytes n hn) (omega arith) less) h

-- the key of a child that isn't below another child's is of no lesser name
pub names_as_keys : (m n x y : List ℕ) → is_name n ≡ true → IsAtLeast (m ++ 0 ∷ x) (n ++ y) → IsBelow m n → ⊥
names_as_keys m n x y hn from less = from (before_byte m n 0 x y (is_name-bytes n hn) (omega arith) less)

-- ---- the keys of children

-- the key of a child, and what follows it
pub child_key : (p : List (List ℕ)) (n x : List ℕ) → key_of (p ++ n ∷ []) ++ x ≡ key_of p ++ (n ++ 0 ∷ x)
child_key p n x =
    ap (λ (k : List ℕ). k ++ x) (key_of-append p (n ∷ []) ∙ ap (λ (k : List ℕ). key_of p ++ k) (key_of-cons n []))
    ∙ append_assoc (key_of p) (n ++ 0 ∷ []) x ∙ ap (λ (k : List ℕ). key_of p ++ k) (append_assoc n (0 ∷ []) x)

pub children_order : (p : List (List ℕ)) (m n : List ℕ) (x y : List ℕ) → AreNames (m ∷ n ∷ []) → IsBelow m n → IsBelow (key_of (p ++ m ∷ []) ++ x) (key_of (p ++ n ∷ []) ++ y)
children_order p m n x y names less =
    let second = (AreNames-cons n [] (AreNames-cons m (n ∷ []) names).1).0 in
    ap (λ (k : List ℕ). key_cmp k (key_of (p ++ n ∷ []) ++ y)) (child_key p m x)
    ∙ ap (λ (k : List ℕ). key_cmp (key_of p ++ (m ++ 0 ∷ x)) k) (child_key p n y)
    ∙ key_cmp-front (key_of p) (m ++ 0 ∷ x) (n ++ 0 ∷ y)
    ∙ before_byte m n 0 x (0 ∷ y) (is_name-bytes n second) (omega arith) less

-- nothing is below two zero bytes but what is no key of an entry
zeros_least : (x : List ℕ) → key_cmp (0 ∷ x) (0 ∷ 0 ∷ []) ≡ Less → x ≡ []
zeros_least [] h = refl
zeros_least (b ∷ x) h = absurd (next_key [] (b ∷ x) refl (sym (first_same 0 (b ∷ x) (0 ∷ [])) ∙ h))

-- the first byte of a name is above zero
named_first : (n y : List ℕ) (z : List ℕ) → is_name n ≡ true → key_cmp (n ++ y) (0 ∷ z) ≢ Less
named_first [] y z h less = omega (arith, (is_name-length [] h).0)
named_first (b ∷ n) y z h less =
    let least = byte_at_least b (and_parts (is_name_byte b) (list_all is_name_byte n) (is_name-bytes (b ∷ n) h)).0 in
    not_more_less (key_cmp (b ∷ (n ++ y)) (0 ∷ z)) (first_more b 0 (n ++ y) z (omega arith)) less

pub record_least : (p q : List (List ℕ)) (x : List ℕ) → AreNames p → AreNames q → IsEntryKey (key_of (p ++ q) ++ 0 ∷ x) → IsAtLeast (key_of (p ++ q) ++ 0 ∷ x) (record_key p)
record_least p q x hp hq entry less = by q hq entry inside
  where
    inside : key_cmp (key_of q ++ 0 ∷ x) (0 ∷ 0 ∷ []) ≡ Less
    inside =
        sym (key_cmp-front (key_of p) (key_of q ++ 0 ∷ x) (0 ∷ 0 ∷ []))
        ∙ sym (ap (λ (k : List ℕ). key_cmp k (record_key p)) (ap (λ (k : List ℕ). k ++ 0 ∷ x) (key_of-append p q) ∙ append_assoc (key_of p) (key_of q) (0 ∷ x))) ∙ less

    by : (r : List (List ℕ)) → AreNames r → IsEntryKey (key_of (p ++ r) ++ 0 ∷ x) → key_cmp (key_of r ++ 0 ∷ x) (0 ∷ 0 ∷ []) ≡ Less → ⊥
    by [] hr e h = tagged e (zeros_least x h)
      where
        tagged : IsEntryKey (key_of (p ++ []) ++ 0 ∷ x) → x ≡ [] → ⊥
        tagged (path, names, inl e) none = let parts = key_of-apart (p ++ []) path x (0 ∷ []) (AreNames-append p [] hp hr) names e in let no : ◌≡◌ {A = List ℕ} [] (0 ∷ []) = sym none ∙ parts.1 in cc
        tagged (path, names, inr (i, hi, e)) none = let parts = key_of-apart (p ++ []) path x (1 ∷ be w32 i) (AreNames-append p [] hp hr) names e in let no : ◌≡◌ {A = List ℕ} [] (1 ∷ be w32 i) = sym none ∙ parts.1 in cc
    by (n ∷ r) hr e h =
        named_first n (0 ∷ (key_of r ++ 0 ∷ x)) (0 ∷ []) (AreNames-cons n r hr).0
        (sym (ap (λ (k : List ℕ). key_cmp k (0 ∷ 0 ∷ [])) (ap (λ (k : List ℕ). k ++ 0 ∷ x) (key_of-cons n r) ∙ append_assoc n (0 ∷ key_of r) (0 ∷ x))) ∙ h)

-- what begins with a zero byte is below each key after a name's
pub zero_below : (m x : List ℕ) → list_all is_name_byte m ≡ true → IsBelow (0 ∷ x) (m ++ 1 ∷ [])
zero_below [] x h = first_less 0 1 x [] (omega arith)
zero_below (b ∷ m) x h =
    let least = byte_at_least b (and_parts (is_name_byte b) (list_all is_name_byte m) h).0 in
    first_less 0 b x (m ++ 1 ∷ []) (omega arith)

-- a name isn't empty
pub above_nil : (n : List ℕ) → is_name n ≡ true → IsBelow [] n
above_nil [] h = absurd (omega (arith, (is_name-length [] h).0))
above_nil (b ∷ n) h = refl
