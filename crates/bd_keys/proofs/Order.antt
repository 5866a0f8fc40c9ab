-- The order of keys, byte by byte.
use Rattle.std.proofs.Common.{◌≡◌, ◌≢◌, ℕ, zero, suc, ◌<◌, List, [], ◌∷◌, refl, sym, ap, ◌∙◌, arith, drop, ◌++◌}
use Rattle.std.proofs.Common.{Ordering, Less, Equal, Greater, true, false}
use Rattle.std.specs.Ordering.{nat_cmp, ordering_reverse, is_lt, ord_max, ord_min}
use Rattle.std.specs.Option.{MatchOption, IsSomeAnd, option_copied}
use Rattle.std.specs.Borrow.{Bor}
use Rattle.std.proofs.Common.{cond}
use Rattle.std.specs.Prelude.{Option, Some, None, IsTrue, ◌↔◌}
use Rattle.std.proofs.lemmas.Cmp.{nat_list_cmp_total as total}
use Rattle.std.proofs.lemmas.Bool.Decides.{nat_tests}
use Rattle.bd_keys.specs.Keys.{IsKey, key_cmp, IsBelow, IsBelowEnd, IsAtLeast, InRange, Begins}

pub nat_less : (a b : ℕ) → a < b → nat_cmp a b ≡ Less
nat_less a b h = grind (arith, nat_tests)

pub nat_same : (a : ℕ) → nat_cmp a a ≡ Equal
nat_same a = grind (arith, nat_tests)

pub nat_more : (a b : ℕ) → b < a → nat_cmp a b ≡ Greater
nat_more a b h = grind (arith, nat_tests)

-- a smaller first byte makes a smaller key
pub first_less : (a b : ℕ) (k l : List ℕ) → a < b → key_cmp (a ∷ k) (b ∷ l) ≡ Less
first_less a b k l h = rw (nat_less a b h)

-- after the same first byte the rest decides
pub first_same : (a : ℕ) (k l : List ℕ) → key_cmp (a ∷ k) (a ∷ l) ≡ key_cmp k l
first_same a k l = rw (nat_same a)

-- a larger first byte makes a larger key
pub first_more : (a b : ℕ) (k l : List ℕ) → b < a → key_cmp (a ∷ k) (b ∷ l) ≡ Greater
first_more a b k l h = rw (nat_more a b h)

-- no key is below itself
pub not_below_itself : (k : List ℕ) → key_cmp k k ≢ Less
not_below_itself [] h = cc
not_below_itself (a ∷ k) h = not_below_itself k (sym (first_same a k k) ∙ h)

-- nor below the empty one
pub not_below_nil : (k : List ℕ) → key_cmp k [] ≢ Less
not_below_nil [] h = cc
not_below_nil (a ∷ k) h = cc

below_from_cases : (k a b : List ℕ) (o : Ordering) → key_cmp b a ≡ o → IsBelow k a → IsAtLeast b a → IsBelow k b
below_from_cases k a b Less e below from = absurd (from e)
below_from_cases k a b Equal e below from =
    total.antisymm k b ∙ ap ordering_reverse (total.congr b a k e) ∙ sym (total.antisymm k a) ∙ below
below_from_cases k a b Greater e below from =
    total.trans k a b below (total.antisymm a b ∙ ap ordering_reverse e)

-- what is below a is below what isn't below a
pub below_from : (k a b : List ℕ) → IsBelow k a → IsAtLeast b a → IsBelow k b
below_from k a b below from = below_from_cases k a b (key_cmp b a) refl below from

-- a key without its first byte is one
pub IsKey-rest : (a : ℕ) (k : List ℕ) → IsKey (a ∷ k) → IsKey k
IsKey-rest a k h i = h (suc i)

-- and one with a byte in front
pub IsKey-drop : (n : ℕ) (k : List ℕ) → IsKey k → IsKey (drop n k)
IsKey-drop zero k key = key
IsKey-drop (suc n) [] key = key
IsKey-drop (suc n) (b ∷ k) key = IsKey-drop n k (IsKey-rest b k key)

pub IsKey-cons : (a : ℕ) (k : List ℕ) → a < 256 → IsKey k → IsKey (a ∷ k)
IsKey-cons a k ha h zero = ha
IsKey-cons a k ha h (suc i) = h i

pub IsKey-nil : IsKey []
IsKey-nil i = omega arith

-- the same first byte in front of both
pub Begins-cons : (a : ℕ) (k p : List ℕ) → Begins k p → Begins (a ∷ k) (a ∷ p)
Begins-cons a k p h = ap (λ r. a ∷ r) h

pub Begins-uncons : (a b : ℕ) (k p : List ℕ) → Begins (a ∷ k) (b ∷ p) → (a ≡ b) × Begins k p
Begins-uncons a b k p h = (cc, cc)

-- a key is at least the greater of two keys exactly where it is at least both
max_first : (a b k : List ℕ) → IsBelow b a → IsAtLeast k a ↔ (IsAtLeast k a × IsAtLeast k b)
max_first a b k h = ((λ least. (least, λ below. least (total.trans k b a below h))), λ both. both.0)

max_second : (a b k : List ℕ) → IsAtLeast b a → IsAtLeast k b ↔ (IsAtLeast k a × IsAtLeast k b)
max_second a b k h = ((λ least. ((λ below. least (below_from k a b below h)), least)), λ both. both.1)

max_cases : {R : Type 0} (key : R → List ℕ) (a b greater : R) (k : List ℕ) (o : Ordering) → key_cmp (key b) (key a) ≡ o → greater ≡ cond (is_lt o) a b
    → IsAtLeast k (key greater) ↔ (IsAtLeast k (key a) × IsAtLeast k (key b))
max_cases key a b greater k Less c e = rw e (max_first (key a) (key b) k c)
max_cases key a b greater k Equal c e = rw e (max_second (key a) (key b) k (λ less. (cc)))
max_cases key a b greater k Greater c e = rw e (max_second (key a) (key b) k (λ less. (cc)))

pub at_least-max : {R : Type 0} (key : R → List ℕ) (a b greater : R) (k : List ℕ) → greater ≡ ord_max (λ x y. key_cmp (key x) (key y)) a b
    → IsAtLeast k (key greater) ↔ (IsAtLeast k (key a) × IsAtLeast k (key b))
at_least-max key a b greater k e = max_cases key a b greater k (key_cmp (key b) (key a)) refl e

-- a key is below the lesser of two keys exactly where it is below both
min_second : (a b k : List ℕ) → IsBelow b a → IsBelow k b ↔ (IsBelow k a × IsBelow k b)
min_second a b k h = ((λ below. (total.trans k b a below h, below)), λ both. both.1)

min_first : (a b k : List ℕ) → IsAtLeast b a → IsBelow k a ↔ (IsBelow k a × IsBelow k b)
min_first a b k h = ((λ below. (below, below_from k a b below h)), λ both. both.0)

min_cases : {R : Type 0} (key : R → List ℕ) (a b lesser : R) (k : List ℕ) (o : Ordering) → key_cmp (key b) (key a) ≡ o → lesser ≡ cond (is_lt o) b a
    → IsBelow k (key lesser) ↔ (IsBelow k (key a) × IsBelow k (key b))
min_cases key a b lesser k Less c e = rw e (min_second (key a) (key b) k c)
min_cases key a b lesser k Equal c e = rw e (min_first (key a) (key b) k (λ less. (cc)))
min_cases key a b lesser k Greater c e = rw e (min_first (key a) (key b) k (λ less. (cc)))

pub below-min : {R : Type 0} (key : R → List ℕ) (a b lesser : R) (k : List ℕ) → lesser ≡ ord_min (λ x y. key_cmp (key x) (key y)) a b
    → IsBelow k (key lesser) ↔ (IsBelow k (key a) × IsBelow k (key b))
below-min key a b lesser k e = min_cases key a b lesser k (key_cmp (key b) (key a)) refl e

-- a clone of an end is equal to it
pub clone-end : (hi : Option (Bor (List ℕ))) (clone : Option (List ℕ)) → MatchOption hi (clone ≡ None) (λ x. IsSomeAnd clone (λ y. y ≡ x.now)) → clone ≡ option_copied hi
clone-end None clone h = h
clone-end (Some x) None h = absurd h
clone-end (Some x) (Some y) h = ap Some h

-- no key is at least a beginning and below an end that isn't above it
pub none_between : (lo : List ℕ) (hi : Option (List ℕ)) (k : List ℕ) → ¬ IsBelowEnd lo hi → IsAtLeast k lo → IsBelowEnd k hi → ⊥
none_between lo None k h from below = h tt
none_between lo (Some hi) k h from below = from (below_from k hi lo below h)

-- the test says which
pub is_lt-less : (o : Ordering) → IsTrue (is_lt o) ↔ (o ≡ Less)
is_lt-less Less = ((λ _. refl), λ _. refl)
is_lt-less Equal = ((λ h. cc), λ h. cc)
is_lt-less Greater = ((λ h. cc), λ h. cc)

-- a test isn't both
pub not_false : false ≡ true → ⊥
not_false h = cc

-- a range whose ends are the greater beginning and the lesser end has the keys of both
pub in_both : (k lo a b : List ℕ) (hi ha hb : Option (List ℕ)) → IsAtLeast k lo ↔ (IsAtLeast k a × IsAtLeast k b) → IsBelowEnd k hi ↔ (IsBelowEnd k ha × IsBelowEnd k hb)
    → InRange lo hi k ↔ (InRange a ha k × InRange b hb k)
in_both k lo a b hi ha hb from below =
    ((λ h. let f = from.0 h.0 in let e = below.0 h.1 in ((f.0, e.0), (f.1, e.1))), λ h. (from.1 (h.0.0, h.1.0), below.1 (h.0.1, h.1.1)))

-- after one front, keys compare as their rests do
pub key_cmp-front : (p x y : List ℕ) → key_cmp (p ++ x) (p ++ y) ≡ key_cmp x y
key_cmp-front [] x y = refl
key_cmp-front (b ∷ p) x y = first_same b (p ++ x) (p ++ y) ∙ key_cmp-front p x y
