-- Keys that begin with a prefix, and what is left of them.
use Rattle.std.proofs.Common.{◌≡◌, ℕ, ◌+◌, ◌<◌, ◌≤◌, Bool, true, false, not, List, [], ◌∷◌, ◌++◌, length, refl, sym, ap, subst, ◌∙◌, inl, inr, arith, append_assoc, length-append}
use Rattle.std.specs.Ordering.{is_lt}
use Rattle.std.proofs.lemmas.List.{append-nil}
use Rattle.std.proofs.lemmas.Bool.{cases_Bool, cases_lt, and_parts, and_from}
use Rattle.bd_keys.specs.Keys.{key_cmp, IsKey, IsAtLeast}
use Rattle.bd_keys.proofs.Order.{IsKey-cons, IsKey-rest, key_cmp-front}
use Rattle.bd_message.specs.Effect.{begins, rest, is_cut}
use Rattle.bd_message.proofs.Finds.{begins-is, begins-append}
use Rattle.bd_node.proofs.Edges.{lt_isnt, not_less_lt, not_below_itself}
use Rattle.bd_message.proofs.Prefixes.{joined_other, rest-append, least_nil}

-- bytes after bytes are bytes
pub IsKey-append : (k l : List ℕ) → IsKey k → IsKey l → IsKey (k ++ l)
IsKey-append [] l hk hl = hl
IsKey-append (a ∷ k) l hk hl = IsKey-cons a (k ++ l) (hk 0) (IsKey-append k l (IsKey-rest a k hk) hl)

-- ---- what begins with a prefix does so with more behind it

pub split_more : (q k p : List ℕ) → begins q p ≡ true → q ++ k ≡ p ++ (rest p q ++ k)
split_more q k p h = ap (λ (a : List ℕ). a ++ k) (begins-is q p h) ∙ append_assoc p (rest p q) k

pub begins_more : (q k p : List ℕ) → begins q p ≡ true → begins (q ++ k) p ≡ true
begins_more q k p h = subst (λ (l : List ℕ). begins l p ≡ true) (sym (split_more q k p h)) (begins-append p (rest p q ++ k))

pub rest_more : (q k p : List ℕ) → begins q p ≡ true → rest p (q ++ k) ≡ rest p q ++ k
rest_more q k p h = ap (λ (l : List ℕ). rest p l) (split_more q k p h) ∙ rest-append p (rest p q ++ k)

-- and where the prefix isn't longer, the other way round
pub begins_less : (q k p : List ℕ) → length p ≤ length q → begins (q ++ k) p ≡ true → begins q p ≡ true
begins_less q k [] le h = refl
begins_less [] k (b ∷ p) le h = absurd (omega arith)
begins_less (a ∷ q) k (b ∷ p) le h = and_from _ _ (and_parts _ _ h).0 (begins_less q k p (omega arith) (and_parts _ _ h).1)

-- ---- the order of what begins with a prefix

at_least_in : (r k z : List ℕ) → IsAtLeast r (r ++ z) → IsAtLeast (r ++ k) (r ++ z)
at_least_in r k [] least = λ less. least_nil k (sym (key_cmp-front r k []) ∙ less)
at_least_in r k (b ∷ z) least = absurd (least (ap (λ (l : List ℕ). key_cmp l (r ++ b ∷ z)) (sym (append-nil r)) ∙ key_cmp-front r [] (b ∷ z)))

pub at_least_more : (r k x : List ℕ) → IsAtLeast r x → IsAtLeast (r ++ k) x
at_least_more r k x least = elim (cases_Bool (begins x r)) [
  | inl inside ↦ subst (λ (l : List ℕ). IsAtLeast (r ++ k) l) (sym (begins-is x r inside))
      (at_least_in r k (rest r x) (subst (λ (l : List ℕ). IsAtLeast r l) (begins-is x r inside) least))
  | inr outside ↦ λ less. least (sym (joined_other r k x outside) ∙ less)
]

not_true : (b : Bool) → not b ≡ true → b ≡ false
not_true true h = cc
not_true false h = refl

-- a cut that takes a key takes all that begin with it
pub cut_more : (p x q k : List ℕ) → is_cut p x q ≡ true → is_cut p x (q ++ k) ≡ true
cut_more p x q k h =
    let inside : begins q p ≡ true = (and_parts _ _ h).0 in
    let least : IsAtLeast (rest p q) x = λ less. lt_isnt (key_cmp (rest p q) x) (not_true _ (and_parts _ _ h).1) less in
    and_from _ _ (begins_more q k p inside)
    (ap (λ (r : List ℕ). not (is_lt (key_cmp r x))) (rest_more q k p inside) ∙ ap not (not_less_lt (key_cmp (rest p q ++ k) x) (at_least_more (rest p q) k x least)))

-- what begins with bytes isn't shorter
pub begins_short : (x r : List ℕ) → begins x r ≡ true → length r ≤ length x
begins_short x r h = omega (arith, ap (λ (l : List ℕ). length l) (begins-is x r h), length-append r (rest r x))

length_rest : (p q : List ℕ) → begins q p ≡ true → length q ≡ length p + length (rest p q)
length_rest p q h = ap (λ (l : List ℕ). length l) (begins-is q p h) ∙ length-append p (rest p q)

begins_not : (x r : List ℕ) → length x < length r → begins x r ≡ false
begins_not x r short = elim (cases_Bool (begins x r)) [
  | inr other ↦ other
  | inl inside ↦ absurd (let le : length r ≤ length x = begins_short x r inside in omega arith)
]

-- and the other way round, where the prefix is longer than what the cut names
pub cut_less : (p x q k : List ℕ) → length p + length x < length q → is_cut p x (q ++ k) ≡ true → is_cut p x q ≡ true
cut_less p x q k long h =
    let inside : begins q p ≡ true = begins_less q k p (omega arith) (and_parts _ _ h).0 in
    let short : length x < length (rest p q) = omega (arith, length_rest p q inside) in
    let same : key_cmp (rest p (q ++ k)) x ≡ key_cmp (rest p q) x =
    ap (λ (r : List ℕ). key_cmp r x) (rest_more q k p inside) ∙ joined_other (rest p q) k x (begins_not x (rest p q) short) in
    and_from _ _ inside (ap (λ o. not (is_lt o)) (sym same) ∙ (and_parts _ _ h).1)

-- keys with a common beginning stand on the same side of a key that doesn't go on after it
same_side_in : (q k z : List ℕ) → z ≡ [] → is_lt (key_cmp (q ++ k) (q ++ z)) ≡ is_lt (key_cmp q (q ++ z))
same_side_in q k z e = subst (λ (y : List ℕ). is_lt (key_cmp (q ++ k) (q ++ y)) ≡ is_lt (key_cmp q (q ++ y))) (sym e)
    (ap is_lt (key_cmp-front q k []) ∙ not_less_lt (key_cmp k []) (least_nil k)
    ∙ sym (ap (λ (l : List ℕ). is_lt (key_cmp q l)) (append-nil q) ∙ not_less_lt (key_cmp q q) (not_below_itself q)))

no_bytes : (l : List ℕ) → length l ≤ 0 → l ≡ []
no_bytes [] h = refl
no_bytes (b ∷ l) h = absurd (omega arith)

nothing_more : (p q : List ℕ) → begins p q ≡ true → (length q < length p → ⊥) → length (rest q p) ≤ 0
nothing_more p q h ends = elim (cases_lt (length q) (length p)) [
  | inl more ↦ absurd (ends more)
  | inr less ↦ omega (arith, length_rest q p h)
]

pub same_side : (q k p : List ℕ) → (begins p q ≡ true → length q < length p → ⊥) → is_lt (key_cmp (q ++ k) p) ≡ is_lt (key_cmp q p)
same_side q k p ends = elim (cases_Bool (begins p q)) [
  | inr outside ↦ ap is_lt (joined_other q k p outside)
  | inl inside ↦ (let none : rest q p ≡ [] = no_bytes (rest q p) (nothing_more p q inside (ends inside)) in
      subst (λ (l : List ℕ). is_lt (key_cmp (q ++ k) l) ≡ is_lt (key_cmp q l)) (sym (begins-is p q inside)) (same_side_in q k (rest q p) none))
]
