-- The order of keys, and where the keys of records and blocks stand in it.
use Rattle.std.proofs.Common.{◌≡◌, ◌≢◌, ℕ, ◌<◌, ◌≤◌, true, List, [], ◌∷◌, ◌++◌, ◌⊎◌, inl, inr, Ordering, Less, Equal, Greater, refl, sym, ap, subst, ◌∙◌, arith, append_assoc, append-nil}
use Rattle.std.specs.Prelude.{not, ◌&&◌, ◌==◌, nat_le}
use Rattle.std.specs.Int.{w32}
use Rattle.std.specs.List.{list_all}
use Rattle.std.specs.Ordering.{ordering_reverse}
use Rattle.std.proofs.lemmas.Bool.{and_parts, leb-true, cases_order}
use Rattle.std.proofs.lemmas.Cmp.{nat_list_cmp_total as total}
use Rattle.bd_wire.specs.Numbers.{be}
use Rattle.bd_keys.specs.Keys.{key_cmp, IsBelow, IsAtLeast}
use Rattle.bd_keys.proofs.Order.{first_less, first_same, first_more, below_from, not_below_itself, key_cmp-front}
use Rattle.bd_names.specs.Names.{is_name, is_name_byte, AreNames, key_of}
use Rattle.bd_names.proofs.NamesLaws.{is_name-bytes, is_name-length}
use Rattle.bd_message.proofs.Finds.{tied}
use Rattle.bd_represent.specs.EntryKeys.{record_key, block_key}
use Rattle.bd_represent.proofs.KeyLemmas.{key_of-under, key_of-apart}
use Rattle.bd_dirs.proofs.ChildOrder.{next_key, name_cases, not_twice_below, child_key}

-- ---- any keys

-- a key is below another, or at least it
pub below_or_from : (k l : List ℕ) → (IsBelow k l) ⊎ (IsAtLeast k l)
below_or_from k l = by (key_cmp k l) refl
  where
    by : (o : Ordering) → key_cmp k l ≡ o → (IsBelow k l) ⊎ (IsAtLeast k l)
    by Less e = inl e
    by Equal e = inr (λ less. (let no : Equal ≡ Less = sym e ∙ less in cc))
    by Greater e = inr (λ less. (let no : Greater ≡ Less = sym e ∙ less in cc))

-- two keys are one or differ
pub one_or_other : (k l : List ℕ) → (k ≡ l) ⊎ (k ≢ l)
one_or_other k l = by (name_cases k l)
  where
    by : (IsBelow k l) ⊎ ((k ≡ l) ⊎ IsBelow l k) → (k ≡ l) ⊎ (k ≢ l)
    by (inl less) = inr (λ e. not_below_itself l (subst (λ (m : List ℕ). IsBelow m l) e less))
    by (inr (inl same)) = inl same
    by (inr (inr less)) = inr (λ e. not_below_itself l (subst (λ (m : List ℕ). IsBelow l m) e less))

-- two keys that are each at least the other are one
pub one_least : (k l : List ℕ) → IsAtLeast k l → IsAtLeast l k → k ≡ l
one_least k l from upto = by (key_cmp k l) refl
  where
    by : (o : Ordering) → key_cmp k l ≡ o → k ≡ l
    by Less e = absurd (from e)
    by Equal e = tied k l e
    by Greater e = absurd (upto (total.antisymm l k ∙ ap ordering_reverse e))

-- what is at least a key is at least what that one is at least
pub from_both : (k l m : List ℕ) → IsAtLeast k l → IsAtLeast l m → IsAtLeast k m
from_both k l m first second less = first (below_from k m l less second)

-- what is above a key is at least it
pub from_above : (k l : List ℕ) → IsBelow k l → IsAtLeast l k
from_above k l less more = not_twice_below k l less more

-- a key is below the next one
pub below_next : (k : List ℕ) → IsBelow k (k ++ 0 ∷ [])
below_next k = ap (λ (l : List ℕ). key_cmp l (k ++ 0 ∷ [])) (sym (append-nil k)) ∙ key_cmp-front k [] (0 ∷ [])

-- what is at least the next one is above the key
pub above_from_next : (k l : List ℕ) → IsAtLeast l (k ++ 0 ∷ []) → IsBelow k l
above_from_next k l from = below_from k (k ++ 0 ∷ []) l (below_next k) from

-- what is below the next one is no more than the key
pub upto_next : (k l : List ℕ) → IsBelow l (k ++ 0 ∷ []) → IsAtLeast k l
upto_next k l below less = next_key k l less below

-- a key between two that have one front begins with it
pub between : (p a b k : List ℕ) → IsAtLeast k (p ++ a) → IsBelow k (p ++ b) → (rest : List ℕ) × (k ≡ p ++ rest)
between [] a b k from below = (k, refl)
between (x ∷ p) a b [] from below = absurd (from refl)
between (x ∷ p) a b (c ∷ k) from below = by (cases_order c x) (between p a b k)
  where
    by : (c ≡ x) ⊎ ((c < x) ⊎ (x < c)) → (IsAtLeast k (p ++ a) → IsBelow k (p ++ b) → (rest : List ℕ) × (k ≡ p ++ rest)) → (rest : List ℕ) × (c ∷ k ≡ x ∷ (p ++ rest))
    by (inl same) ih =
        let later = ih
        (λ less. from (ap (λ (d : ℕ). key_cmp (d ∷ k) (x ∷ (p ++ a))) same ∙ first_same x k (p ++ a) ∙ less))
        (sym (first_same x k (p ++ b)) ∙ sym (ap (λ (d : ℕ). key_cmp (d ∷ k) (x ∷ (p ++ b))) same) ∙ below) in
        (later.0, ap (λ (d : ℕ). d ∷ k) same ∙ ap (λ (l : List ℕ). x ∷ l) later.1)
    by (inr (inl less)) ih = absurd (from (first_less c x k (p ++ a) less))
    by (inr (inr more)) ih = absurd (let no : Greater ≡ Less = sym (first_more c x k (p ++ b) more) ∙ below in cc)

-- ---- records and blocks

byte_above : (b : ℕ) → is_name_byte b ≡ true → 0 < b
byte_above b h =
    let least : 33 ≤ b = leb-true 33 b (and_parts (nat_le 33 b) (nat_le b 255 && (not (b == 47) && not (b == 127))) h).0 in
    omega arith

-- what begins with a zero byte is below what begins with a name
pub zero_named : (n x y : List ℕ) → is_name n ≡ true → IsBelow (0 ∷ x) (n ++ y)
zero_named [] x y h = absurd (omega (arith, (is_name-length [] h).0))
zero_named (b ∷ n) x y h = first_less 0 b x (n ++ y) (byte_above b (and_parts (is_name_byte b) (list_all is_name_byte n) (is_name-bytes (b ∷ n) h)).0)

-- the record of a path stands before its blocks
pub record_before : (p : List (List ℕ)) (i : ℕ) → IsBelow (record_key p) (block_key p i)
record_before p i =
    key_cmp-front (key_of p) (0 ∷ 0 ∷ []) (0 ∷ 1 ∷ be w32 i) ∙ first_same 0 (0 ∷ []) (1 ∷ be w32 i) ∙ first_less 0 1 [] (be w32 i) (omega arith)

-- and before those of its children
pub parent_before : (p : List (List ℕ)) (n : List ℕ) → is_name n ≡ true → IsBelow (record_key p) (record_key (p ++ n ∷ []))
parent_before p n named =
    ap (key_cmp (record_key p)) (child_key p n (0 ∷ 0 ∷ []))
    ∙ key_cmp-front (key_of p) (0 ∷ 0 ∷ []) (n ++ 0 ∷ 0 ∷ 0 ∷ []) ∙ zero_named n (0 ∷ []) (0 ∷ 0 ∷ 0 ∷ []) named

-- a record from that of a path on, below a block of it, is that path's
pub alone_between : (p q : List (List ℕ)) (i : ℕ) → AreNames p → AreNames q → IsAtLeast (record_key q) (record_key p) → IsBelow (record_key q) (block_key p i) → q ≡ p
alone_between p q i hp hq from below =
    let inside = between (key_of p ++ 0 ∷ []) (0 ∷ []) (1 ∷ be w32 i) (record_key q)
    (subst (λ (k : List ℕ). IsAtLeast (record_key q) k) (sym (append_assoc (key_of p) (0 ∷ []) (0 ∷ []))) from)
    (subst (λ (k : List ℕ). IsBelow (record_key q) k) (sym (append_assoc (key_of p) (0 ∷ []) (1 ∷ be w32 i))) below) in
    (key_of-apart q p (0 ∷ []) inside.0 hq hp (inside.1 ∙ append_assoc (key_of p) (0 ∷ []) inside.0)).0

-- a record from that of a path on, below that of a child of it, is of the path or of what is below it
pub below_between : (p q : List (List ℕ)) (n : List ℕ) → AreNames p → AreNames q → IsAtLeast (record_key q) (record_key p) → IsBelow (record_key q) (record_key (p ++ n ∷ []))
    → (below : List (List ℕ)) × (q ≡ p ++ below)
below_between p q n hp hq from below =
    let inside = between (key_of p) (0 ∷ 0 ∷ []) (n ++ 0 ∷ 0 ∷ 0 ∷ []) (record_key q) from
    (subst (λ (k : List ℕ). IsBelow (record_key q) k) (child_key p n (0 ∷ 0 ∷ [])) below) in
    let under = key_of-under p q inside.0 (0 ∷ []) hp hq inside.1 in
    (under.0, under.1)
