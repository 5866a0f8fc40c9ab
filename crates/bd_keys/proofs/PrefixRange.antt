-- The keys that begin with a prefix are a range.
use Rattle.std.proofs.Common.{◌≡◌, ℕ, zero, suc, ◌+◌, ◌<◌, ◌≤◌, List, [], ◌∷◌, ◌++◌, length, take, refl, sym, ap, ◌∙◌, arith, subst, drop, drop-cons, get_or, set, take-append-drop, add-one}
use Rattle.std.specs.Prelude.{Option, Some, None}
use Rattle.std.specs.List.{AllByRecursion}
use Rattle.std.proofs.lemmas.List.{get_or-take, get_or_default}
use Rattle.std.proofs.lemmas.Cmp.{nat_list_cmp_total}
use Rattle.bd_keys.specs.Keys.{IsKey, IsBelow, InRange, Begins, IsAboveAll, IsAfter, IsPrefixRange}
use Rattle.bd_keys.proofs.Order.{IsKey-rest, Begins-cons, Begins-uncons, not_below_itself, not_below_nil}
use Rattle.bd_keys.proofs.Opens.{Opens, opens_same, opens_next, opens_top}

-- a key begins with itself
Begins-itself : (k : List ℕ) → Begins k k
Begins-itself [] = refl
Begins-itself (a ∷ k) = Begins-cons a k k (Begins-itself k)

-- all keys begin with nothing
prefix_range-nil : IsPrefixRange [] None
prefix_range-nil = record { inside = λ k key begins. (not_below_nil k, tt); only = λ k key range. refl }

-- the empty key begins with no byte
nothing_begins : (a : ℕ) (p : List ℕ) → Begins [] (a ∷ p) → ⊥
nothing_begins a p h = cc

-- one byte more in front
prefix_range-cons : (a : ℕ) (p : List ℕ) (hi hi' : Option (List ℕ)) → Opens a p hi hi' → IsPrefixRange p hi' → IsPrefixRange (a ∷ p) hi
prefix_range-cons a p hi hi' opens range =
    record {
      inside = λ k key begins. elim k as (λ k. IsKey k → Begins k (a ∷ p) → InRange (a ∷ p) hi k) [
        | [] ↦ λ key begins. absurd (nothing_begins a p begins)
        | c ∷ l ↦ λ key begins.
            let parts = Begins-uncons c a l p begins in
            subst (λ d. InRange (a ∷ p) hi (d ∷ l)) (sym parts.0) (opens.outside l (range.inside l (IsKey-rest c l key) parts.1))
      ] key begins;
      only = λ k key within.
          let found = opens.inside k key within in
          let key' : IsKey found.0 = IsKey-rest a found.0 (subst IsKey found.1 key) in
          subst (λ k. Begins k (a ∷ p)) (sym found.1) (Begins-cons a found.0 p (range.only found.0 key' found.2));
    }

-- after bytes of 255 there is no end
prefix_range-tops : (p : List ℕ) → AllByRecursion (λ b. b ≡ 255) p → IsPrefixRange p None
prefix_range-tops [] h = prefix_range-nil
prefix_range-tops (b ∷ p) h = subst (λ d. IsPrefixRange (d ∷ p) None) (sym h.0) (prefix_range-cons 255 p None None (opens_top p) (prefix_range-tops p h.1))

-- the byte before them is one more at the end
prefix_range-next : (front : List ℕ) (b : ℕ) (tops : List ℕ) → IsKey front → b < 256 → AllByRecursion (λ c. c ≡ 255) tops → IsPrefixRange (front ++ b ∷ tops) (Some (front ++ suc b ∷ []))
prefix_range-next [] b tops hf hb ht = prefix_range-cons b tops (Some (suc b ∷ [])) None (opens_next b tops hb) (prefix_range-tops tops ht)
prefix_range-next (a ∷ front) b tops hf hb ht =
    prefix_range-cons a (front ++ b ∷ tops) (Some (a ∷ front ++ suc b ∷ [])) (Some (front ++ suc b ∷ []))
    (opens_same a (front ++ b ∷ tops) (front ++ suc b ∷ []) (hf 0)) (prefix_range-next front b tops (IsKey-rest a front hf) hb ht)

-- the last of n + 1 elements is another
take_more_set' : (p : List ℕ) (n y : ℕ) → n < length p → set (take (suc n) p) n y ≡ take n p ++ y ∷ []
take_more_set' (b ∷ p) zero y h = refl
take_more_set' (b ∷ p) (suc n) y h = ap (λ r. b ∷ r) (take_more_set' p n y (omega arith))
take_more_set' [] n y h = absurd (omega arith)

tops_after : (p : List ℕ) (n : ℕ) → ((i : ℕ) → n ≤ i → i < length p → get_or p i 0 ≡ 255) → AllByRecursion (λ b. b ≡ 255) (drop n p)
tops_after [] zero h = tt
tops_after [] (suc n) h = tt
tops_after (b ∷ p) zero h = (h 0 (omega arith) (omega arith), tops_after p zero (λ i le lt. h (suc i) (omega arith) (omega arith)))
tops_after (b ∷ p) (suc n) h = tops_after p n (λ i le lt. h (suc i) (omega arith) (omega arith))

IsKey-take : (n : ℕ) (p : List ℕ) → IsKey p → IsKey (take n p)
IsKey-take zero p h i = omega arith
IsKey-take (suc n) [] h i = omega arith
IsKey-take (suc n) (b ∷ p) h zero = h 0
IsKey-take (suc n) (b ∷ p) h (suc i) = IsKey-take n p (IsKey-rest b p h) i

-- where all are bytes of 255, there is no end
pub prefix_range-all : (p : List ℕ) → ((i : ℕ) → 0 ≤ i → i < length p → get_or p i 0 ≡ 255) → IsPrefixRange p None
prefix_range-all p h = prefix_range-tops p (tops_after p zero h)

-- the end is one more at the last byte that isn't 255
pub prefix_range-kept : (p : List ℕ) (n : ℕ) → IsKey p → n < length p → ((i : ℕ) → suc n ≤ i → i < length p → get_or p i 0 ≡ 255) → IsPrefixRange p (Some (set (take (suc n) p) n (suc (get_or p n 0))))
prefix_range-kept p n key lt tops =
    let b = get_or p n 0 in
    let split : take n p ++ b ∷ drop (suc n) p ≡ p = ap (λ r. take n p ++ r) (sym (drop-cons p n 0 lt)) ∙ take-append-drop n p in
    let end : set (take (suc n) p) n (suc b) ≡ take n p ++ suc b ∷ [] = take_more_set' p n (suc b) lt in
    subst (λ q. IsPrefixRange p (Some q)) (sym end)
    (subst (λ p'. IsPrefixRange p' (Some (take n p ++ suc b ∷ []))) split
    (prefix_range-next (take n p) b (drop (suc n) p) (IsKey-take n p key) (key n) (tops_after p (suc n) tops)))

-- the same, of what the code reads and writes
pub prefix_range-found : (p items : List ℕ) (kept n x : ℕ) → IsKey p → kept ≡ suc n → kept ≤ length p
    → ((i : ℕ) → kept ≤ i → i < length p → get_or p i 0 ≡ 255) → items ≡ take kept p → x ≡ get_or items n x
    → IsPrefixRange p (Some (set items n (x + 1)))
prefix_range-found p items kept n x key e le tops made read =
    let lt : n < length p = omega arith in
    let read' : x ≡ get_or p n 0 =
    read ∙ ap (λ l. get_or l n x) made ∙ get_or-take kept p n x (omega arith) ∙ get_or_default p n x 0 lt in
    let end : set items n (x + 1) ≡ set (take (suc n) p) n (suc (get_or p n 0)) =
    ap (λ l. set l n (x + 1)) (made ∙ ap (λ m. take m p) e) ∙ ap (set (take (suc n) p) n) (add-one x ∙ ap suc read') in
    subst (λ q. IsPrefixRange p (Some q)) (sym end) (prefix_range-kept p n key lt (λ i h l. tops i (omega arith) l))

-- the end of the range is the least key above it
pub IsAfter-prefix_range : (p q : List ℕ) → IsKey p → IsPrefixRange p (Some q) → IsAfter p q
IsAfter-prefix_range p q key range =
    record {
      above = λ k hk begins. (range.inside k hk begins).1;
      least = λ l hl above below.
          let greater : IsBelow p l = above p key (Begins-itself p) in
          let within : InRange p (Some q) l = ((λ under. not_below_itself p (nat_list_cmp_total.trans p l p greater under)), below) in
          not_below_itself l (above l hl (range.only l hl within));
    }

-- where the range has no end, no key is above it
pub none_above : (p : List ℕ) → IsKey p → IsPrefixRange p None → (l : List ℕ) → IsKey l → IsAboveAll l p → ⊥
none_above p key range l hl above =
    let greater : IsBelow p l = above p key (Begins-itself p) in
    let within : InRange p None l = ((λ under. not_below_itself p (nat_list_cmp_total.trans p l p greater under)), tt) in
    not_below_itself l (above l hl (range.only l hl within))
