-- Which keys a cut takes.
use Rattle.std.proofs.Common.{◌≡◌, ℕ, true, false, not, ◌&&◌, List, [], ◌∷◌, ◌++◌, refl, sym, ap, subst, ◌∙◌, arith, inl, inr, Ordering}
use Rattle.std.specs.Prelude.{Bool}
use Rattle.std.specs.Ordering.{is_lt}
use Rattle.std.proofs.lemmas.Bool.{cases_Bool, cases_lt}
use Rattle.bd_keys.specs.Keys.{key_cmp, IsBelow, IsAtLeast}
use Rattle.bd_keys.proofs.Order.{first_less, first_same, first_more}
use Rattle.bd_message.specs.Effect.{begins, rest, is_cut}
use Rattle.bd_message.proofs.Finds.{begins-is, begins-append, not_both}
use Rattle.bd_node.proofs.Edges.{not_less_lt}

-- after the same bytes the rest decides
pub cmp-after : (p k l : List ℕ) → key_cmp (p ++ k) (p ++ l) ≡ key_cmp k l
cmp-after [] k l = refl
cmp-after (b ∷ p) k l = first_same b (p ++ k) (p ++ l) ∙ cmp-after p k l

pub cmp-begun : (p from k : List ℕ) → begins k p ≡ true → key_cmp k (p ++ from) ≡ key_cmp (rest p k) from
cmp-begun p from k begun = ap (λ (l : List ℕ). key_cmp l (p ++ from)) (begins-is k p begun) ∙ cmp-after p (rest p k) from

-- a key of the prefix that isn't below the first one
pub is_cut-from : (p from k : List ℕ) → begins k p ≡ true → IsAtLeast k (p ++ from) → is_cut p from k ≡ true
is_cut-from p from k begun least =
    ap (λ (b : Bool). b && not (is_lt (key_cmp (rest p k) from))) begun
    ∙ ap (λ (b : Bool). not b) (not_less_lt (key_cmp (rest p k) from) (λ less. least (cmp-begun p from k begun ∙ less)))

-- what is cut begins with the prefix
pub is_cut-begun : (p from k : List ℕ) → is_cut p from k ≡ true → begins k p ≡ true
is_cut-begun p from k cut =
    elim (cases_Bool (begins k p)) [
      | inl begun ↦ begun
      | inr outside ↦ absurd (not_both cut (ap (λ (b : Bool). b && not (is_lt (key_cmp (rest p k) from))) outside))
    ]

-- one that is no key of the prefix
pub is_cut-outside : (p from k : List ℕ) → begins k p ≡ false → is_cut p from k ≡ false
is_cut-outside p from k outside = ap (λ (b : Bool). b && not (is_lt (key_cmp (rest p k) from))) outside

-- one below the first
pub is_cut-below : (p from k : List ℕ) → IsBelow k (p ++ from) → is_cut p from k ≡ false
is_cut-below p from k below =
    elim (cases_Bool (begins k p)) [
      | inl begun ↦
          ap (λ (b : Bool). b && not (is_lt (key_cmp (rest p k) from))) begun
          ∙ ap (λ (o : Ordering). not (is_lt o)) (sym (cmp-begun p from k begun) ∙ below)
      | inr outside ↦ is_cut-outside p from k outside
    ]

-- between two keys of a prefix there are keys of the prefix alone
between : (p x y k : List ℕ) → IsAtLeast k (p ++ x) → IsBelow k (p ++ y) → (z : List ℕ) × (k ≡ p ++ z)
between [] x y k least below = (k, refl)
between (b ∷ p) x y [] least below = absurd (least refl)
between (b ∷ p) x y (a ∷ k) least below =
    elim (cases_lt a b) as (λ _. (z : List ℕ) × (a ∷ k ≡ b ∷ (p ++ z))) [
      | inl low ↦ absurd (least (first_less a b k (p ++ x) low))
      | inr high ↦ elim (cases_lt b a) as (λ _. (z : List ℕ) × (a ∷ k ≡ b ∷ (p ++ z))) [
        | inl more ↦ absurd (let e = first_more a b k (p ++ y) more in (cc))
        | inr le ↦ (let same : a ≡ b = omega arith in
            let found = between p x y k
            (λ less. least (ap (λ (c : ℕ). key_cmp (c ∷ k) (b ∷ p ++ x)) same ∙ first_same b k (p ++ x) ∙ less))
            (sym (first_same b k (p ++ y)) ∙ sym (ap (λ (c : ℕ). key_cmp (c ∷ k) (b ∷ p ++ y)) same) ∙ below) in
            (found.0, λ i. same i ∷ found.1 i))
      ]
    ]

-- past a key that isn't below the prefix's keys, and isn't one of them, there are none of them
pub none_begins : (p x k l : List ℕ) → begins k p ≡ false → IsAtLeast k (p ++ x) → IsBelow k l → begins l p ≡ false
none_begins p x k l outside least below =
    elim (cases_Bool (begins l p)) [
      | inl begun ↦ (let found = between p x (rest p l) k least (subst (λ (m : List ℕ). IsBelow k m) (begins-is l p begun) below) in
          absurd (not_both (subst (λ (m : List ℕ). begins m p ≡ true) (sym found.1) (begins-append p found.0)) outside))
      | inr other ↦ other
    ]
