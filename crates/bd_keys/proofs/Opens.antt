-- Ranges whose keys all have one first byte: after it stand the keys of another range.
use Rattle.std.proofs.Common.{◌≡◌, ◌≢◌, ℕ, suc, ◌<◌, ◌≤◌, List, [], ◌∷◌, refl, sym, ap, ◌∙◌, inl, inr, arith, subst, Less, Greater, Ordering}
use Rattle.std.specs.Prelude.{Option, Some, None}
use Rattle.std.proofs.lemmas.Bool.{cases_lt, cases_order}
use Rattle.bd_keys.specs.Keys.{IsKey, key_cmp, IsBelowEnd, InRange}
use Rattle.bd_keys.proofs.Order.{first_less, first_same, first_more, not_below_nil}

-- the keys from a ∷ lo on and below hi are a, and after it those from lo on and below hi'
pub record Opens (a : ℕ) (lo : List ℕ) (hi hi' : Option (List ℕ)) : Type 0 where
  pub byte : a < 256
  pub inside : (k : List ℕ) → IsKey k → InRange (a ∷ lo) hi k → (l : List ℕ) × (k ≡ a ∷ l) × InRange lo hi' l
  pub outside : (l : List ℕ) → InRange lo hi' l → InRange (a ∷ lo) hi (a ∷ l)

-- a key from a ∷ lo on, whose first byte isn't above a
at_or_above : (a : ℕ) (lo : List ℕ) (c : ℕ) (k : List ℕ) → key_cmp (c ∷ k) (a ∷ lo) ≢ Less → c ≤ a → (c ≡ a) × (key_cmp k lo ≢ Less)
at_or_above a lo c k h le =
    elim (cases_order c a) [
      | inl e ↦ (e, λ below. h (subst (λ d. key_cmp (d ∷ k) (a ∷ lo) ≡ Less) (sym e) (first_same a k lo ∙ below)))
      | inr o ↦ elim o [
        | inl lt ↦ absurd (h (first_less c a k lo lt))
        | inr gt ↦ absurd (omega arith)
      ]
    ]

-- two different orders
pub more_not_less : {o : Ordering} → o ≡ Greater → o ≡ Less → ⊥
more_not_less more less = cc

-- a key whose first byte is above a isn't below the next byte alone
above_next : (a c : ℕ) (k : List ℕ) → a < c → key_cmp (c ∷ k) (suc a ∷ []) ≡ Less → ⊥
above_next a c k gt end =
    elim (cases_lt (suc a) c) [
      | inl h ↦ more_not_less (first_more c (suc a) k [] h) end
      | inr h ↦ let e : c ≡ suc a = omega arith in not_below_nil k (sym (first_same (suc a) k []) ∙ subst (λ d. key_cmp (d ∷ k) (suc a ∷ []) ≡ Less) e end)
    ]

-- where the end lets no first byte above a through
opens_if : (a : ℕ) (lo : List ℕ) (hi hi' : Option (List ℕ)) → a < 256
    → ((c : ℕ) (k : List ℕ) → c < 256 → IsBelowEnd (c ∷ k) hi → c ≤ a)
    → ((k : List ℕ) → IsBelowEnd (a ∷ k) hi → IsBelowEnd k hi')
    → ((k : List ℕ) → IsBelowEnd k hi' → IsBelowEnd (a ∷ k) hi)
    → Opens a lo hi hi'
opens_if a lo hi hi' ha bound down up =
    record {
      byte = ha;
      inside = λ k key range. elim k as (λ k. IsKey k → InRange (a ∷ lo) hi k → (l : List ℕ) × (k ≡ a ∷ l) × InRange lo hi' l) [
        | [] ↦ λ key range. absurd (range.0 refl)
        | c ∷ l ↦ λ key range.
            let at = at_or_above a lo c l range.0 (bound c l (key 0) range.1) in
            let end : IsBelowEnd (a ∷ l) hi = subst (λ d. IsBelowEnd (d ∷ l) hi) at.0 range.1 in
            (l, ap (λ d. d ∷ l) at.0, (at.1, down l end))
      ] key range;
      outside = λ l range. ((λ below. range.0 (sym (first_same a l lo) ∙ below)), up l range.1);
    }

-- the end has the same first byte
pub opens_same : (a : ℕ) (lo hi : List ℕ) → a < 256 → Opens a lo (Some (a ∷ hi)) (Some hi)
opens_same a lo hi ha =
    opens_if a lo (Some (a ∷ hi)) (Some hi) ha
    (λ c k fits end. elim (cases_lt a c) [ inl gt ↦ absurd (more_not_less (first_more c a k hi gt) end) | inr le ↦ le ])
    (λ k end. sym (first_same a k hi) ∙ end)
    (λ k end. first_same a k hi ∙ end)

-- the end is the next byte alone
pub opens_next : (a : ℕ) (lo : List ℕ) → a < 256 → Opens a lo (Some (suc a ∷ [])) None
opens_next a lo ha =
    opens_if a lo (Some (suc a ∷ [])) None ha
    (λ c k fits end. elim (cases_lt a c) [ inl gt ↦ absurd (above_next a c k gt end) | inr le ↦ le ])
    (λ k end. tt)
    (λ k end. first_less a (suc a) k [] (omega arith))

-- there is no end, and no byte above 255
pub opens_top : (lo : List ℕ) → Opens 255 lo None None
opens_top lo = opens_if 255 lo None None (omega arith) (λ c k fits end. omega arith) (λ k end. tt) (λ k end. tt)
