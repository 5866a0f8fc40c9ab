-- How many bytes the keys of a range have in common.
use Rattle.std.proofs.Common.{◌≡◌, ℕ, suc, ◌+◌, ◌<◌, ◌≤◌, List, [], ◌∷◌, length, take, drop, refl, sym, ap, ◌∙◌, arith, subst, cond, true, false, inl, inr, eqb}
use Rattle.std.specs.Prelude.{Option, Some, None}
use Rattle.std.specs.List.{prefix_len, common_prefix_len, zip}
use Rattle.std.proofs.lemmas.Bool.{cases_eq, cases_order}
use Rattle.std.proofs.lemmas.Bool.Decides.{nat_tests}
use Rattle.bd_keys.specs.Keys.{IsKey, IsBelow, IsBelowEnd, Begins, IsCommon, IsLift}
use Rattle.bd_keys.specs.Apart.{is_top, lift_apart}
use Rattle.bd_keys.proofs.Order.{IsKey-rest, IsKey-cons, IsKey-nil, Begins-cons, Begins-uncons, not_below_itself, not_below_nil, first_less, first_same, first_more}
use Rattle.bd_keys.proofs.Opens.{Opens, more_not_less, opens_same, opens_next, opens_top}

-- one byte more in common
lift-cons : (a : ℕ) (lo : List ℕ) (hi hi' : Option (List ℕ)) (n : ℕ) → Opens a lo hi hi' → IsLift lo hi' n → IsLift (a ∷ lo) hi (suc n)
lift-cons a lo hi hi' n opens lift =
    record {
      within = omega (arith, lift.within);
      common = λ k key range.
          let found = opens.inside k key range in
          let key' : IsKey found.0 = IsKey-rest a found.0 (subst IsKey found.1 key) in
          subst (λ k. Begins k (a ∷ take n lo)) (sym found.1) (Begins-cons a found.0 (take n lo) (lift.common found.0 key' found.2));
      longest = λ p common. elim p as (λ p. IsCommon (a ∷ lo) hi p → length p ≤ suc n) [
        | [] ↦ λ common. omega arith
        | d ∷ q ↦ λ common.
            let rest : IsCommon lo hi' q = λ k key range. (Begins-uncons a d k q (common (a ∷ k) (IsKey-cons a k opens.byte key) (opens.outside k range))).1 in
            omega (arith, lift.longest q rest)
      ] common;
    }

-- a key that begins with a prefix isn't empty unless the prefix is
Begins-nil : (p : List ℕ) → Begins [] p → length p ≤ 0
Begins-nil [] h = omega arith
Begins-nil (b ∷ p) h = cc

-- the empty key has nothing in common with any
lift-nil : (hi : Option (List ℕ)) → IsBelowEnd [] hi → IsLift [] hi 0
lift-nil hi below =
    record {
      within = omega arith;
      common = λ k key range. refl;
      longest = λ p common. Begins-nil p (common [] IsKey-nil ((λ h. not_below_nil [] h), below));
    }

-- where another key of the range has another first byte, nothing is in common
lift-stop : (a c : ℕ) (lo k : List ℕ) (hi : Option (List ℕ)) → a < c → IsKey (a ∷ lo) → IsBelowEnd (a ∷ lo) hi → IsKey (c ∷ k) → IsBelowEnd (c ∷ k) hi → IsLift (a ∷ lo) hi 0
lift-stop a c lo k hi lt key below key' below' =
    record {
      within = omega arith;
      common = λ l hl range. refl;
      longest = λ p common. elim p as (λ p. IsCommon (a ∷ lo) hi p → length p ≤ 0) [
        | [] ↦ λ common. omega arith
        | d ∷ q ↦ λ common.
            let one = Begins-uncons a d lo q (common (a ∷ lo) key ((λ h. not_below_itself (a ∷ lo) h), below)) in
            let other = Begins-uncons c d k q (common (c ∷ k) key' ((λ h. more_not_less (first_more c a k lo lt) h), below')) in
            absurd (omega (arith, one.0, other.0))
      ] common;
    }

suc_plus : (m n : ℕ) → suc m + n ≡ suc (m + n)
suc_plus m n = omega arith

zero_plus : (n : ℕ) → 0 + n ≡ n
zero_plus n = omega arith

prefix_len-top : (a : ℕ) (lo : List ℕ) → a ≡ 255 → prefix_len is_top (a ∷ lo) ≡ suc (prefix_len is_top lo)
prefix_len-top a lo e = rw e (omega arith)

prefix_len-other : (a : ℕ) (lo : List ℕ) → (a ≡ 255 → ⊥) → prefix_len is_top (a ∷ lo) ≡ 0
prefix_len-other a lo ne = let test : is_top a ≡ false = grind (arith, nat_tests) in rw test

-- without an end, it is the bytes of 255 at the front
pub lift-open : (lo : List ℕ) → IsKey lo → IsLift lo None (prefix_len is_top lo)
lift-open [] key = lift-nil None tt
lift-open (a ∷ lo) key =
    elim (cases_eq a 255) [
      | inl e ↦
          let rest = lift-open lo (IsKey-rest a lo key) in
          let whole : IsLift (a ∷ lo) None (suc (prefix_len is_top lo)) =
          subst (λ d. IsLift (d ∷ lo) None (suc (prefix_len is_top lo))) (sym e) (lift-cons 255 lo None None (prefix_len is_top lo) (opens_top lo) rest) in
          subst (IsLift (a ∷ lo) None) (sym (prefix_len-top a lo e)) whole
      | inr ne ↦
          let fits : a < 256 = key 0 in
          let above : IsKey (suc a ∷ []) = IsKey-cons (suc a) [] (omega arith) IsKey-nil in
          subst (IsLift (a ∷ lo) None) (sym (prefix_len-other a lo ne)) (lift-stop a (suc a) lo [] None (omega arith) key tt above tt)
    ]

lift_apart-is : (a b : ℕ) (lo hi : List ℕ) → a < b → IsKey (a ∷ lo) → IsKey (b ∷ hi) → IsLift (a ∷ lo) (Some (b ∷ hi)) (lift_apart (a ∷ lo) (b ∷ hi))
lift_apart-is a b lo (c ∷ hi) lt key key' =
    lift-stop a b lo [] (Some (b ∷ c ∷ hi)) lt key (first_less a b lo (c ∷ hi) lt) (IsKey-cons b [] (key' 0) IsKey-nil) (first_same b [] (c ∷ hi))
lift_apart-is a b lo [] lt key key' =
    elim (cases_eq (suc a) b) [
      | inl e ↦
          let count = prefix_len is_top lo in
          let test : eqb (a + 1) b ≡ true = grind (arith, nat_tests) in
          let value : lift_apart (a ∷ lo) (b ∷ []) ≡ suc count = rw test (omega arith) in
          let whole : IsLift (a ∷ lo) (Some (b ∷ [])) (suc count) =
          subst (λ d. IsLift (a ∷ lo) (Some (d ∷ [])) (suc count)) e (lift-cons a lo (Some (suc a ∷ [])) None count (opens_next a lo (key 0)) (lift-open lo (IsKey-rest a lo key))) in
          subst (IsLift (a ∷ lo) (Some (b ∷ []))) (sym value) whole
      | inr ne ↦
          let test : eqb (a + 1) b ≡ false = grind (arith, nat_tests) in
          let value : lift_apart (a ∷ lo) (b ∷ []) ≡ 0 = rw test in
          let fits : b < 256 = key' 0 in
          let between : IsKey (suc a ∷ []) = IsKey-cons (suc a) [] (omega arith) IsKey-nil in
          subst (IsLift (a ∷ lo) (Some (b ∷ []))) (sym value)
          (lift-stop a (suc a) lo [] (Some (b ∷ [])) (omega arith) key (first_less a b lo [] lt) between (first_less (suc a) b [] [] (omega arith)))
    ]

-- with an end: what the two have in common, and then
abbrev pub lift_after : ℕ → List ℕ → List ℕ → ℕ
lift_after same lo hi = same + lift_apart (drop same lo) (drop same hi)

abbrev pub lift_len : List ℕ → List ℕ → ℕ
lift_len lo hi = lift_after (common_prefix_len eqb lo hi) lo hi

lift_len-same : (a b : ℕ) (lo hi : List ℕ) → a ≡ b → lift_len (a ∷ lo) (b ∷ hi) ≡ suc (lift_len lo hi)
lift_len-same a b lo hi e =
    let test : eqb a b ≡ true = grind (arith, nat_tests) in
    let more : common_prefix_len eqb (a ∷ lo) (b ∷ hi) ≡ suc (common_prefix_len eqb lo hi) = rw test (omega arith) in
    ap (λ n. lift_after n (a ∷ lo) (b ∷ hi)) more ∙ suc_plus (common_prefix_len eqb lo hi) (lift_apart (drop (common_prefix_len eqb lo hi) lo) (drop (common_prefix_len eqb lo hi) hi))

lift_len-apart : (a b : ℕ) (lo hi : List ℕ) → a < b → lift_len (a ∷ lo) (b ∷ hi) ≡ lift_apart (a ∷ lo) (b ∷ hi)
lift_len-apart a b lo hi lt =
    let test : eqb a b ≡ false = grind (arith, nat_tests) in
    let none : common_prefix_len eqb (a ∷ lo) (b ∷ hi) ≡ 0 = rw test in
    ap (λ n. lift_after n (a ∷ lo) (b ∷ hi)) none ∙ zero_plus (lift_apart (a ∷ lo) (b ∷ hi))

pub lift-closed : (lo hi : List ℕ) → IsKey lo → IsKey hi → IsBelow lo hi → IsLift lo (Some hi) (lift_len lo hi)
lift-closed [] hi key key' below = lift-nil (Some hi) below
lift-closed (a ∷ lo) [] key key' below = absurd (not_below_nil (a ∷ lo) below)
lift-closed (a ∷ lo) (b ∷ hi) key key' below =
    elim (cases_order a b) [
      | inl e ↦
          let rest : IsBelow lo hi = sym (first_same a lo hi) ∙ subst (λ d. IsBelow (a ∷ lo) (d ∷ hi)) (sym e) below in
          let count = lift_len lo hi in
          let whole : IsLift (a ∷ lo) (Some (b ∷ hi)) (suc count) =
          subst (λ d. IsLift (a ∷ lo) (Some (d ∷ hi)) (suc count)) e
          (lift-cons a lo (Some (a ∷ hi)) (Some hi) count (opens_same a lo hi (key 0)) (lift-closed lo hi (IsKey-rest a lo key) (IsKey-rest b hi key') rest)) in
          subst (IsLift (a ∷ lo) (Some (b ∷ hi))) (sym (lift_len-same a b lo hi e)) whole
      | inr o ↦ elim o [
        | inl lt ↦ subst (IsLift (a ∷ lo) (Some (b ∷ hi))) (sym (lift_len-apart a b lo hi lt)) (lift_apart-is a b lo hi lt key key')
        | inr gt ↦ absurd (more_not_less (first_more a b lo hi gt) below)
      ]
    ]

-- how many places tie, as the pairs at the front
pub prefix_len-zip : (xs ys : List ℕ) → prefix_len (λ (p : ℕ × ℕ). eqb p.0 p.1) (zip xs ys) ≡ common_prefix_len eqb xs ys
prefix_len-zip [] ys = refl
prefix_len-zip (x ∷ xs) [] = refl
prefix_len-zip (x ∷ xs) (y ∷ ys) = ap (λ n. cond (eqb x y) (1 + n) 0) (prefix_len-zip xs ys)
