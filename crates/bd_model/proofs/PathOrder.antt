-- The order of paths, and when two paths are one.
use Rattle.std.proofs.Common.{◌≡◌, ◌≢◌, ℕ, Bool, true, false, List, ◌++◌, ◌⊎◌, inl, inr, ap, subst}
use Rattle.std.specs.Cmp.{IsTotalOrder, Equal-is, tied_itself, both_ways}
use Rattle.std.specs.Ordering.{is_eq, eq_by_cmp}
use Rattle.std.specs.FinMap.{IsAntisymmetric, nat_cmp-IsAntisymmetric, slice_cmp-IsAntisymmetric}
use Rattle.std.proofs.lemmas.Cmp.{lists_total, nat_list_cmp_total}
use Rattle.std.proofs.lemmas.Bool.{cases_Bool, false_from_ne_true, both_ways as contradict}
use Rattle.std.proofs.lemmas.List.{append_cancel_left}
use Rattle.bd_model.specs.Tree.{path_cmp}

pub paths_total : IsTotalOrder path_cmp
paths_total = lists_total nat_list_cmp_total

-- paths that tie are one
pub paths_exact : IsAntisymmetric path_cmp
paths_exact = slice_cmp-IsAntisymmetric (slice_cmp-IsAntisymmetric nat_cmp-IsAntisymmetric)

-- whether two paths are one
abbrev pub same_path : List (List ℕ) → List (List ℕ) → Bool
same_path = eq_by_cmp path_cmp

pub same_path-true : (p q : List (List ℕ)) → same_path p q ≡ true → p ≡ q
same_path-true p q h = paths_exact p q ((Equal-is (path_cmp p q)).0 h)

pub same_path-refl : (p : List (List ℕ)) → same_path p p ≡ true
same_path-refl p = ap is_eq (tied_itself paths_total p)

pub same_path-equal : (p q : List (List ℕ)) → p ≡ q → same_path p q ≡ true
same_path-equal p q e = subst (λ (r : List (List ℕ)). same_path p r ≡ true) e (same_path-refl p)

pub same_path-false : (p q : List (List ℕ)) → p ≢ q → same_path p q ≡ false
same_path-false p q n = false_from_ne_true (same_path p q) (λ h. n (same_path-true p q h))

-- two paths are one or differ
pub one_or_apart : (p q : List (List ℕ)) → (p ≡ q) ⊎ (p ≢ q)
one_or_apart p q = by (cases_Bool (same_path p q))
  where
    by : (same_path p q ≡ true) ⊎ (same_path p q ≡ false) → (p ≡ q) ⊎ (p ≢ q)
    by (inl h) = inl (same_path-true p q h)
    by (inr h) = inr (λ same. contradict (same_path p q) h (same_path-equal p q same))

-- after two fronts, rests are told apart alike
pub same_path-fronts : (a b r s : List (List ℕ)) → same_path (b ++ r) (b ++ s) ≡ same_path (a ++ r) (a ++ s)
same_path-fronts a b r s = both_ways (same_path (b ++ r) (b ++ s)) (same_path (a ++ r) (a ++ s)) (moves b a) (moves a b)
  where
    moves : (x y : List (List ℕ)) → same_path (x ++ r) (x ++ s) ≡ true → same_path (y ++ r) (y ++ s) ≡ true
    moves x y h = same_path-equal (y ++ r) (y ++ s) (ap (λ (z : List (List ℕ)). y ++ z) (append_cancel_left x r s (same_path-true (x ++ r) (x ++ s) h)))
