-- The order of paths, seen from a directory: what comes after it, and what stands in it.
use Rattle.std.proofs.Common.{◌≡◌, [], ◌∷◌, ◌++◌, Bool, true, false, cond, not, Option, None, Some, Less, Equal, Greater, refl, sym, ap, ◌∙◌}
use Rattle.std.specs.Prelude.{◌&&◌, ◌||◌, is_some}
use Rattle.std.specs.Ordering.{nat_cmp, is_lt, is_le, is_eq, ordering_then}
use Rattle.std.specs.Cmp.Lexicographic.{slice_cmp, texts_ties}
use Rattle.std.specs.declared.cmp.Ordering.{Ordering}
use Rattle.bd_names.specs.Names.{rest_below}
use Rattle.bd_model.specs.Tree.{Path, Name, path_cmp}
use Rattle.bd_stream.specs.Exports.{from, beyond, past}

abbrev pub name_cmp : Name → Name → Ordering
name_cmp = slice_cmp nat_cmp

-- what follows a directory in a path begins with a name that passes
abbrev pub begins_with : (Name → Bool) → Option Path → Bool
begins_with f None = false
begins_with f (Some []) = false
begins_with f (Some (k ∷ r)) = f k

-- a name is above one, where one is given
abbrev pub is_after : Option Name → Name → Bool
is_after None k = true
is_after (Some m) k = is_lt (name_cmp m k)

-- what comes after a directory, and what stands in it under a name that passes
abbrev pub left_in : (Name → Bool) → Path → Path → Bool
left_in f d p = past d p || begins_with f (rest_below d p)

and_false : (b : Bool) → (b && false) ≡ false
and_false true = refl
and_false false = refl

-- ---- beyond a directory

beyond_step : (o P : Ordering) (S : Option Path) (f : Name → Bool) → is_lt P ≡ ((is_lt P && not (is_some S)) || begins_with f S) → is_lt (ordering_then o P) ≡ ((is_lt (ordering_then o P) && not (is_some (cond (is_eq o) S None))) || begins_with f (cond (is_eq o) S None))
beyond_step Less P S f ih = refl
beyond_step Equal P S f ih = ih
beyond_step Greater P S f ih = refl

pub beyond_in : (d p : Path) → beyond d p ≡ left_in (is_after None) d p
beyond_in [] [] = refl
beyond_in [] (k ∷ r) = refl
beyond_in (a ∷ d) [] = refl
beyond_in (a ∷ d) (b ∷ p) =
    beyond_step (name_cmp a b) (path_cmp d p) (rest_below d p) (is_after None) (beyond_in d p)
    ∙ ap (λ (t : Bool). (is_lt (ordering_then (name_cmp a b) (path_cmp d p)) && not (is_some (cond t (rest_below d p) None))) || begins_with (is_after None) (cond t (rest_below d p) None)) (sym (texts_ties a b))

-- ---- past one of its names

past_step : (o P Q : Ordering) (R S : Option Path) (f : Name → Bool) → (is_lt P && not (is_some R)) ≡ ((is_lt Q && not (is_some S)) || begins_with f S) → (is_lt (ordering_then o P) && not (is_some (cond (is_eq o) R None))) ≡ ((is_lt (ordering_then o Q) && not (is_some (cond (is_eq o) S None))) || begins_with f (cond (is_eq o) S None))
past_step Less P Q R S f ih = refl
past_step Equal P Q R S f ih = ih
past_step Greater P Q R S f ih = refl

past_one : (o Q : Ordering) (r : Path) → (is_lt (ordering_then o Q) && not (is_some (cond (is_eq o) (Some r) None))) ≡ is_lt o
past_one Less Q r = refl
past_one Equal Q r = and_false (is_lt Q)
past_one Greater Q r = refl

pub past_in : (d p : Path) (m : Name) → past (d ++ m ∷ []) p ≡ left_in (is_after (Some m)) d p
past_in [] [] m = refl
past_in [] (k ∷ r) m =
    ap (λ (t : Bool). is_lt (ordering_then (name_cmp m k) (path_cmp [] r)) && not (is_some (cond t (Some r) None))) (texts_ties m k)
    ∙ past_one (name_cmp m k) (path_cmp [] r) r
past_in (a ∷ d) [] m = refl
past_in (a ∷ d) (b ∷ p) m =
    ap (λ (t : Bool). is_lt (ordering_then (name_cmp a b) (path_cmp (d ++ m ∷ []) p)) && not (is_some (cond t (rest_below (d ++ m ∷ []) p) None))) (texts_ties a b)
    ∙ past_step (name_cmp a b) (path_cmp (d ++ m ∷ []) p) (path_cmp d p) (rest_below (d ++ m ∷ []) p) (rest_below d p) (is_after (Some m)) (past_in d p m)
    ∙ ap (λ (t : Bool). (is_lt (ordering_then (name_cmp a b) (path_cmp d p)) && not (is_some (cond t (rest_below d p) None))) || begins_with (is_after (Some m)) (cond t (rest_below d p) None)) (sym (texts_ties a b))

-- ---- from one of its names on

abbrev pub is_from : Name → Name → Bool
is_from n k = is_le (name_cmp n k)

from_step : (o P Q : Ordering) (S : Option Path) (f : Name → Bool) → is_le P ≡ ((is_lt Q && not (is_some S)) || begins_with f S) → is_le (ordering_then o P) ≡ ((is_lt (ordering_then o Q) && not (is_some (cond (is_eq o) S None))) || begins_with f (cond (is_eq o) S None))
from_step Less P Q S f ih = refl
from_step Equal P Q S f ih = ih
from_step Greater P Q S f ih = refl

root_le : (r : Path) → is_le (path_cmp [] r) ≡ true
root_le [] = refl
root_le (k ∷ r) = refl

from_one : (o Q : Ordering) → is_le Q ≡ true → is_le (ordering_then o Q) ≡ is_le o
from_one Less Q h = refl
from_one Equal Q h = h
from_one Greater Q h = refl

pub from_in : (d p : Path) (n : Name) → from (d ++ n ∷ []) p ≡ left_in (is_from n) d p
from_in [] [] n = refl
from_in [] (k ∷ r) n = from_one (name_cmp n k) (path_cmp [] r) (root_le r)
from_in (a ∷ d) [] n = refl
from_in (a ∷ d) (b ∷ p) n =
    from_step (name_cmp a b) (path_cmp (d ++ n ∷ []) p) (path_cmp d p) (rest_below d p) (is_from n) (from_in d p n)
    ∙ ap (λ (t : Bool). (is_lt (ordering_then (name_cmp a b) (path_cmp d p)) && not (is_some (cond t (rest_below d p) None))) || begins_with (is_from n) (cond t (rest_below d p) None)) (sym (texts_ties a b))

-- all is at `/` or below it
pub past_root : (p : Path) → past [] p ≡ false
past_root p = and_false (is_lt (path_cmp [] p))

-- all comes not before `/`
pub from_root : (p : Path) → from [] p ≡ true
from_root p = root_le p
