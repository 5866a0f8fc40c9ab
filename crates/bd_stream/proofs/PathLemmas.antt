-- The texts of paths that are put together.
use Rattle.std.proofs.Common.{◌≡◌, ◌≢◌, ℕ, ◌≤◌, List, [], ◌∷◌, ◌++◌, length, Bool, true, false, cond, Some, None, refl, sym, ap, ◌∙◌, arith}
use Rattle.std.specs.Prelude.{nat_le}
use Rattle.std.proofs.lemmas.Bool.{leb-true, and_left, le-leb}
use Rattle.bd_limits.specs.Limits.{path_limit}
use Rattle.bd_names.specs.Names.{AreNames, path_text, path_of, names_in}
use Rattle.bd_names.proofs.NamesLaws.{path_of-path_text, slashed-append}
use Rattle.bd_stream.specs.Importing.{short_path}

-- a path's text isn't empty
pub some_text : (p : List (List ℕ)) → 1 ≤ length (path_text p)
some_text [] = omega arith
some_text (n ∷ ns) = omega arith

-- a path of names is read from its text exactly where it is short
pub path_of-short : (p : List (List ℕ)) → AreNames p → path_of (path_text p) ≡ short_path p
path_of-short p h =
    let by : (t : Bool) → nat_le (length (path_text p)) path_limit ≡ t → path_of (path_text p) ≡ cond t (Some p) None = λ t. elim t as (λ t. nat_le (length (path_text p)) path_limit ≡ t → path_of (path_text p) ≡ cond t (Some p) None) [
      | true ↦ λ e. path_of-path_text p h (leb-true (length (path_text p)) path_limit e)
      | false ↦ λ e. ap (λ t. cond t (Some (names_in (path_text p))) None) (and_left _ _ e)
    ] in by (nat_le (length (path_text p)) path_limit) refl

-- the text of a path below another one
pub path_text-append : (p q : List (List ℕ)) → p ≢ [] → q ≢ [] → path_text (p ++ q) ≡ path_text p ++ path_text q
path_text-append [] q hp hq = absurd (hp refl)
path_text-append (n ∷ p) [] hp hq = absurd (hq refl)
path_text-append (n ∷ p) (m ∷ q) hp hq = slashed-append (n ∷ p) (m ∷ q)

-- what is read below a path is a path below it
pub joined_below : (p q : List (List ℕ)) (text : List ℕ) → AreNames (p ++ q) → p ≢ [] → q ≢ [] → text ≡ path_text p ++ path_text q → path_of text ≡ short_path (p ++ q)
joined_below p q text h hp hq e = ap path_of (e ∙ sym (path_text-append p q hp hq)) ∙ path_of-short (p ++ q) h

-- a path that has a text for a command is short
pub is_short : (p : List (List ℕ)) → length (path_text p) ≤ path_limit → short_path p ≡ Some p
is_short p h = ap (λ t. cond t (Some p) None) (le-leb (length (path_text p)) path_limit h)
