-- Where entries stand: parents, last names, and the places of a directory's names.
use Rattle.std.proofs.Common.{◌≡◌, ◌≢◌, ℕ, ◌<◌, ◌≤◌, List, [], ◌∷◌, ◌++◌, length, Bool, true, false, cond, Option, None, Some, refl, sym, ap, ◌∙◌, arith, append_assoc, append-nil, length-append}
use Rattle.std.specs.Prelude.{nat_le, IsSome, ◌↔◌, ◌&&◌}
use Rattle.std.specs.Option.{option_to_list}
use Rattle.std.proofs.lemmas.Bool.{leb-false, lt-leb}
use Rattle.bd_limits.specs.Limits.{path_limit}
use Rattle.bd_names.specs.Names.{is_name, AreNames, path_text, path_of, parent_of}
use Rattle.bd_names.proofs.NamesLaws.{parent_of-append, parent_of-some, path_of-path_text, is_name-length}
use Rattle.bd_stream.specs.Importing.{Path, magic, short_path}
use Rattle.bd_stream.specs.Exporting.{last_name, magic_before}
use Rattle.bd_stream.proofs.PathLemmas.{path_text-append, some_text}

-- the parent of a path below another one is below it too
pub parent_below : (top below around path : Path) → path ≡ top ++ below → parent_of below ≡ Some around → parent_of path ≡ Some (top ++ around)
parent_below top below around path is above =
    let cut = parent_of-some below around above in
    ap parent_of (is ∙ ap (λ (q : Path). top ++ q) cut.1 ∙ sym (append_assoc top around (cut.0 ∷ []))) ∙ parent_of-append (top ++ around) cut.0

-- the last name stands last
pub last_name-append : (p : Path) (n : List ℕ) → last_name (p ++ n ∷ []) ≡ Some n
last_name-append [] n = refl
last_name-append (m ∷ []) n = refl
last_name-append (m ∷ k ∷ p) n = last_name-append (k ∷ p) n

last_by : (o : Option (List ℕ)) (p front : Path) (count : ℕ) → p ≡ front ++ option_to_list o → (IsSome o ↔ (0 < count)) → count ≡ length p → o ≡ last_name p
last_by None [] front count is some size = refl
last_by None (n ∷ p) front count is some size = absurd (let e : false ≡ true = some.1 (omega arith) in cc)
last_by (Some n) p front count is some size = sym (ap last_name is ∙ last_name-append front n)

-- what is taken off the end of the names of a path is its last one
pub last_popped : (o : Option (List ℕ)) (p items front : Path) (count : ℕ) → items ≡ p → items ≡ front ++ option_to_list o → (IsSome o ↔ (0 < count)) → count ≡ length items → o ≡ last_name p
last_popped o p items front count same is some size = last_by o p front count (sym same ∙ is) some (size ∙ ap length same)

-- ---- long paths

-- a path below another one has a text that is as long at least
pub text_by : (top p : Path) → length (path_text p) ≤ length (path_text (top ++ p))
text_by [] p = omega arith
text_by (n ∷ top) [] = some_text (n ∷ top ++ [])
text_by (n ∷ top) (m ∷ p) = omega (arith, ap length (path_text-append (n ∷ top) (m ∷ p) (λ e. cc) (λ e. cc)), length-append (path_text (n ∷ top)) (path_text (m ∷ p)))

-- and so has one above another one
pub text_front : (p q : Path) → length (path_text p) ≤ length (path_text (p ++ q))
text_front [] q = some_text q
text_front (n ∷ p) [] = omega (arith, ap (λ (r : Path). length (path_text r)) (append-nil (n ∷ p)))
text_front (n ∷ p) (m ∷ q) = omega (arith, ap length (path_text-append (n ∷ p) (m ∷ q) (λ e. cc) (λ e. cc)), length-append (path_text (n ∷ p)) (path_text (m ∷ q)))

-- a path isn't short
pub is_long_path : (p : Path) → short_path p ≡ None → path_limit < length (path_text p)
is_long_path p h = by (nat_le (length (path_text p)) path_limit) refl h
  where
    by : (t : Bool) → nat_le (length (path_text p)) path_limit ≡ t → cond t (Some p) None ≡ None → path_limit < length (path_text p)
    by true e h = cc
    by false e h = leb-false (length (path_text p)) path_limit e

pub long_path : (p : Path) → path_limit < length (path_text p) → short_path p ≡ None
long_path p h = ap (λ (t : Bool). cond t (Some p) None) (lt-leb (length (path_text p)) path_limit h)

-- what stands below another path is as long at least
pub long_below : (top p : Path) → short_path p ≡ None → short_path (top ++ p) ≡ None
long_below top p h = long_path (top ++ p) (omega (arith, is_long_path p h, text_by top p))

-- a path that is short is itself
pub short_same : (p q : Path) → short_path p ≡ Some q → p ≡ q
short_same p q h = by (nat_le (length (path_text p)) path_limit) h
  where
    by : (t : Bool) → cond t (Some p) None ≡ Some q → p ≡ q
    by true e = cc
    by false e = cc

-- ---- a name as a path

pub one_name : (n : List ℕ) → is_name n ≡ true → path_of (47 ∷ n) ≡ Some (n ∷ [])
one_name n h =
    let size = is_name-length n h in
    let text : 47 ∷ n ≡ path_text (n ∷ []) = sym (append-nil (47 ∷ n)) in
    let names : AreNames (n ∷ []) = ap (λ (t : Bool). t && true) h in
    ap path_of text ∙ path_of-path_text (n ∷ []) names (omega (arith, size, ap length text))

-- ---- the exported path

-- a path without a last name is `/`
pub no_last_name : (p : Path) → last_name p ≡ None → p ≡ []
no_last_name [] h = refl
no_last_name (n ∷ []) h = cc
no_last_name (n ∷ m ∷ p) h = absurd (let e : m ∷ p ≡ [] = no_last_name (m ∷ p) h in cc)

-- the stream's first bytes stand before its entry
pub magic_first : (p : Path) → p ≡ [] → magic_before p ≡ magic
magic_first p h = ap magic_before h

-- and before no other
pub magic_later : (p : Path) → p ≢ [] → magic_before p ≡ []
magic_later [] h = absurd (h refl)
magic_later (n ∷ p) h = refl
