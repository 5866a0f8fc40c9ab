-- Names, paths, their text and their keys. A path is seen as the list of its names, and `/` as the
-- empty list.
use Rattle.std.specs.Prelude.{ℕ, Bool, false, not, ◌&&◌, ◌||◌, List, [], ◌∷◌, ◌++◌, length, nat_eq, nat_le, ◌==◌, if◌then◌else◌, is_some, IsTrue}
use Rattle.std.specs.List.{slice_split, list_all, flat_map}
use Rattle.std.specs.declared.option.Option.{Option}
use Rattle.std.specs.declared.option.Option.TheVariants.{None, Some}
use Rattle.std.specs.Cmp.Lexicographic.{pointwise}
use Rattle.bd_limits.specs.Limits.{path_limit, name_limit}

-- two texts are the same bytes
abbrev pub same_text : List ℕ → List ℕ → Bool
same_text a b = pointwise nat_eq a b

-- a byte that a name may have: 0x21 to 0xFF, and neither a slash nor 0x7F
abbrev pub is_name_byte : ℕ → Bool
is_name_byte b = nat_le 33 b && (nat_le b 255 && (not (b == 47) && not (b == 127)))

-- `.` or `..`
abbrev pub is_dots : List ℕ → Bool
is_dots n = same_text n (46 ∷ []) || same_text n (46 ∷ 46 ∷ [])

-- 1 to 255 such bytes, which are not `.` or `..`
abbrev pub is_name : List ℕ → Bool
is_name n =
    nat_le 1 (length n)
    && (nat_le (length n) name_limit && (list_all is_name_byte n && not (is_dots n)))

-- each of them is a name
abbrev pub AreNames : List (List ℕ) → Type 0
AreNames names = IsTrue (list_all is_name names)

-- `/`, or each name after a slash
abbrev pub path_text : List (List ℕ) → List ℕ
path_text [] = 47 ∷ []
path_text (n ∷ ns) = flat_map (λ m. 47 ∷ m) (n ∷ ns)

-- the names in a text: none where it is one byte long, else what stands between the slashes after
-- its first byte
abbrev pub names_in : List ℕ → List (List ℕ)
names_in [] = []
names_in (b ∷ []) = []
names_in (b ∷ c ∷ bs) = slice_split (λ x. x == 47) (c ∷ bs)

abbrev pub begins_with_slash : List ℕ → Bool
begins_with_slash [] = false
begins_with_slash (b ∷ bs) = b == 47

-- a path of at most 512 bytes
abbrev pub is_path : List ℕ → Bool
is_path text =
    nat_le (length text) path_limit
    && (begins_with_slash text && list_all is_name (names_in text))

-- the path that a text is, if it is one
abbrev pub path_of : List ℕ → Option (List (List ℕ))
path_of text = if is_path text then Some (names_in text) else None

-- the key of a path: each of its names, and a zero byte after it
abbrev pub key_of : List (List ℕ) → List ℕ
key_of names = flat_map (λ n. n ++ 0 ∷ []) names

-- what follows `of` in a path that is `of` or below it
abbrev pub rest_below : List (List ℕ) → List (List ℕ) → Option (List (List ℕ))
rest_below [] path = Some path
rest_below (n ∷ of) [] = None
rest_below (n ∷ of) (m ∷ path) = if same_text n m then rest_below of path else None

-- a path is `of` or below it
abbrev pub is_under : List (List ℕ) → List (List ℕ) → Bool
is_under of path = is_some (rest_below of path)

-- a name in front of a path
abbrev pub below_name : List ℕ → Option (List (List ℕ)) → Option (List (List ℕ))
below_name n None = None
below_name n (Some path) = Some (n ∷ path)

-- a path without its last name; `/` has none
abbrev pub parent_of : List (List ℕ) → Option (List (List ℕ))
parent_of [] = None
parent_of (n ∷ []) = Some []
parent_of (n ∷ m ∷ ns) = below_name n (parent_of (m ∷ ns))
