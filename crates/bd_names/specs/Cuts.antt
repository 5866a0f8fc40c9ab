-- Where the names of a path end in its text.
use Rattle.std.specs.Prelude.{◌≡◌, ℕ, ◌+◌, List, [], ◌∷◌, length, IsTrue}
use Rattle.bd_names.specs.Names.{is_path, names_in}

-- the places where names end that stand in a row, a slash between each two, from a place on
abbrev pub ends_from : ℕ → List (List ℕ) → List ℕ
ends_from at [] = []
ends_from at (n ∷ ns) = (at + length n) ∷ ends_from (at + length n + 1) ns

-- the text is a path, and the places are those where its names end
pub record IsCut (text cuts : List ℕ) : Type 0 where
  pub path : IsTrue (is_path text)
  pub ends : cuts ≡ ends_from 1 (names_in text)
