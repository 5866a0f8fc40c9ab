-- What the keys between two have in common after the bytes that the two have in common.
use Rattle.std.specs.Prelude.{◌+◌, ℕ, List, [], ◌∷◌, Bool, ◌==◌, if◌then◌else◌}
use Rattle.std.specs.List.{prefix_len}

-- no byte stands above it
abbrev pub is_top : ℕ → Bool
is_top b = b == 255

-- The first byte and the bytes of 255 after it, where the end is the next byte alone. Else another
-- first byte stands between.
abbrev pub lift_apart : List ℕ → List ℕ → ℕ
lift_apart [] hi = 0
lift_apart (a ∷ lo) [] = 0
lift_apart (a ∷ lo) (b ∷ []) = if a + 1 == b then 1 + prefix_len is_top lo else 0
lift_apart (a ∷ lo) (b ∷ c ∷ hi) = 0
