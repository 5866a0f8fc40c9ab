-- The script that a seed makes, and what is left of it.
use Rattle.std.specs.Prelude.{ℕ, ◌-◌, List, [], ◌∷◌, ◌++◌, drop}
use Rattle.std.specs.List.{flat_map, range_with_len}
use Rattle.bd_script.specs.Generated.{Load, load, line_count, generated_line}

-- so many lines from an index on, each with its newline
abbrev pub lines_from : ℕ → ℕ → ℕ → List ℕ
lines_from seed index n = flat_map (λ i. generated_line seed i ++ 10 ∷ []) (range_with_len index n)

-- the script of a seed, with so many drawn lines
unfoldable pub generated_script : ℕ → ℕ → List ℕ
generated_script seed count = lines_from seed 0 (line_count (load seed count))

-- what is left of a script: the rest of a line, from a place in it on, and the lines from the next
-- one on
unfoldable pub unread : List ℕ → ℕ → ℕ → Load → List ℕ
unread line at next script =
    drop at line ++ lines_from script.seed next (line_count script - next)
