-- How long a generated script is at most.
use Rattle.std.proofs.Common.{ℕ, zero, suc, ◌+◌, ◌*◌, ◌≤◌, [], ◌∷◌, ◌++◌, length, length-append, arith}
use Rattle.bd_script.specs.Generated.{generated_line, line_count, load}
use Rattle.bd_script.proofs.GeneratedShort.{line_short}
use Rattle.bd_fill.specs.Scripts.{generated_script, lines_from}

lines_short : (seed i n : ℕ) → length (lines_from seed i n) ≤ 121 * n
lines_short seed i zero = omega arith
lines_short seed i (suc n) =
    omega (arith, length-append (generated_line seed i ++ 10 ∷ []) (lines_from seed (i + 1) n), length-append (generated_line seed i) (10 ∷ []), line_short seed i, lines_short seed (i + 1) n)

-- each line has at most 121 bytes with its newline
pub script_short : (seed count : ℕ) → length (generated_script seed count) ≤ 121 * (8 + count)
unfolding generated_script
script_short seed count = omega (arith, lines_short seed 0 (line_count (load seed count)))
