-- How the lines that are written to a sink are counted, byte by byte.
use Rattle.std.specs.Prelude.{ℕ, Bool, false, not, List, [], ◌∷◌, ◌++◌, ◌==◌, codes, decimal, if◌then◌else◌}
use Rattle.std.specs.List.{fold}
use Rattle.bd_io.specs.Cause.{next_count}
use Rattle.bd_fill.specs.declared.tally.Tally.{Tally}

-- one more where it is so
abbrev pub counted : Bool → ℕ → ℕ
counted so n = if so then next_count n else n

-- no line
abbrev pub no_lines : Tally
no_lines = record { lines = 0; accepted = 0; refused = 0; full = 0; unended = false }

-- a line begins with this byte: `o`, `n` or `f`
abbrev pub begun : Tally → ℕ → Tally
begun t b = record {
  lines = next_count t.lines;
  accepted = counted (b == 111) t.accepted;
  refused = counted (b == 110) t.refused;
  full = counted (b == 102) t.full;
  unended = not (b == 10);
}

-- a line goes on with this byte
abbrev pub gone_on : Tally → ℕ → Tally
gone_on t b = record t { unended = not (b == 10) }

-- one byte more
abbrev pub tally_byte : Tally → ℕ → Tally
tally_byte t b = if t.unended then gone_on t b else begun t b

-- the lines in these bytes, at the end of which one may be unended
unfoldable pub tally_of : List ℕ → Tally
tally_of bytes = fold tally_byte no_lines bytes

-- the line that tells how many lines there are, and how many of them say `ok`, `no` and `full`
abbrev pub summary_line : ℕ → ℕ → ℕ → ℕ → List ℕ
summary_line lines accepted refused full =
    codes "fill " ++ decimal lines ++ codes " ok " ++ decimal accepted ++ codes " no " ++ decimal refused
    ++ codes " full " ++ decimal full ++ 10 ∷ []

-- that of a count
abbrev pub tally_line : Tally → List ℕ
tally_line t = summary_line t.lines t.accepted t.refused t.full
