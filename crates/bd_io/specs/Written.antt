-- What was written to a sink, where that is known.
use Rattle.std.specs.Prelude.{◌≡◌, ℕ, ◌<◌, List, Option, ◌++◌, length}
use Rattle.std.specs.Io.KnownBytes.{append_known}

-- of these bytes all but the last ones, `rest`, were written after the known ones
abbrev pub WroteAllBut : List ℕ → List ℕ → Option (List ℕ) → Option (List ℕ) → Type 0
WroteAllBut rest bytes old new =
    (front : List ℕ) × (bytes ≡ front ++ rest) × (new ≡ append_known old front)

-- of these bytes some were written, from the first on and not all
abbrev pub WrotePart : List ℕ → Option (List ℕ) → Option (List ℕ) → Type 0
WrotePart bytes old new = (rest : List ℕ) × (0 < length rest) × WroteAllBut rest bytes old new
