-- Bytes after their length, and zeros.
use Rattle.std.specs.Prelude.{◌≡◌, ◌<◌, ◌^◌, ℕ, List, ◌++◌, length, replicate}
use Rattle.std.specs.Int.{w16}
use Rattle.bd_wire.specs.Numbers.{be}

-- a length of two bytes, and that many bytes
unfoldable pub text16 : List ℕ → List ℕ
text16 bytes = be w16 (length bytes) ++ bytes

-- what has a length of two bytes
abbrev pub FitsText16 : List ℕ → Type 0
FitsText16 bytes = length bytes < 2 ^ 16

-- as many zeros
abbrev pub zeros : ℕ → List ℕ
zeros count = replicate count 0

-- each of them is 0
abbrev pub AreZeros : List ℕ → Type 0
AreZeros bytes = bytes ≡ zeros (length bytes)
