-- Numbers as bytes, the highest byte first.
use Rattle.std.specs.Prelude.{ℕ, ◌^◌, ◌<◌, List, slice_index}
use Rattle.std.specs.Int.{Width, byte_len, to_be_bytes}
use Rattle.byteorder.specs.Endian.{big_number}

-- a number of the width, the highest byte first
unfoldable pub be : Width → ℕ → List ℕ
be w n = to_be_bytes w n

-- what the bytes of the width hold
abbrev pub FitsWidth : Width → ℕ → Type 0
FitsWidth w n = n < 256 ^ byte_len w

-- the number of the width that the first bytes encode
abbrev pub number_at : Width → List ℕ → ℕ
number_at w bytes = big_number (byte_len w) bytes

-- each of them is below 256
abbrev pub IsBytes : List ℕ → Type 0
IsBytes bytes = (i : ℕ) → slice_index bytes i < 256
