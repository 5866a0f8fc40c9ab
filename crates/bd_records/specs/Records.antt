-- The values of a key map, and their encodings.
use Rattle.std.specs.Prelude.{◌≡◌, ◌≢◌, ◌≤◌, ℕ, zero, suc, List, [], ◌∷◌, ◌++◌, length, Option, Some, None}
use Rattle.std.specs.Int.{w16, w32}
use Rattle.bd_limits.specs.Limits.{file_limit, mode_limit, block_limit}
use Rattle.bd_wire.specs.Numbers.{be}
use Rattle.bd_records.specs.declared.Record.{Record}
use Rattle.bd_records.specs.declared.Record.TheVariants.{Dir, File}

-- the length of a file, at most 2^30, and a mode of twelve bits
abbrev pub IsLenMode : ℕ × ℕ → Type 0
IsLenMode v = (v.0 ≤ file_limit) × (v.1 ≤ mode_limit)

-- its numbers are within their limits
abbrev pub IsRecord : Record → Type 0
IsRecord (Dir mode) = mode ≤ mode_limit
IsRecord (File len mode) = IsLenMode (len, mode)

-- a mode in two bytes, and no byte where it is 0
abbrev pub mode_bytes : ℕ → List ℕ
mode_bytes zero = []
mode_bytes (suc n) = be w16 (suc n)

-- the length in four bytes, and then the mode
abbrev pub len_mode_bytes : ℕ × ℕ → List ℕ
len_mode_bytes v = be w32 v.0 ++ mode_bytes v.1

-- `D` and the mode, or `F`, the length and the mode
abbrev pub record_bytes : Record → List ℕ
record_bytes (Dir mode) = 68 ∷ mode_bytes mode
record_bytes (File len mode) = 70 ∷ len_mode_bytes (len, mode)

-- the bytes encode the record, or none where there is none
abbrev pub IsReadAs : List ℕ → Option Record → Type 0
IsReadAs bytes (Some r) = IsRecord r × (bytes ≡ record_bytes r)
IsReadAs bytes None = (r : Record) → IsRecord r → bytes ≢ record_bytes r

-- the same of a mode
abbrev pub IsModeReadAs : List ℕ → Option ℕ → Type 0
IsModeReadAs bytes (Some mode) = (mode ≤ mode_limit) × (bytes ≡ mode_bytes mode)
IsModeReadAs bytes None = (mode : ℕ) → mode ≤ mode_limit → bytes ≢ mode_bytes mode

-- the same of a length and a mode
abbrev pub IsLenModeReadAs : List ℕ → Option (ℕ × ℕ) → Type 0
IsLenModeReadAs bytes (Some v) = IsLenMode v × (bytes ≡ len_mode_bytes v)
IsLenModeReadAs bytes None = (v : ℕ × ℕ) → IsLenMode v → bytes ≢ len_mode_bytes v

-- a block stores 1 to 1,024 bytes
abbrev pub IsBlock : List ℕ → Type 0
IsBlock bytes = (1 ≤ length bytes) × (length bytes ≤ block_limit)
