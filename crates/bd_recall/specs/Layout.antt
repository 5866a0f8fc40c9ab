-- How a key and what was found at it lie in one byte string: a first byte, which is 0 where there is
-- no value and else one more than its length; the value; the key.
use Rattle.std.specs.Prelude.{ℕ, ◌+◌, ◌-◌, ◌≤◌, ◌==◌, max, List, length, take, drop, slice_index_or, Option, None, Some, [], if◌then◌else◌}

-- the first byte for a value
abbrev pub head_for : Option (List ℕ) → ℕ
head_for None = 0
head_for (Some value) = length value + 1

-- the bytes of a value, none where there is none
abbrev pub bytes_for : Option (List ℕ) → List ℕ
bytes_for None = []
bytes_for (Some value) = value

-- where the key begins
abbrev pub key_start : List ℕ → ℕ
key_start bytes = max 1 (slice_index_or bytes 0 0)

-- the key
abbrev pub key_in : List ℕ → List ℕ
key_in bytes = drop (key_start bytes) bytes

-- what was found
abbrev pub value_in : List ℕ → Option (List ℕ)
value_in bytes = if slice_index_or bytes 0 0 == 0 then None else Some (take (slice_index_or bytes 0 0 - 1) (drop 1 bytes))

-- there are as many bytes as the first one says
abbrev pub IsWhole : List ℕ → Type 0
IsWhole bytes = key_start bytes ≤ length bytes
