-- How much is kept of look-ups.
use Rattle.std.specs.Prelude.{ℕ, ◌+◌, List, length, Option, None, Some, nat_lt, if◌then◌else◌}
use Rattle.std.specs.List.{sum_by}
use Rattle.std.specs.declared.alloc.Global.{Global}
use Rattle.std.specs.declared.vec.Vec.{Vec}

-- a key, and the value that was found at it or that none was
abbrev pub Found : Type 0
Found = List ℕ × Option (List ℕ)

-- what was found at keys, in their order
abbrev pub Findings : Type 0
Findings = List Found

-- how many bytes all that is kept counts at most
abbrev pub bytes_limit : ℕ
bytes_limit = 8388608

-- how many bytes a value has at most that is kept
abbrev pub value_limit : ℕ
value_limit = 64

-- below how many bytes a key and its value lie in the entry's own place
abbrev pub near_limit : ℕ
near_limit = 31

-- what an entry counts whose bytes lie in its own place
abbrev pub near_size : ℕ
near_size = 72

-- what another entry counts beside its bytes
abbrev pub far_base : ℕ
far_base = 96

-- how many bytes a value has, none where there is none
abbrev pub value_size : Option (List ℕ) → ℕ
value_size None = 0
value_size (Some value) = length value

-- how many bytes an entry counts that has this many
abbrev pub counted : ℕ → ℕ
counted size = if nat_lt size near_limit then near_size else far_base + size

-- how many bytes an entry counts
abbrev pub entry_size : List ℕ → Option (List ℕ) → ℕ
entry_size key value = counted (length key + value_size value)

-- the bytes of a value that was found, where one was
abbrev pub bytes_of : Option (Vec ℕ Global) → Option (List ℕ)
bytes_of None = None
bytes_of (Some value) = Some value.items

-- how many bytes what was kept for a key counts, none where nothing was
abbrev pub size_before : Option Found → ℕ
size_before None = 0
size_before (Some found) = entry_size found.0 found.1

-- how many bytes all that is kept counts
abbrev pub bytes_kept : Findings → ℕ
bytes_kept fs = sum_by (λ f. entry_size f.0 f.1) fs
