-- The keys at which a key map has what a tree has.
use Rattle.std.specs.Prelude.{◌≡◌, ℕ, ◌^◌, ◌<◌, ◌⊎◌, List, [], ◌∷◌, ◌++◌}
use Rattle.std.specs.Int.{w32}
use Rattle.bd_wire.specs.Numbers.{be}
use Rattle.bd_names.specs.Names.{AreNames, key_of}

-- the key of the record of a path
abbrev pub record_key : List (List ℕ) → List ℕ
record_key path = key_of path ++ 0 ∷ 0 ∷ []

-- what the keys of the blocks of a file begin with
abbrev pub blocks_prefix : List (List ℕ) → List ℕ
blocks_prefix path = key_of path ++ 0 ∷ 1 ∷ []

-- the key of a block of a file, counted from 0
abbrev pub block_key : List (List ℕ) → ℕ → List ℕ
block_key path i = key_of path ++ 0 ∷ 1 ∷ be w32 i

-- the key of a block of this path
abbrev pub IsBlockKey : List (List ℕ) → List ℕ → Type 0
IsBlockKey path k = (i : ℕ) × (i < 2 ^ 32) × (k ≡ block_key path i)

-- the key of a record or a block
abbrev pub IsEntryKey : List ℕ → Type 0
IsEntryKey k = (path : List (List ℕ)) × AreNames path × ((k ≡ record_key path) ⊎ IsBlockKey path k)
