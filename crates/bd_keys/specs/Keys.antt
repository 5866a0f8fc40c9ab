-- Keys, their order, and sets of them.
use Rattle.std.specs.Prelude.{◌≡◌, ◌≢◌, ◌<◌, ◌≤◌, ℕ, List, length, take, slice_index, Option, Some, None, ⊤}
use Rattle.std.specs.declared.cmp.Ordering.{Ordering}
use Rattle.std.specs.declared.cmp.Ordering.TheVariants.{Less}
use Rattle.std.specs.Ordering.{nat_cmp}
use Rattle.std.specs.Cmp.Lexicographic.{slice_cmp}

-- a key is a list of bytes
abbrev pub IsKey : List ℕ → Type 0
IsKey k = (i : ℕ) → slice_index k i < 256

-- the order of keys is the order of their bytes
abbrev pub key_cmp : List ℕ → List ℕ → Ordering
key_cmp k l = slice_cmp nat_cmp k l

-- the first key is below the second
abbrev pub IsBelow : List ℕ → List ℕ → Type 0
IsBelow k l = key_cmp k l ≡ Less

-- the first key is the second or above it
abbrev pub IsAtLeast : List ℕ → List ℕ → Type 0
IsAtLeast k lo = key_cmp k lo ≢ Less

-- the key is below the end, if there is one
abbrev pub IsBelowEnd : List ℕ → Option (List ℕ) → Type 0
IsBelowEnd k None = ⊤
IsBelowEnd k (Some hi) = IsBelow k hi

-- the key is at least lo and below hi
abbrev pub InRange : List ℕ → Option (List ℕ) → List ℕ → Type 0
InRange lo hi k = IsAtLeast k lo × IsBelowEnd k hi

-- the key begins with the prefix
abbrev pub Begins : List ℕ → List ℕ → Type 0
Begins k prefix = take (length prefix) k ≡ prefix

-- the key is above all keys that begin with the prefix
abbrev pub IsAboveAll : List ℕ → List ℕ → Type 0
IsAboveAll k prefix = (l : List ℕ) → IsKey l → Begins l prefix → IsBelow l k

-- the key is the least of those above all keys that begin with the prefix
pub record IsAfter (prefix k : List ℕ) : Type 0 where
  pub above : IsAboveAll k prefix
  pub least : (l : List ℕ) → IsKey l → IsAboveAll l prefix → IsAtLeast l k

-- the keys that begin with the prefix are just those that are at least it and below the end
pub record IsPrefixRange (prefix : List ℕ) (hi : Option (List ℕ)) : Type 0 where
  pub inside : (k : List ℕ) → IsKey k → Begins k prefix → InRange prefix hi k
  pub only : (k : List ℕ) → IsKey k → InRange prefix hi k → Begins k prefix

-- each key of the range begins with the prefix
abbrev pub IsCommon : List ℕ → Option (List ℕ) → List ℕ → Type 0
IsCommon lo hi prefix = (k : List ℕ) → IsKey k → InRange lo hi k → Begins k prefix

-- so many bytes have all keys of the range in common, and no more
pub record IsLift (lo : List ℕ) (hi : Option (List ℕ)) (n : ℕ) : Type 0 where
  pub within : n ≤ length lo
  pub common : IsCommon lo hi (take n lo)
  pub longest : (prefix : List ℕ) → IsCommon lo hi prefix → length prefix ≤ n
