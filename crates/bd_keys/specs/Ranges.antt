-- Ranges as sets of keys.
use Rattle.std.specs.Prelude.{ℕ, List}
use Rattle.bd_keys.specs.Keys.{InRange}
use Rattle.bd_keys.specs.declared.range.Range.{Range}

-- the key is one of the range's
abbrev pub Has : Range → List ℕ → Type 0
Has range key = InRange range.lo range.hi key
