-- Bytes cut, extended and overwritten.
use Rattle.std.specs.Prelude.{ℕ, ◌+◌, ◌-◌, List, ◌++◌, length, take, drop, replicate}

-- cut, or extended with zeros, to a length
abbrev pub resized : List ℕ → ℕ → List ℕ
resized old len = take len old ++ replicate (len - length old) 0

-- extended with zeros to an offset, and overwritten from there on
abbrev pub overwritten : List ℕ → ℕ → List ℕ → List ℕ
overwritten old off bytes = resized old off ++ bytes ++ drop (off + length bytes) old
