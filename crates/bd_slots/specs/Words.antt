-- Slots as the bits of words.
use Rattle.std.specs.Prelude.{◌≡◌, ◌/◌, ◌%◌, ◌+◌, ◌<◌, ◌≤◌, ◌==◌, ℕ, Bool, true, false, List, length, slice_index, map}
use Rattle.std.specs.Int.{bit_at}
use Rattle.std.specs.List.{range_with_len}
use Rattle.bd_slots.specs.Slots.{free_count}

-- the bits of a word
abbrev pub word_bits : ℕ
word_bits = 64

-- whether the slot's bit is set
abbrev pub has_bit : List ℕ → ℕ → Bool
has_bit words slot = bit_at (slice_index words (slot / word_bits)) (slot % word_bits) == 1

-- the flags of so many slots
abbrev pub flags : List ℕ → ℕ → List Bool
flags words count = map (has_bit words) (range_with_len 0 count)

-- none of the first bits is set, so many
abbrev pub IsNoneBelow : List ℕ → ℕ → Type 0
IsNoneBelow words count = (bit : ℕ) → bit < count → has_bit words bit ≡ false

-- the bit is the first one that is set
abbrev pub IsFirstSet : List ℕ → ℕ → Type 0
IsFirstSet words bit = (has_bit words bit ≡ true) × IsNoneBelow words bit

-- there are as many words as the slots take, no bit is set after the slots, and the free ones were
-- counted
pub record AreCounted (words : List ℕ) (count free : ℕ) : Type 0 where
  pub room : length words ≡ count / word_bits + 1
  pub none_after : (slot : ℕ) → count ≤ slot → has_bit words slot ≡ false
  pub counted : free ≡ free_count (flags words count)
