-- Where slots end in zeros, as far as that is known.
use Rattle.std.specs.Prelude.{◌≡◌, ◌≤◌, ◌<◌, ◌+◌, ◌-◌, ◌*◌, ◌⊎◌, ℕ, List, Option, IfSome, take, drop, length, min, slice_index_or, Contains}
use Rattle.bd_limits.specs.Limits.{block_size, slot_blocks}
use Rattle.bd_wire.specs.Text.{zeros, AreZeros}
use Rattle.bd_slots.specs.Layout.{slot_block}
use Rattle.bd_device.specs.Blocks.{Image}
use Rattle.bd_device.specs.Changes.{IsInRange, bytes_at}
use Rattle.bd_device.specs.Commits.{block_at}
use Rattle.bd_tails.specs.declared.tails.Tails.{Tails}

-- the bytes of a slot
abbrev pub slot_bytes : Image → ℕ → List ℕ
slot_bytes image slot = bytes_at image (slot_block slot) slot_blocks

-- the block is one of this slot
abbrev pub IsOfSlot : ℕ → ℕ → Type 0
IsOfSlot slot b = IsInRange (slot_block slot) (slot_block slot + slot_blocks) b

-- a block of zeros
abbrev pub IsZeroBlock : Image → ℕ → Type 0
IsZeroBlock image b = (b < length image) × (block_at image b ≡ zeros block_size)

-- the slot's blocks from this one on are zeros
abbrev pub IsZeroFrom : Image → ℕ → ℕ → Type 0
IsZeroFrom image slot used =
    (i : ℕ) → used ≤ i → i < slot_blocks → IsZeroBlock image (slot_block slot + i)

-- how many of a slot's first blocks may have other bytes
abbrev pub used_at : List ℕ → ℕ → ℕ
used_at used slot = min slot_blocks (slice_index_or used slot slot_blocks)

abbrev pub used_of : Tails → ℕ → ℕ
used_of tails slot = used_at tails.used.items slot

-- each slot's blocks after those are zeros
abbrev pub AreTailsAt : Option Image → List ℕ → Type 0
AreTailsAt contents used =
    IfSome contents (λ image. (slot : ℕ) → IsZeroFrom image slot (used_at used slot))

abbrev pub AreTails : Option Image → Tails → Type 0
AreTails contents tails = AreTailsAt contents tails.used.items

-- so many of the bytes' first blocks are all up to the last one with another byte than zero
pub record AreUsed (bytes : List ℕ) (used : ℕ) : Type 0 where
  pub few : used ≤ slot_blocks
  pub zero : AreZeros (drop (used * block_size) bytes)
  pub last : (used ≡ 0) ⊎ ¬ AreZeros (take block_size (drop ((used - 1) * block_size) bytes))

-- of these slots nothing is known any more, and of the others as much as before
pub record AreForgotten (slots : List ℕ) (old new : Tails) : Type 0 where
  pub these : (slot : ℕ) → Contains slots slot → used_of new slot ≡ slot_blocks
  pub others : (slot : ℕ) → (used_of new slot ≡ used_of old slot)
      ⊎ ((used_of new slot ≡ slot_blocks) × Contains slots slot)
