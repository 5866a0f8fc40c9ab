-- What the blocks of a device hold, where that is known.
use Rattle.std.specs.Prelude.{◌≡◌, ℕ, ◌^◌, ◌<◌, List, Option, All, length, slice_index, slice_set}
use Rattle.std.specs.Option.{option_map}
use Rattle.bd_limits.specs.Limits.{block_size}

-- the bytes of each block of an image
abbrev pub Image : Type 0
Image = List (List ℕ)

-- a block has 4,096 bytes
abbrev pub IsBlock : List ℕ → Type 0
IsBlock bytes = (length bytes ≡ block_size) × ((i : ℕ) → slice_index bytes i < 2 ^ 8)

-- an image of this many whole blocks
pub record HasBlocks (count : ℕ) (image : Image) : Type 0 where
  pub count_is : length image ≡ count
  pub whole : All IsBlock image

-- the known contents with one block replaced
abbrev pub with_block : ℕ → List ℕ → Option Image → Option Image
with_block b bytes contents = option_map (λ image. slice_set image b bytes) contents

-- at most one block changed, and it has some whole block now
abbrev pub ChangesOnly : ℕ → Option Image → Option Image → Type 0
ChangesOnly b old new = (bytes : List ℕ) × IsBlock bytes × (new ≡ with_block b bytes old)
