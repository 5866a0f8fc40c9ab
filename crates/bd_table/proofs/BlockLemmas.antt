-- The blocks of a table.
use Rattle.std.proofs.Common.{◌≡◌, ℕ, ◌+◌, ◌/◌, ◌<◌, List, [], ◌∷◌, ◌++◌, Option, None, Some, IfSome, sym, ap, ◌∙◌, arith, append-nil}
use Rattle.std.specs.Prelude.{slice_index_or}
use Rattle.std.specs.List.{flat_map}
use Rattle.std.proofs.lemmas.List.Concat.{flat_map-append}
use Rattle.std.proofs.lemmas.List.FromFn.{map-range_with_len_more}
use Rattle.bd_slots.specs.Layout.{AreSlots, image_blocks}
use Rattle.bd_device.specs.Blocks.{Image}
use Rattle.bd_table.specs.Image.{table_block, block_total, first_blocks, first_bytes}

-- one block more
pub first_bytes_more : (image : Image) (at : List ℕ) (k : ℕ) → first_bytes image at (k + 1) ≡ first_bytes image at k ++ slice_index_or image (table_block at k) []
first_bytes_more image at k =
    let f : ℕ → List ℕ = λ b. slice_index_or image b [] in
    ap (flat_map f) (map-range_with_len_more (table_block at) 0 k k (omega arith)) ∙ flat_map-append f (first_blocks at k) (table_block at k ∷ [])
    ∙ ap (λ l. first_bytes image at k ++ l) (append-nil (f (table_block at k)))

-- so it is of what reads give
pub bytes_more : (known : Option Image) (at : List ℕ) (k : ℕ) (old new : List ℕ) → IfSome known (λ image. old ≡ first_bytes image at k)
    → IfSome known (λ image. new ≡ old ++ slice_index_or image (table_block at k) []) → IfSome known (λ image. new ≡ first_bytes image at (k + 1))
bytes_more None at k old new was more = tt
bytes_more (Some image) at k old new was more =
    more ∙ ap (λ l. l ++ slice_index_or image (table_block at k) []) was ∙ sym (first_bytes_more image at k)

-- the blocks of a table are blocks of the image
pub inside : (slots : ℕ) (at : List ℕ) (k : ℕ) → AreSlots slots at → k < block_total at → table_block at k < image_blocks slots
inside slots at k are lt = omega (arith, are.below (k / 16) 0 (omega (arith, lt)))
