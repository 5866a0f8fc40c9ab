-- What was read of a half says what the image has there.
use Rattle.std.proofs.Common.{◌≡◌, ◌≢◌, ℕ, List, [], Option, None, Some, IfSome, slice_get, slice_index, sym, ap, ◌∙◌}
use Rattle.std.proofs.lemmas.Option.{get_or_from_slice_get}
use Rattle.bd_slots.specs.Layout.{image_blocks}
use Rattle.bd_device.specs.Blocks.{Image, HasBlocks}
use Rattle.bd_super.specs.Superblocks.{IsSuperIn, commit_block, body_block}
use Rattle.bd_device.specs.Commits.{block_at}
use Rattle.bd_super.specs.Live.{IsBad, HasInHalf}
use Rattle.bd_super.specs.declared.superblock.Half.{Half}
use Rattle.bd_super.specs.declared.superblock.Super.{Super}
use Rattle.bd_super.proofs.Bodies.{one_super}

-- what a read gives of a block
pub block_read : (image : Image) (b : ℕ) (bytes : List ℕ) → slice_get image b ≡ Some bytes → block_at image b ≡ bytes
block_read image b bytes e = get_or_from_slice_get image b bytes [] e

-- a committed half with a superblock's body that names the size holds it
pub half_held : (contents : Option Image) (half : Half) (s : Super) (commit body : List ℕ) (blocks : ℕ)
    → IfSome contents (λ image. slice_get image (commit_block half) ≡ Some commit) → IfSome contents (λ image. slice_get image (body_block half) ≡ Some body)
    → IfSome contents (HasBlocks blocks) → slice_index commit 0 ≡ 1 → IsSuperIn half body (Some s) → image_blocks s.slots ≡ blocks
    → IfSome contents (λ image. HasInHalf image half (Some s))
half_held None half s commit body blocks c b shape committed read size = tt
half_held (Some image) half s commit body blocks c b shape committed read size = (
  read.0,
  record {
    committed = ap (λ h. slice_index (block_at image (commit_block h)) 0) read.0 ∙ ap (λ l. slice_index l 0) (block_read image (commit_block half) commit c) ∙ committed;
    fits = read.1;
    body = ap (λ h. block_at image (body_block h)) read.0 ∙ block_read image (body_block half) body b ∙ read.2;
    size = shape.count_is ∙ sym size;
  },
)

-- a committed half with any other body is bad
pub half_bad : (contents : Option Image) (half : Half) (found : Option Super) (commit body : List ℕ) (blocks : ℕ)
    → IfSome contents (λ image. slice_get image (commit_block half) ≡ Some commit) → IfSome contents (λ image. slice_get image (body_block half) ≡ Some body)
    → IfSome contents (HasBlocks blocks) → slice_index commit 0 ≡ 1 → IsSuperIn half body found → IfSome found (λ s. image_blocks s.slots ≢ blocks)
    → IfSome contents (λ image. IsBad image half)
half_bad None half found commit body blocks c b shape committed read other = tt
half_bad (Some image) half None commit body blocks c b shape committed read other = record {
  committed = ap (λ l. slice_index l 0) (block_read image (commit_block half) commit c) ∙ committed;
  none = λ (s, in_half, held). read s held.fits (sym (block_read image (body_block half) body b) ∙ ap (λ h. block_at image (body_block h)) (sym in_half) ∙ held.body);
}
half_bad (Some image) half (Some found) commit body blocks c b shape committed read other = record {
  committed = ap (λ l. slice_index l 0) (block_read image (commit_block half) commit c) ∙ committed;
  none = λ (s, in_half, held).
      let same : s ≡ found = one_super s found held.fits read.1 (in_half ∙ sym read.0)
      (sym held.body ∙ ap (λ h. block_at image (body_block h)) in_half ∙ block_read image (body_block half) body b ∙ read.2) in
      other (ap (λ (t : Super). image_blocks t.slots) (sym same) ∙ sym held.size ∙ shape.count_is);
}
