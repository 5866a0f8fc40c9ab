-- What a mirror has of images of its halves.
use Rattle.std.specs.Prelude.{◌≡◌, ℕ, ◌-◌, min, take}
use Rattle.bd_device.specs.Blocks.{Image}
use Rattle.bd_mirror.specs.Contents.{IsPicked}
use Rattle.bd_mirror.specs.declared.halves.Attached.{Attached}
use Rattle.bd_mirror.specs.declared.halves.Attached.TheVariants.{Nothing, Alone, Member, Pair, Apart}

-- what a mirror has of images of its halves, which have so many blocks: of two with marks their
-- pick in either order, of one alone its image, or the first blocks of it where the last is a mark
abbrev pub IsLeftOf : Attached → ℕ → ℕ → (Image → Type 0) → (Image → Type 0) → Image → Type 0
IsLeftOf Nothing first_count second_count = λ first second c. ⊥
IsLeftOf Alone first_count second_count = λ first second c. first c
IsLeftOf Member first_count second_count = λ first second c.
    (image : Image) × first image × (c ≡ take (first_count - 1) image)
IsLeftOf (Pair halves) first_count second_count = λ first second c.
    IsPicked (min first_count second_count - 1) (first_count - 1) (second_count - 1) first second c
IsLeftOf (Apart halves) first_count second_count = λ first second c. ⊥
