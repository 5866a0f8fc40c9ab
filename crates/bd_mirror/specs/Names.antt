-- What the name of an image of a mirror says is attached.
use Rattle.std.specs.Prelude.{◌≡◌, ◌≢◌, ℕ, ◌-◌, ◌<◌, ◌==◌, nat_lt, true, if◌then◌else◌, List, [], length, take, Option}
use Rattle.std.specs.List.{position_or_len, before_first, after_first}
use Rattle.std.specs.Option.{option_map}
use Rattle.bd_device.specs.Blocks.{Image}
use Rattle.bd_mirror.specs.Contents.{shown_together}
use Rattle.bd_mirror.specs.Halves.{has_marks, is_two}
use Rattle.bd_mirror.specs.declared.halves.Attached.{Attached}
use Rattle.bd_mirror.specs.declared.halves.Attached.TheVariants.{Alone, Member}

-- the name has a `+`
abbrev pub HasPlus : List ℕ → Type 0
HasPlus name = position_or_len (λ byte. byte == 43) name < length name

-- the name of the first half: what stands before the first `+`, or all
abbrev pub first_name : List ℕ → List ℕ
first_name name = before_first (λ byte. byte == 43) name

-- the name of the second half: what stands after the first `+`
abbrev pub second_name : List ℕ → List ℕ
second_name name = after_first (λ byte. byte == 43) name

-- this is attached by a name, to halves with so many blocks
pub record IsNamed (name : List ℕ) (at : Attached) (first_count second_count : ℕ) : Type 0 where
  pub alone : ¬ HasPlus name → at ≡ Alone
  pub member : HasPlus name → second_name name ≡ [] → at ≡ Member
  pub two : HasPlus name → second_name name ≢ [] → is_two at ≡ true
  pub marks : is_two at ≡ true → 0 < first_count → first_count ≡ second_count
      → has_marks at ≡ true
  pub equal : has_marks at ≡ true → first_count ≡ second_count

-- without the last block, the mark
abbrev pub without_last : Image → Image
without_last image = take (length image - 1) image

-- what a mirror shows for a name, by what its halves show for theirs
abbrev pub shown_for : List ℕ → Option Image → Option Image → Option Image
shown_for name first second =
    if nat_lt (position_or_len (λ byte. byte == 43) name) (length name)
    then (if length (second_name name) == 0 then option_map without_last first
    else shown_together first second)
    else first
