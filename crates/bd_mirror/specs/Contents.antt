-- What two halves show together: the pick of their images by their marks.
use Rattle.std.specs.Prelude.{◌≡◌, ⊤, ℕ, [], ◌-◌, ◌<◌, ◌⊎◌, ◌&&◌, ◌==◌, min, nat_lt, Bool, true, false, not, if◌then◌else◌, Option, None, Some, IfSome, length, take, slice_index}
use Rattle.std.specs.Option.{option_map}
use Rattle.bd_device.specs.Blocks.{Image}
use Rattle.bd_device.specs.Commits.{block_at}
use Rattle.bd_mirror.specs.declared.halves.Halves.{Halves}
use Rattle.bd_mirror.specs.declared.halves.Halves.TheVariants.{Both, First, Second, Neither}
use Rattle.bd_mirror.specs.declared.halves.Attached.{Attached}
use Rattle.bd_mirror.specs.declared.halves.Attached.TheVariants.{Nothing, Alone, Member, Pair, Apart}

-- the mark of an image, this block, is open: exactly where its first byte is 1
abbrev pub is_open_at : ℕ → Image → Bool
is_open_at mark image = slice_index (block_at image mark) 0 == 1

-- the first blocks of the second image where only its mark is open, else of the first one
abbrev pub pick : ℕ → ℕ → ℕ → Image → Image → Image
pick size first_mark second_mark first second =
    if is_open_at second_mark second && not (is_open_at first_mark first) then take size second
    else take size first

-- the pick of what is known of both
abbrev pub picked : ℕ → ℕ → ℕ → Option Image → Option Image → Option Image
picked size first_mark second_mark (Some first) (Some second) =
    Some (pick size first_mark second_mark first second)
picked size first_mark second_mark _ _ = None

-- what two images are together: the pick by their last blocks, where they have as many blocks, and
-- any, and else no blocks
abbrev pub picked_together : Image → Image → Image
picked_together first second =
    if (length first == length second) && nat_lt 0 (length first)
    then pick (length first - 1) (length first - 1) (length first - 1) first second
    else []

-- so it is of what two halves show
abbrev pub shown_together : Option Image → Option Image → Option Image
shown_together (Some first) (Some second) = Some (picked_together first second)
shown_together _ _ = None

-- the pick stays with the source named first, and where its mark alone is open also with it named
-- second
pub record KeepsPick (mark : ℕ) (is_alone : Bool) (source copy source_new copy_new : Option Image)
    : Type 0 where
  pub as_first : picked mark mark mark source_new copy_new ≡ picked mark mark mark source copy
  pub as_second : is_alone ≡ true
      → picked mark mark mark copy_new source_new ≡ picked mark mark mark copy source

-- the first blocks of both are the same, where they are known
abbrev pub IsCopy : ℕ → Option Image → Option Image → Type 0
IsCopy count (Some source) (Some copy) = take count copy ≡ take count source
IsCopy count _ _ = ⊤

-- what a mirror shows of halves with so many blocks that hold these images
abbrev pub shown_by : Attached → ℕ → ℕ → Option Image → Option Image → Option Image
shown_by Nothing first_count second_count first second = None
shown_by Alone first_count second_count first second = first
shown_by Member first_count second_count first second =
    option_map (take (first_count - 1)) first
shown_by (Pair halves) first_count second_count first second =
    picked (min first_count second_count - 1) (first_count - 1) (second_count - 1) first second
shown_by (Apart halves) first_count second_count first second = None

-- each pair of these images gives this one, by the pick in either order of the halves
abbrev pub PicksAre : ℕ → ℕ → ℕ → (Image → Type 0) → (Image → Type 0) → Image → Type 0
PicksAre size first_mark second_mark first second image =
    (x y : Image) → first x → second y
    → (pick size first_mark second_mark x y ≡ image)
    × (pick size second_mark first_mark y x ≡ image)

-- so each pair of images that a crash may leave of two halves with marks gives what is shown
abbrev pub LeavesShown : Attached → ℕ → ℕ → Option Image → Option Image → (Image → Type 0)
    → (Image → Type 0) → Type 0
LeavesShown (Pair halves) first_count second_count first second first_left second_left =
    IfSome (shown_by (Pair halves) first_count second_count first second)
    (PicksAre (min first_count second_count - 1) (first_count - 1) (second_count - 1)
    first_left second_left)
LeavesShown _ first_count second_count first second first_left second_left = ⊤

-- the marks say which halves are in use, and two in use have the same first blocks
abbrev pub AreMarked : Halves → ℕ → ℕ → ℕ → Option Image → Option Image → Type 0
AreMarked Both size first_mark second_mark (Some first) (Some second) =
    (is_open_at first_mark first ≡ false) × (is_open_at second_mark second ≡ false)
    × (take size first ≡ take size second)
AreMarked First size first_mark second_mark (Some first) (Some second) =
    (is_open_at first_mark first ≡ true) × (is_open_at second_mark second ≡ false)
AreMarked Second size first_mark second_mark (Some first) (Some second) =
    (is_open_at first_mark first ≡ false) × (is_open_at second_mark second ≡ true)
AreMarked Neither size first_mark second_mark (Some first) (Some second) = ⊤
AreMarked halves size first_mark second_mark _ _ = ⊤

-- two halves with marks
pub record HaveMarks (halves : Halves) (first_count second_count : ℕ)
    (first second : Option Image) : Type 0 where
  pub first_room : 0 < first_count
  pub second_room : 0 < second_count
  pub marked : AreMarked halves (min first_count second_count - 1) (first_count - 1)
      (second_count - 1) first second

-- a pair has its marks
abbrev pub IsMarked : Attached → ℕ → ℕ → Option Image → Option Image → Type 0
IsMarked (Pair halves) first_count second_count first second =
    HaveMarks halves first_count second_count first second
IsMarked _ _ _ _ _ = ⊤

-- each of these images has its mark so
abbrev pub HaveMark : ℕ → Bool → (Image → Type 0) → Type 0
HaveMark mark opens left = (image : Image) → left image → is_open_at mark image ≡ opens

-- also of the images that a crash may leave of a pair the marks say which halves are in use
abbrev pub AreLeftMarked : Attached → ℕ → ℕ → (Image → Type 0) → (Image → Type 0) → Type 0
AreLeftMarked (Pair Both) first_count second_count first second =
    HaveMark (first_count - 1) false first × HaveMark (second_count - 1) false second
AreLeftMarked (Pair First) first_count second_count first second =
    HaveMark (first_count - 1) true first × HaveMark (second_count - 1) false second
AreLeftMarked (Pair Second) first_count second_count first second =
    HaveMark (first_count - 1) false first × HaveMark (second_count - 1) true second
AreLeftMarked _ first_count second_count first second = ⊤

-- the pick of two images, in either order, has P
abbrev pub PicksHave : ℕ → ℕ → ℕ → (Image → Type 0) → Image → Image → Type 0
PicksHave size first_mark second_mark P first second =
    P (pick size first_mark second_mark first second)
    × P (pick size second_mark first_mark second first)

-- the pick, in one of the two orders, of two of these images
abbrev pub IsPicked : ℕ → ℕ → ℕ → (Image → Type 0) → (Image → Type 0) → Image → Type 0
IsPicked size first_mark second_mark first second image =
    (x y : Image) × first x × second y
    × ((image ≡ pick size first_mark second_mark x y)
    ⊎ (image ≡ pick size second_mark first_mark y x))
