-- What holds of each mirror, and what it shows and leaves to the layers above.
use Rattle.std.specs.Prelude.{◌≡◌, ℕ, ◌-◌, ◌^◌, ◌<◌, ◌&&◌, min, Bool, true, false, List, length, Option, Some, IfSome, is_some}
use Rattle.bd_device.specs.Blocks.{Image, HasBlocks}
use Rattle.bd_device.specs.Device.{left_now}
use Rattle.bd_device.specs.declared.device.Device.{Ghosts}
use Rattle.bd_mirror.specs.Calls.{IsMirror, KeepsMarks, HalvesNamed, moments_of}
use Rattle.bd_mirror.specs.Names.{IsNamed, first_name, second_name}
use Rattle.bd_mirror.specs.Notes.{last_name}
use Rattle.bd_mirror.specs.Past.{attached_for, IsLeftPast}
use Rattle.bd_mirror.specs.Shown.{size_of, shown_both, second_image, attached_by}
use Rattle.bd_mirror.specs.Since.{IsLeftOf}
use Rattle.bd_mirror.specs.declared.halves.Attached.{Attached}
use Rattle.bd_mirror.specs.declared.halves.Attached.TheVariants.{Nothing, Alone, Member, Pair, Apart}
use Rattle.bd_mirror.specs.declared.parts.Parts.{Parts}

-- both halves tell what they hold
abbrev pub are_told : {A B : Type 0} → Ghosts A → Ghosts B → Parts A B → Bool
are_told a b m = is_some (a.contents m.first) && is_some (b.contents m.second)

-- something is attached
abbrev pub is_attached : Attached → Bool
is_attached Nothing = false
is_attached Alone = true
is_attached Member = true
is_attached (Pair halves) = true
is_attached (Apart halves) = true

-- the moment before each call so far is kept
abbrev pub KeepsMoments : {A B : Type 0} → Parts A B → Type 0
KeepsMoments m = m.counts.calls ≡ min (length (moments_of m)) (2 ^ 64 - 1)

-- a half has whole blocks, also after a crash, which may leave what reads give
pub record IsWhole {D : Type 0} (g : Ghosts D) (d : D) : Type 0 where
  pub shape : IfSome (g.contents d) (HasBlocks (g.block_count d))
  pub stays : 0 < g.block_count d → IfSome (g.contents d) (left_now g d)
  pub left : 0 < g.block_count d → (c : Image) → left_now g d c → HasBlocks (g.block_count d) c

pub record AreWhole {A B : Type 0} (a : Ghosts A) (b : Ghosts B) (m : Parts A B) : Type 0 where
  pub first : IsWhole a m.first
  pub second : IsWhole b m.second

-- what is attached is so by the name of the last attach
pub record IsAttachedBy {A B : Type 0} (a : Ghosts A) (b : Ghosts B) (m : Parts A B)
    (name : List ℕ) : Type 0 where
  pub last : last_name (moments_of m) ≡ Some name
  pub halves : HalvesNamed a b name m
  pub named : IsNamed name m.attached (a.block_count m.first) (b.block_count m.second)

-- what holds of each mirror between two calls
pub record IsSound {A B : Type 0} (a : Ghosts A) (b : Ghosts B) (m : Parts A B) : Type 0 where
  pub counted : KeepsMoments m
  pub marked : IsMirror a b m
  pub kept : KeepsMarks a b m
  pub whole : AreWhole a b m
  pub by_name : is_attached m.attached ≡ true → (name : List ℕ) × IsAttachedBy a b m name

-- what reads give, where both halves tell what they hold
abbrev pub mirror_contents : {A B : Type 0} → Ghosts A → Ghosts B → Parts A B → Option Image
mirror_contents a b m = shown_both (attached_by m.attached (last_name (moments_of m)))
    (a.contents m.first) (b.contents m.second)

-- what is attached goes by this name, and its halves by theirs
pub record GoesBy {A B : Type 0} (a : Ghosts A) (b : Ghosts B) (m : Parts A B) (name : List ℕ)
    : Type 0 where
  pub last : last_name (moments_of m) ≡ Some name
  pub attached : is_attached m.attached ≡ true
  pub halves : HalvesNamed a b name m

-- what a mirror shows for a name, by what its halves show for theirs
abbrev pub mirror_shows : {A B : Type 0} → Ghosts B → (A → List ℕ → Option Image)
    → (B → List ℕ → Option Image) → Parts A B → List ℕ → Option Image
mirror_shows b shows_a shows_b m name = shown_both (attached_for name)
    (shows_a m.first (first_name name))
    (second_image (attached_for name) (b.contents m.second) (shows_b m.second (second_name name)))

-- What a crash might have left of the image of a name since so many calls, by what it left of those
-- of the halves' names. Of one without blocks nothing is said.
pub record IsLeftBehind {A B : Type 0} (a : Ghosts A) (b : Ghosts B)
    (shows_a : A → List ℕ → Option Image) (shows_b : B → List ℕ → Option Image)
    (left_a : A → List ℕ → ℕ → Image → Type 0) (left_b : B → List ℕ → ℕ → Image → Type 0)
    (m : Parts A B) (name : List ℕ) (t : ℕ) (c : Image) : Type 0 where
  pub first : Image
  pub second : Image
  pub first_shown : shows_a m.first (first_name name) ≡ Some first
  pub second_shown : second_image (attached_for name) (b.contents m.second)
      (shows_b m.second (second_name name)) ≡ Some second
  pub some : 0 < size_of (attached_for name) (length first) (length second)
  pub shape : HasBlocks (size_of (attached_for name) (length first) (length second)) c
  pub left : IsLeftPast (λ d. left_a d (first_name name)) (λ d. left_b d (second_name name))
      a.call_count b.call_count (IsLeftOf (attached_for name) (length first) (length first))
      name (moments_of m) m.first m.second t c

-- so it is of what is attached, by its name
abbrev pub mirror_since : {A B : Type 0} → Ghosts A → Ghosts B → (A → List ℕ → Option Image)
    → (B → List ℕ → Option Image) → (A → List ℕ → ℕ → Image → Type 0)
    → (B → List ℕ → ℕ → Image → Type 0) → Parts A B → ℕ → Image → Type 0
mirror_since a b shows_a shows_b left_a left_b m t c = (name : List ℕ)
    × (last_name (moments_of m) ≡ Some name) × (is_attached m.attached ≡ true)
    × IsLeftBehind a b shows_a shows_b left_a left_b m name t c
