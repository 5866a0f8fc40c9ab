-- What a crash may leave of two halves at one moment.
use Rattle.std.specs.Prelude.{◌≡◌, ℕ, ◌-◌, ◌<◌, ◌≤◌, ◌⊎◌, List, [], ◌∷◌, length, Option, Some}
use Rattle.bd_device.specs.Blocks.{Image}
use Rattle.bd_device.specs.Device.{Stays}
use Rattle.bd_device.specs.declared.device.Device.{Ghosts}
use Rattle.bd_mirror.specs.Contents.{pick}

-- of images with this mark: the pick of two in either order is that of two others in one of them
pub record IsPickOf (mark : ℕ) (a b x y : Image) : Type 0 where
  pub as_named : (pick mark mark mark x y ≡ pick mark mark mark a b)
      ⊎ (pick mark mark mark x y ≡ pick mark mark mark b a)
  pub turned : (pick mark mark mark y x ≡ pick mark mark mark a b)
      ⊎ (pick mark mark mark y x ≡ pick mark mark mark b a)

-- Calls of two halves that leave their names, inside and after which each pair of images that a
-- crash may leave has P.
pub record Stretch {A B : Type 0} (a : Ghosts A) (b : Ghosts B) (P : Image → Image → Type 0)
    (first : A) (second : B) (first_new : A) (second_new : B) : Type 0 where
  pub first_stays : Stays a first first_new
  pub second_stays : Stays b second second_new
  pub first_later : a.call_count first ≤ a.call_count first_new
  pub second_later : b.call_count second ≤ b.call_count second_new
  pub pairs : (x y : Image) → a.left_since first_new (a.call_count first) x
      → b.left_since second_new (b.call_count second) y → P x y

-- two halves went on by stretches, which lead over these moments
abbrev pub GoesOver : {A B : Type 0} → (A → B → A → B → Type 0) → A → B → List (A × B) → A → B
    → Type 0
GoesOver stretch a b [] a_new b_new = stretch a b a_new b_new
GoesOver stretch a b (m ∷ ms) a_new b_new =
    stretch a b m.0 m.1 × GoesOver stretch m.0 m.1 ms a_new b_new

-- by stretches over some moments
abbrev pub GoesOn : {A B : Type 0} → (A → B → A → B → Type 0) → A → B → A → B → Type 0
GoesOn {A} {B} stretch a b a_new b_new =
    (ms : List (A × B)) × GoesOver stretch a b ms a_new b_new

-- a pair of these images, or one whose pick, in either order, is that of two of them with marks, in
-- one of the two orders
abbrev pub IsPairFrom : (Image → Type 0) → (Image → Type 0) → Image → Image → Image → Image → Type 0
IsPairFrom first_left second_left first second x y =
    (first_left x × second_left y)
    ⊎ (first_left first × second_left second × IsPickOf (length first - 1) first second x y)

-- each pair of images that a crash inside or after calls may leave of two halves has P, told by
-- relations of what is left since a count of calls
abbrev pub LeavesPairs : {A B : Type 0} → (A → ℕ → Image → Type 0) → (B → ℕ → Image → Type 0)
    → (A → ℕ) → (B → ℕ) → (Image → Image → Type 0) → A → B → A → B → Type 0
LeavesPairs left_a left_b calls_a calls_b P a b a_new b_new =
    (x y : Image) → left_a a_new (calls_a a) x → left_b b_new (calls_b b) y → P x y

-- and each pair that a crash before them may leave
abbrev pub LeavesPairsFrom : {A B : Type 0} → (A → ℕ → Image → Type 0)
    → (B → ℕ → Image → Type 0) → (A → ℕ) → (B → ℕ) → (Image → Image → Type 0) → A → B → A → B
    → Type 0
LeavesPairsFrom left_a left_b calls_a calls_b P a b a_new b_new =
    LeavesPairs left_a left_b calls_a calls_b P a b a b
    × LeavesPairs left_a left_b calls_a calls_b P a b a_new b_new

-- Two halves went on, and at each moment a crash loses nothing of what they showed: each pair of
-- images that it may leave is one that a crash could leave before, or the pick of it, in either
-- order, is that of what they showed, in one of the two orders, and a crash could leave that before
-- too. Of halves that differ in their blocks nothing is said.
abbrev pub LosesNothing : {A B : Type 0} → (A → Option Image) → (B → Option Image)
    → (A → ℕ → Image → Type 0) → (B → ℕ → Image → Type 0) → (A → ℕ) → (B → ℕ)
    → A → B → A → B → Type 0
LosesNothing shows_a shows_b left_a left_b calls_a calls_b a b a_new b_new =
    (first second : Image) → shows_a a ≡ Some first → shows_b b ≡ Some second
    → 0 < length first → length first ≡ length second
    → GoesOn (LeavesPairsFrom left_a left_b calls_a calls_b
    (IsPairFrom (left_a a (calls_a a)) (left_b b (calls_b b)) first second)) a b a_new b_new
