-- What a crash may have left of the image of a name, by what it left of both halves' names.
use Rattle.std.specs.Prelude.{◌≡◌, ◌≢◌, ℕ, ◌<◌, ◌≤◌, ◌==◌, ◌⊎◌, nat_lt, if◌then◌else◌, List, [], ◌∷◌, length, Option, None, Some}
use Rattle.std.specs.List.{position_or_len}
use Rattle.bd_device.specs.Blocks.{Image}
use Rattle.bd_mirror.specs.Crashes.{GoesOver}
use Rattle.bd_mirror.specs.Names.{HasPlus, second_name}
use Rattle.bd_mirror.specs.Notes.{Note}
use Rattle.bd_mirror.specs.Since.{IsLeftOf}
use Rattle.bd_mirror.specs.declared.halves.Halves.TheVariants.{Both}
use Rattle.bd_mirror.specs.declared.halves.Attached.{Attached}
use Rattle.bd_mirror.specs.declared.halves.Attached.TheVariants.{Alone, Member, Pair}

-- what is attached by a name, where both halves of a pair have as many blocks, and any
abbrev pub attached_for : List ℕ → Attached
attached_for name =
    if nat_lt (position_or_len (λ byte. byte == 43) name) (length name)
    then (if length (second_name name) == 0 then Member else Pair Both)
    else Alone

-- a crash since each count of calls up to this one might have left this image
abbrev pub IsLeftUpTo : (ℕ → Image → Type 0) → ℕ → Image → Type 0
IsLeftUpTo left n image = (t : ℕ) → t ≤ n → left t image

-- A crash before or inside one of a mirror's calls after the first `t` left this image, which a
-- relation gives of what it left of both halves at one moment. Of each call it is known which one
-- it was and how the halves were before it, of the last one first, and how they are after the last
-- one. What a crash leaves at a moment it leaves since each count of calls up to that. Inside an
-- attach of this very image nothing else counts than before it.
abbrev pub IsLeftInCalls : {A B : Type 0} → (A → ℕ → Image → Type 0) → (B → ℕ → Image → Type 0)
    → (A → ℕ) → (B → ℕ) → ((Image → Type 0) → (Image → Type 0) → Image → Type 0)
    → List ℕ → List (Note × A × B) → A → B → ℕ → Image → Type 0
IsLeftInCalls left_a left_b calls_a calls_b of name [] a b t c = ⊥
IsLeftInCalls left_a left_b calls_a calls_b of name (m ∷ ms) a b t c =
    ((t ≤ length ms) × (of (IsLeftUpTo (left_a m.1) (calls_a m.1))
    (IsLeftUpTo (left_b m.2) (calls_b m.2)) c
    ⊎ ((m.0 ≢ Some (name, None)) × of (IsLeftUpTo (left_a a) (calls_a m.1))
    (IsLeftUpTo (left_b b) (calls_b m.2)) c)))
    ⊎ IsLeftInCalls left_a left_b calls_a calls_b of name ms m.1 m.2 t c

-- or leaves it now
abbrev pub IsLeftPast : {A B : Type 0} → (A → ℕ → Image → Type 0) → (B → ℕ → Image → Type 0)
    → (A → ℕ) → (B → ℕ) → ((Image → Type 0) → (Image → Type 0) → Image → Type 0)
    → List ℕ → List (Note × A × B) → A → B → ℕ → Image → Type 0
IsLeftPast left_a left_b calls_a calls_b of name ms a b t c =
    of (IsLeftUpTo (left_a a) (calls_a a)) (IsLeftUpTo (left_b b) (calls_b b)) c
    ⊎ IsLeftInCalls left_a left_b calls_a calls_b of name ms a b t c

-- Two halves went on, from a later moment on or from the first one, and their counts didn't fall.
-- What a crash before that or inside it leaves, one at the first moment might have left.
abbrev pub LeavesAsBefore : {A B : Type 0} → (A → ℕ → Image → Type 0) → (B → ℕ → Image → Type 0)
    → (A → ℕ) → (B → ℕ) → ((Image → Type 0) → (Image → Type 0) → Image → Type 0)
    → A → B → A → B → A → B → Type 0
LeavesAsBefore left_a left_b calls_a calls_b of a0 b0 a b a_new b_new =
    ((c : Image) → of (IsLeftUpTo (left_a a) (calls_a a)) (IsLeftUpTo (left_b b) (calls_b b)) c
    → of (IsLeftUpTo (left_a a0) (calls_a a0)) (IsLeftUpTo (left_b b0) (calls_b b0)) c)
    × ((c : Image)
    → of (IsLeftUpTo (left_a a_new) (calls_a a)) (IsLeftUpTo (left_b b_new) (calls_b b)) c
    → of (IsLeftUpTo (left_a a0) (calls_a a0)) (IsLeftUpTo (left_b b0) (calls_b b0)) c)
    × (calls_a a ≤ calls_a a_new) × (calls_b b ≤ calls_b b_new)

-- So they went on over some moments.
abbrev pub GoesAsBefore : {A B : Type 0} → (A → ℕ → Image → Type 0) → (B → ℕ → Image → Type 0)
    → (A → ℕ) → (B → ℕ) → ((Image → Type 0) → (Image → Type 0) → Image → Type 0)
    → A → B → A → B → Type 0
GoesAsBefore {A} {B} left_a left_b calls_a calls_b of a b a_new b_new =
    (ms : List (A × B))
    × GoesOver (LeavesAsBefore left_a left_b calls_a calls_b of a b) a b ms a_new b_new

-- where the name is of two halves, the second one shows an image of as many blocks
abbrev pub IsPairWith : List ℕ → Image → Option Image → Type 0
IsPairWith name x second = HasPlus name → second_name name ≢ [] → (y : Image)
    × (second ≡ Some y) × (0 < length x) × (length x ≡ length y)

-- So the halves that a name names went on, where they showed images.
abbrev pub GoesByName : {A B : Type 0} → List ℕ → Option Image → Option Image
    → (A → ℕ → Image → Type 0) → (B → ℕ → Image → Type 0) → (A → ℕ) → (B → ℕ)
    → A → B → A → B → Type 0
GoesByName name first second left_a left_b calls_a calls_b a b a_new b_new =
    (x : Image) → first ≡ Some x → IsPairWith name x second
    → GoesAsBefore left_a left_b calls_a calls_b
    (IsLeftOf (attached_for name) (length x) (length x)) a b a_new b_new

-- So the first half of a member went on: its mark alone might have been torn.
abbrev pub MemberGoes : {A : Type 0} → (A → ℕ → Image → Type 0) → (A → ℕ)
    → (Image → Image) → A → A → Type 0
MemberGoes left calls blocks a a_new = (calls a ≤ calls a_new) × ((x : Image)
    → IsLeftUpTo (left a_new) (calls a) x
    → (y : Image) × IsLeftUpTo (left a) (calls a) y × (blocks x ≡ blocks y))
