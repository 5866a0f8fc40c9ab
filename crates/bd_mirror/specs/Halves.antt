-- Which halves of a mirror are in use, and what that means for its calls.
use Rattle.std.specs.Prelude.{◌≡◌, ⊤, ℕ, ◌+◌, ◌-◌, ◌^◌, ◌⊎◌, min, Bool, true, false, nat_le, IsTrue, Option, None, Some}
use Rattle.bd_mirror.specs.declared.halves.Halves.{Halves}
use Rattle.bd_mirror.specs.declared.halves.Halves.TheVariants.{Both, First, Second, Neither}
use Rattle.bd_mirror.specs.declared.halves.Attached.{Attached}
use Rattle.bd_mirror.specs.declared.halves.Attached.TheVariants.{Nothing, Alone, Member, Pair, Apart}

-- the halves in use of what is attached
abbrev pub halves_of : Attached → Halves
halves_of Nothing = Neither
halves_of Alone = First
halves_of Member = First
halves_of (Pair halves) = halves
halves_of (Apart halves) = halves

-- two halves of which these are in use
abbrev pub with_halves : Halves → Attached → Attached
with_halves halves Nothing = Nothing
with_halves halves Alone = Alone
with_halves halves Member = Member
with_halves halves (Pair old) = Pair halves
with_halves halves (Apart old) = Apart halves

-- the first half is in use
abbrev pub uses_first : Halves → Bool
uses_first Both = true
uses_first First = true
uses_first Second = false
uses_first Neither = false

-- the second half is in use
abbrev pub uses_second : Halves → Bool
uses_second Both = true
uses_second First = false
uses_second Second = true
uses_second Neither = false

-- a half is in use
abbrev pub IsInUse : Halves → Type 0
IsInUse Both = ⊤
IsInUse First = ⊤
IsInUse Second = ⊤
IsInUse Neither = ⊥

-- how many blocks the mirror has, where its halves have so many: a member has one more, its mark
abbrev pub blocks_in : Attached → ℕ → ℕ → ℕ
blocks_in Nothing first second = 0
blocks_in Alone first second = first
blocks_in Member first second = first - 1
blocks_in (Pair halves) first second = min first second - 1
blocks_in (Apart halves) first second = 0

-- its halves have marks
abbrev pub has_marks : Attached → Bool
has_marks Nothing = false
has_marks Alone = false
has_marks Member = false
has_marks (Pair halves) = true
has_marks (Apart halves) = false

-- each half in use did so
abbrev pub EachDid : Halves → Type 0 → Type 0 → Type 0
EachDid Both first second = first × second
EachDid First first second = first
EachDid Second first second = second
EachDid Neither first second = ⊤

-- each half that is in use no longer did so
pub record LeftOnly (old new : Halves) (first second : Type 0) : Type 0 where
  pub first_did : IsTrue (uses_first old) → IsTrue (uses_first new) ⊎ first
  pub second_did : IsTrue (uses_second old) → IsTrue (uses_second new) ⊎ second

-- two halves are attached
abbrev pub is_two : Attached → Bool
is_two Nothing = false
is_two Alone = false
is_two Member = false
is_two (Pair halves) = true
is_two (Apart halves) = true

-- a new image with a mark can't have so many blocks
abbrev pub is_too_many : Option ℕ → Bool
is_too_many None = false
is_too_many (Some count) = nat_le (2 ^ 64) (count + 1)

-- a half of what is attached is in use, or it counted a fault
pub record AttachedTo (at : Attached) (first second : Type 0) : Type 0 where
  pub first_did : uses_first (halves_of at) ≡ true ⊎ first
  pub second_did : is_two at ≡ true → uses_second (halves_of at) ≡ true ⊎ second
  pub works : uses_first (halves_of at) ≡ false → uses_second (halves_of at) ≡ true
