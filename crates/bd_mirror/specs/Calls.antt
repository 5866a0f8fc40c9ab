-- What a mirror shows, and what its calls leave of its halves.
use Rattle.std.specs.Prelude.{◌≡◌, ◌≢◌, [], ℕ, ◌+◌, ◌-◌, ◌^◌, ◌<◌, ◌≤◌, min, Bool, Option, true, false, List}
use Rattle.bd_io.specs.Cause.{Rose}
use Rattle.bd_device.specs.Blocks.{Image}
use Rattle.bd_device.specs.Device.{left_now}
use Rattle.bd_device.specs.Moments.{IsOnly}
use Rattle.bd_device.specs.declared.counts.Counts.{Counts}
use Rattle.bd_device.specs.declared.device.Device.{Ghosts}
use Rattle.bd_mirror.specs.Halves.{halves_of, with_halves, uses_first, uses_second, blocks_in}
use Rattle.bd_mirror.specs.Contents.{shown_by, IsMarked, LeavesShown, AreLeftMarked, PicksHave, IsPicked}
use Rattle.bd_mirror.specs.Crashes.{LeavesPairs}
use Rattle.bd_mirror.specs.Notes.{Note}
use Rattle.bd_mirror.specs.Names.{HasPlus, first_name, second_name}
use Rattle.bd_mirror.specs.declared.halves.Halves.{Halves}
use Rattle.bd_mirror.specs.declared.halves.Attached.{Attached}
use Rattle.bd_mirror.specs.declared.parts.Parts.{Parts}

-- how many blocks a mirror has
abbrev pub blocks_now : {A B : Type 0} → Ghosts A → Ghosts B → Parts A B → ℕ
blocks_now a b m = blocks_in m.attached (a.block_count m.first) (b.block_count m.second)

-- what reads of a mirror give, where the contents of its halves are known
abbrev pub shown_now : {A B : Type 0} → Ghosts A → Ghosts B → Parts A B → Option Image
shown_now a b m = shown_by m.attached (a.block_count m.first) (b.block_count m.second)
    (a.contents m.first) (b.contents m.second)

-- the marks of its halves say which are in use, and two in use have the same
abbrev pub IsMirror : {A B : Type 0} → Ghosts A → Ghosts B → Parts A B → Type 0
IsMirror a b m = IsMarked m.attached (a.block_count m.first) (b.block_count m.second)
    (a.contents m.first) (b.contents m.second)

-- each pair of images that a crash may leave of halves with marks gives what the mirror shows,
-- whichever is named first
abbrev pub LeavesWhatItShows : {A B : Type 0} → Ghosts A → Ghosts B → Parts A B → Type 0
LeavesWhatItShows a b m = LeavesShown m.attached (a.block_count m.first) (b.block_count m.second)
    (a.contents m.first) (b.contents m.second) (left_now a m.first) (left_now b m.second)

-- also after a crash its marks say which of two halves with marks are in use
abbrev pub KeepsMarks : {A B : Type 0} → Ghosts A → Ghosts B → Parts A B → Type 0
KeepsMarks a b m = AreLeftMarked m.attached (a.block_count m.first) (b.block_count m.second)
    (left_now a m.first) (left_now b m.second)

-- a crash now may leave this image of two halves with marks: the pick of what it leaves of both
abbrev pub mirror_left : {A B : Type 0} → Ghosts A → Ghosts B → Parts A B → Image → Type 0
mirror_left a b m = IsPicked (min (a.block_count m.first) (b.block_count m.second) - 1)
    (a.block_count m.first - 1) (b.block_count m.second - 1)
    (left_now a m.first) (left_now b m.second)

-- each pair of images that a crash inside calls or after them may leave gives an image that has P,
-- by the pick, whichever half is named first
abbrev pub LeavesImages : {A B : Type 0} → Ghosts A → Ghosts B → Parts A B → Parts A B
    → (Image → Type 0) → Type 0
LeavesImages a b old new P = LeavesPairs a.left_since b.left_since a.call_count b.call_count
    (PicksHave (min (a.block_count old.first) (b.block_count old.second) - 1)
    (a.block_count old.first - 1) (b.block_count old.second - 1) P)
    old.first old.second new.first new.second

-- the mirror with this attached
abbrev pub attached_as : {A B : Type 0} → Attached → Parts A B → Parts A B
attached_as at m = record m { attached = at }

-- what it shows, where its halves hold these images
abbrev pub shown_of : {A B : Type 0} → Ghosts A → Ghosts B → Parts A B → Option Image
    → Option Image → Option Image
shown_of a b m first second =
    shown_by m.attached (a.block_count m.first) (b.block_count m.second) first second

-- what is attached so is a mirror, also after a crash
pub record IsMade {A B : Type 0} (a : Ghosts A) (b : Ghosts B) (m : Parts A B) : Type 0 where
  pub marked : IsMirror a b m
  pub left : LeavesWhatItShows a b m
  pub kept : KeepsMarks a b m

-- the halves in use
abbrev pub in_use : {A B : Type 0} → Parts A B → Halves
in_use m = halves_of m.attached

-- what of two halves is attached
abbrev pub attached_to : {A B : Type 0} → Parts A B → Attached
attached_to m = m.attached

-- the halves themselves
abbrev pub first_of : {A B : Type 0} → Parts A B → A
first_of m = m.first

abbrev pub second_of : {A B : Type 0} → Parts A B → B
second_of m = m.second

-- its own counts
abbrev pub counts_of : {A B : Type 0} → Parts A B → Counts
counts_of m = m.counts

abbrev pub calls_of : {A B : Type 0} → Parts A B → ℕ
calls_of m = m.counts.calls

abbrev pub faults_of : {A B : Type 0} → Parts A B → ℕ
faults_of m = m.counts.faults

abbrev pub write_faults_of : {A B : Type 0} → Parts A B → ℕ
write_faults_of m = m.counts.write_faults

abbrev pub last_of : {A B : Type 0} → Parts A B → Bool
last_of m = m.counts.last_failed

-- its calls, each with both halves before it, the last one first
abbrev pub moments_of : {A B : Type 0} → Parts A B → List (Note × A × B)
moments_of m = m.history.moments

-- its count of calls stands at its last value
abbrev pub IsFull : {A B : Type 0} → Parts A B → Type 0
IsFull m = 2 ^ 64 ≤ m.counts.calls + 1

-- the first half counted a fault, or its count stands at its last value
abbrev pub FirstFailed : {A B : Type 0} → Ghosts A → Parts A B → Parts A B → Type 0
FirstFailed a old new = Rose (a.fault_count old.first) (a.fault_count new.first)

-- so it is of the second
abbrev pub SecondFailed : {A B : Type 0} → Ghosts B → Parts A B → Parts A B → Type 0
SecondFailed b old new = Rose (b.fault_count old.second) (b.fault_count new.second)

-- of each half in use a crash leaves only what it holds
pub record AreSettled {A B : Type 0} (a : Ghosts A) (b : Ghosts B) (m : Parts A B) : Type 0 where
  pub first : uses_first (halves_of m.attached) ≡ true → 0 < blocks_now a b m
      → IsOnly (a.contents m.first) (left_now a m.first)
  pub second : uses_second (halves_of m.attached) ≡ true → 0 < blocks_now a b m
      → IsOnly (b.contents m.second) (left_now b m.second)

-- the halves that a name names go by their names
pub record HalvesNamed {A B : Type 0} (a : Ghosts A) (b : Ghosts B) (name : List ℕ) (m : Parts A B)
    : Type 0 where
  pub first : a.is_named m.first (first_name name)
  pub second : HasPlus name → second_name name ≢ [] → b.is_named m.second (second_name name)

-- what all calls but an attach leave: how many blocks the halves have, their names, and each half
-- that isn't in use. Their counts never fall.
pub record HalvesStay {A B : Type 0} (a : Ghosts A) (b : Ghosts B) (old new : Parts A B)
    : Type 0 where
  pub first_count : a.block_count new.first ≡ a.block_count old.first
  pub second_count : b.block_count new.second ≡ b.block_count old.second
  pub first_later : a.fault_count old.first ≤ a.fault_count new.first
  pub second_later : b.fault_count old.second ≤ b.fault_count new.second
  pub first_calls : a.call_count old.first ≤ a.call_count new.first
  pub second_calls : b.call_count old.second ≤ b.call_count new.second
  pub first_named : (name : List ℕ) → a.is_named old.first name → a.is_named new.first name
  pub second_named : (name : List ℕ) → b.is_named old.second name → b.is_named new.second name
  pub first_idle : uses_first (halves_of old.attached) ≡ false → new.first ≡ old.first
  pub second_idle : uses_second (halves_of old.attached) ≡ false → new.second ≡ old.second
  pub attached : new.attached ≡ with_halves (halves_of new.attached) old.attached
