-- What a call of a mirror did, beside what each device's does.
use Rattle.std.specs.Prelude.{◌≡◌, ◌≢◌, ℕ, ◌-◌, ◌<◌, ◌⊎◌, min, List, [], ◌∷◌, Bool, true, false, Option, None, Some, IfSome}
use Rattle.bd_device.specs.Blocks.{Image}
use Rattle.bd_device.specs.Device.{left_now}
use Rattle.bd_device.specs.declared.device.Device.{Ghosts}
use Rattle.bd_mirror.specs.Calls.{in_use, attached_to, IsFull, FirstFailed, SecondFailed, HalvesStay, LeavesWhatItShows, moments_of, blocks_now}
use Rattle.bd_mirror.specs.Contents.{is_open_at, PicksHave}
use Rattle.bd_mirror.specs.Crashes.{LosesNothing}
use Rattle.bd_mirror.specs.Halves.{has_marks, EachDid, LeftOnly, AttachedTo, is_too_many}
use Rattle.bd_mirror.specs.Names.{HasPlus, first_name, second_name}
use Rattle.bd_mirror.specs.Notes.{Note}
use Rattle.bd_mirror.specs.Past.{GoesByName}
use Rattle.bd_mirror.specs.Sound.{are_told, mirror_since}
use Rattle.bd_mirror.specs.declared.halves.Attached.TheVariants.{Member}
use Rattle.bd_mirror.specs.declared.parts.Parts.{Parts}

-- A read, a write or a barrier. It fails only where each half in use did, or the count of calls
-- stands at its last value, and a half goes out of use only where it failed.
pub record CallDid {A B : Type 0} (a : Ghosts A) (b : Ghosts B) (old new : Parts A B) (ok : Bool)
    : Type 0 where
  pub why : ok ≡ false
      → IsFull old ⊎ EachDid (in_use old) (FirstFailed a old new) (SecondFailed b old new)
  pub in_use : LeftOnly (in_use old) (in_use new) (FirstFailed a old new) (SecondFailed b old new)
  pub stays : HalvesStay a b old new

-- An attach. It fails only where a half did, the mirror has as many blocks as a u64 can say, or the
-- count of calls stands at its last value. Each half that is attached is in use, unless it failed,
-- and each pair of images that a crash may leave then gives what the mirror shows. The first half
-- of a member has its mark open. Inside one with `None`, and after it, also where it fails, a crash
-- loses nothing of what the halves showed, and leaves of the image of the name only what it could.
pub record AttachDid {A B : Type 0} (a : Ghosts A) (b : Ghosts B)
    (shows_a : A → List ℕ → Option Image) (shows_b : B → List ℕ → Option Image)
    (left_a : A → List ℕ → ℕ → Image → Type 0) (left_b : B → List ℕ → ℕ → Image → Type 0)
    (name : List ℕ) (create : Option ℕ) (old new : Parts A B) (ok : Bool) : Type 0 where
  pub why : ok ≡ false → IsFull old ⊎ (is_too_many create ≡ true)
      ⊎ FirstFailed a old new ⊎ SecondFailed b old new
  pub attached : ok ≡ true
      → AttachedTo (attached_to new) (FirstFailed a old new) (SecondFailed b old new)
  pub left : ok ≡ true → LeavesWhatItShows a b new
  pub opened : ok ≡ true → attached_to new ≡ Member → 0 < a.block_count new.first
      → IfSome (a.contents new.first)
      (λ image. is_open_at (a.block_count new.first - 1) image ≡ true)
  pub inside : create ≡ None → HasPlus name → second_name name ≢ [] → LosesNothing
      (λ d. shows_a d (first_name name)) (λ d. shows_b d (second_name name))
      (λ d. left_a d (first_name name)) (λ d. left_b d (second_name name))
      a.call_count b.call_count old.first old.second new.first new.second
  pub by_name : create ≡ None → GoesByName name
      (shows_a old.first (first_name name)) (shows_b old.second (second_name name))
      (λ d. left_a d (first_name name)) (λ d. left_b d (second_name name))
      a.call_count b.call_count old.first old.second new.first new.second

-- what the last call was
abbrev pub last_note : {A B : Type 0} → List (Note × A × B) → Note
last_note [] = None
last_note (m ∷ ms) = m.0

-- what a call did, by which one it was
abbrev pub DidBy : {A B : Type 0} → Ghosts A → Ghosts B → (A → List ℕ → Option Image)
    → (B → List ℕ → Option Image) → (A → List ℕ → ℕ → Image → Type 0)
    → (B → List ℕ → ℕ → Image → Type 0) → Note → Parts A B → Parts A B → Bool → Type 0
DidBy a b shows_a shows_b left_a left_b None old new ok = CallDid a b old new ok
DidBy a b shows_a shows_b left_a left_b (Some call) old new ok =
    AttachDid a b shows_a shows_b left_a left_b call.0 call.1 old new ok

-- Each pair of images that a crash now may leave of two halves with marks gives, by the pick in
-- either order, an image that it may leave of the mirror.
abbrev pub LeavesPicks : {A B : Type 0} → Ghosts A → Ghosts B → (A → List ℕ → Option Image)
    → (B → List ℕ → Option Image) → (A → List ℕ → ℕ → Image → Type 0)
    → (B → List ℕ → ℕ → Image → Type 0) → Parts A B → Type 0
LeavesPicks a b shows_a shows_b left_a left_b m =
    has_marks m.attached ≡ true → 0 < blocks_now a b m → are_told a b m ≡ true → (x y : Image)
    → left_now a m.first x → left_now b m.second y
    → PicksHave (min (a.block_count m.first) (b.block_count m.second) - 1)
    (a.block_count m.first - 1) (b.block_count m.second - 1)
    (mirror_since a b shows_a shows_b left_a left_b m m.counts.calls) x y

-- what a call of a mirror did, and what it leaves
pub record MirrorDid {A B : Type 0} (a : Ghosts A) (b : Ghosts B)
    (shows_a : A → List ℕ → Option Image) (shows_b : B → List ℕ → Option Image)
    (left_a : A → List ℕ → ℕ → Image → Type 0) (left_b : B → List ℕ → ℕ → Image → Type 0)
    (old new : Parts A B) (ok : Bool) : Type 0 where
  pub did : DidBy a b shows_a shows_b left_a left_b (last_note (moments_of new)) old new ok
  pub pairs : LeavesPicks a b shows_a shows_b left_a left_b new
