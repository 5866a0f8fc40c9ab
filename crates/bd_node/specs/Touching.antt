-- Which messages can change what stands at a key.
use Rattle.std.specs.Prelude.{◌≡◌, ℕ, ◌<◌, ◌≤◌, Bool, true, false, List, length, Option, None, Some, slice_get}
use Rattle.bd_keys.specs.Keys.{InRange}
use Rattle.bd_message.specs.declared.message.Message.{Message}
use Rattle.bd_message.specs.declared.message.Message.TheVariants.{Put, Del, Patch, Cut, Goto}
use Rattle.bd_message.specs.Effect.{same_key, begins, is_cut}

-- the message can change what stands at the key
abbrev pub touches : Message → List ℕ → Bool
touches (Put key value) k = same_key k key
touches (Del key) k = same_key k key
touches (Patch key off bytes) k = same_key k key
touches (Cut prefix from) k = is_cut prefix from k
touches (Goto prefix source child) k = begins k prefix

-- the message can change what stands at a key that is at least `lo` and below `hi`
abbrev pub CanTouch : Message → List ℕ → Option (List ℕ) → Type 0
CanTouch m lo hi = (k : List ℕ) × InRange lo hi k × (touches m k ≡ true)

-- no message from one place up to another can change what stands at the key
abbrev pub NoneTouches : List Message → ℕ → ℕ → List ℕ → Type 0
NoneTouches list from to k =
    (i : ℕ) (m : Message) → from ≤ i → i < to → slice_get list i ≡ Some m → touches m k ≡ false

-- the place of the first message from a place on that can change what stands at the key
abbrev pub IsNextTouching : List Message → ℕ → List ℕ → Option ℕ → Type 0
IsNextTouching list from k (Some place) =
    (from ≤ place) × NoneTouches list from place k
    × ((m : Message) × (slice_get list place ≡ Some m) × (touches m k ≡ true))
IsNextTouching list from k None = NoneTouches list from (length list) k
