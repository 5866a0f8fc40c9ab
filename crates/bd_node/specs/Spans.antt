-- Which messages can change what stands at keys of a range.
use Rattle.std.specs.Prelude.{◌≡◌, ◌↔◌, ℕ, ◌<◌, ◌≤◌, Bool, true, List, length, Option, Some, slice_get, slice_index}
use Rattle.bd_keys.specs.Keys.{IsBelowEnd}
use Rattle.bd_message.specs.declared.message.Message.{Message}
use Rattle.bd_node.specs.Touching.{CanTouch}
use Rattle.bd_node.specs.Index.{key_at}

-- the list says of each message whether it can change what stands at a key of the range
pub record AreTouching (mask : List Bool) (list : List Message) (lo : List ℕ)
    (hi : Option (List ℕ)) : Type 0 where
  pub long : length mask ≡ length list
  pub each : (i : ℕ) (m : Message) → slice_get list i ≡ Some m
      → (slice_get mask i ≡ Some true) ↔ CanTouch m lo hi

-- the list says so of no other message, and of those at the first so many of some places
pub record AreMarked (mask : List Bool) (list : List Message) (lo : List ℕ)
    (hi : Option (List ℕ)) (places : List ℕ) (count : ℕ) : Type 0 where
  pub long : length mask ≡ length list
  pub only : (i : ℕ) (m : Message) → slice_get list i ≡ Some m
      → slice_get mask i ≡ Some true → CanTouch m lo hi
  pub done : (q : ℕ) (m : Message) → q < count → q < length places
      → slice_get list (slice_index places q) ≡ Some m → CanTouch m lo hi
      → slice_get mask (slice_index places q) ≡ Some true

-- how many of the places, in the order of keys, are of messages on keys below an end
pub record IsEndPosition (list : List Message) (points : List ℕ) (hi : Option (List ℕ)) (at : ℕ)
    : Type 0 where
  pub within : at ≤ length points
  pub before : (q : ℕ) → q < at → IsBelowEnd (key_at list (slice_index points q)) hi
  pub after : (q : ℕ) → at ≤ q → q < length points
      → ¬ IsBelowEnd (key_at list (slice_index points q)) hi
