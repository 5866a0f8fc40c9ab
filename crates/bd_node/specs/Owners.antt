-- Which edge the key of each message is of.
use Rattle.std.specs.Prelude.{◌≡◌, ℕ, ◌+◌, ◌<◌, ◌≤◌, ◌⊎◌, true, List, length, drop, Some, slice_get, slice_index}
use Rattle.bd_keys.specs.Keys.{IsAtLeast, InRange}
use Rattle.bd_message.specs.declared.message.Message.{Message}
use Rattle.bd_node.specs.declared.node.Edge.{Edge}
use Rattle.bd_node.specs.Index.{is_point, key_at, own_key}
use Rattle.bd_node.specs.Shape.{end_before}

-- the keys of the edge at this place include the key
abbrev pub IsOwner : List Edge → List ℕ → ℕ → Type 0
IsOwner edges k place =
    (e : Edge) × (slice_get edges place ≡ Some e)
    × InRange e.pivot (end_before (drop (place + 1) edges)) k

-- for each message on one key, the place of the edge whose keys include that key
pub record AreOwners (owners : List ℕ) (edges : List Edge) (list : List Message) : Type 0 where
  pub long : length owners ≡ length list
  pub each : (i : ℕ) (m : Message) → slice_get list i ≡ Some m → is_point m ≡ true
      → IsOwner edges (own_key m) (slice_index owners i)

-- the edge at this place begins at or before the key
abbrev pub IsFrom : List Edge → List ℕ → ℕ → Type 0
IsFrom edges k place = (e : Edge) × (slice_get edges place ≡ Some e) × IsAtLeast k e.pivot

-- the first so many places have the edges of their keys, the others are of keys of edges from a
-- place on
pub record AreOwnedTo (owners : List ℕ) (edges : List Edge) (list : List Message)
    (points : List ℕ) (at count : ℕ) : Type 0 where
  pub long : length owners ≡ length list
  pub done : (q : ℕ) → q < count → q < length points
      → IsOwner edges (key_at list (slice_index points q))
      (slice_index owners (slice_index points q))
  pub rest : (q : ℕ) → count ≤ q → q < length points
      → IsFrom edges (key_at list (slice_index points q)) at

-- one number at the places that stand from a place up to another, and the others as they were
pub record AreGiven (old new points : List ℕ) (from to n : ℕ) : Type 0 where
  pub long : length new ≡ length old
  pub given : (q : ℕ) → from ≤ q → q < to → slice_index new (slice_index points q) ≡ n
  pub others : (i : ℕ) → (slice_index new i ≡ slice_index old i)
      ⊎ ((q : ℕ) × (from ≤ q) × (q < to) × (slice_index points q ≡ i) × (slice_index new i ≡ n))
