-- Messages on ranges of keys, by the prefixes of their keys.
use Rattle.std.specs.Prelude.{◌≡◌, ℕ, suc, ◌+◌, ◌<◌, ◌≤◌, ◌&&◌, Bool, true, false, if◌then◌else◌, nat_lt, nat_le, List, [], ◌∷◌, length, Option, None, Some, slice_get, slice_index}
use Rattle.bd_keys.specs.Keys.{IsBelow, IsAtLeast}
use Rattle.bd_message.specs.declared.message.Message.{Message}
use Rattle.bd_message.specs.Effect.{begins}
use Rattle.bd_message.specs.Freeing.{stem}
use Rattle.bd_node.specs.Index.{is_range_at, touches_at, has, first_of, last_of}

-- the key of the message, or the prefix of its keys, if there is one
abbrev pub stem_in : Option Message → List ℕ
stem_in None = []
stem_in (Some m) = stem m

-- the same of the message at a place
abbrev pub stem_at : List Message → ℕ → List ℕ
stem_at list i = stem_in (slice_get list i)

-- the places of the messages on ranges of keys among the first so many, by the prefix of their keys
pub record AreByStem (list : List Message) (count : ℕ) (stems : List ℕ) : Type 0 where
  pub known : count ≤ length list
  pub order : (p q : ℕ) → p < q → q < length stems
      → IsAtLeast (stem_at list (slice_index stems q)) (stem_at list (slice_index stems p))
  pub below : (q : ℕ) → q < length stems → slice_index stems q < count
  pub range : (q : ℕ) → q < length stems → is_range_at list (slice_index stems q) ≡ true
  pub all : (i : ℕ) → i < count → is_range_at list i ≡ true → has stems i ≡ true

-- how many of the places have a prefix that isn't above a key
pub record IsUpTo (list : List Message) (stems k : List ℕ) (at : ℕ) : Type 0 where
  pub within : at ≤ length stems
  pub low : (q : ℕ) → q < at → IsAtLeast k (stem_at list (slice_index stems q))
  pub high : (q : ℕ) → at ≤ q → q < length stems → IsBelow k (stem_at list (slice_index stems q))

-- how long the longest beginning of a key is that isn't above a prefix
abbrev pub shared : List ℕ → List ℕ → ℕ
shared [] key = 0
shared (a ∷ own) [] = 0
shared (a ∷ own) (b ∷ key) =
    if nat_lt a b then 0 else (if nat_lt b a then suc (length key) else suc (shared own key))

-- of the places below one, none from another on has a prefix of the key, but for the last
pub record IsPassed (list : List Message) (stems k : List ℕ) (at before : ℕ) : Type 0 where
  pub less : before < at
  pub none : (q : ℕ) → before ≤ q → q + 1 < at
      → begins k (stem_at list (slice_index stems q)) ≡ false

-- the oldest message that can change what stands at the key, among those from a place on of which
-- the places stand from a spot on
abbrev pub IsOldestFrom : List Message → List ℕ → ℕ → ℕ → List ℕ → Option ℕ → Type 0
IsOldestFrom list stems at from k None =
    (q : ℕ) → at ≤ q → q < length stems → from ≤ slice_index stems q
    → touches_at list (slice_index stems q) k ≡ false
IsOldestFrom list stems at from k (Some place) =
    (from ≤ place) × (place < length list) × (touches_at list place k ≡ true)
    × ((q : ℕ) → at ≤ q → q < length stems → from ≤ slice_index stems q
    → slice_index stems q < place → touches_at list (slice_index stems q) k ≡ false)

-- the same of the newest one
abbrev pub IsNewestFrom : List Message → List ℕ → ℕ → ℕ → List ℕ → Option ℕ → Type 0
IsNewestFrom list stems at from k None =
    (q : ℕ) → at ≤ q → q < length stems → from ≤ slice_index stems q
    → touches_at list (slice_index stems q) k ≡ false
IsNewestFrom list stems at from k (Some place) =
    (from ≤ place) × (place < length list) × (touches_at list place k ≡ true)
    × ((q : ℕ) → at ≤ q → q < length stems → place < slice_index stems q
    → touches_at list (slice_index stems q) k ≡ false)

-- the place is not before another, and its message can change what stands at the key
abbrev pub is_found : List Message → ℕ → ℕ → List ℕ → Bool
is_found list place from k = nat_le from place && touches_at list place k

-- the older of one found before and the place, where its message is found too
abbrev pub older : List Message → ℕ → ℕ → List ℕ → Option ℕ → Option ℕ
older list place from k found =
    if is_found list place from k then first_of (Some place) found else found

-- the same of the newer one
abbrev pub newer : List Message → ℕ → ℕ → List ℕ → Option ℕ → Option ℕ
newer list place from k found =
    if is_found list place from k then last_of (Some place) found else found
