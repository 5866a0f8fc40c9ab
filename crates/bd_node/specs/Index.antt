-- Messages on one key and messages on ranges of keys, and where each stands.
use Rattle.std.specs.Prelude.{◌≡◌, ℕ, ◌<◌, ◌≤◌, ◌==◌, ◌&&◌, if◌then◌else◌, nat_lt, Bool, not, true, false, List, [], length, Option, None, Some, slice_get, slice_index}
use Rattle.std.specs.List.{list_any}
use Rattle.std.specs.declared.cmp.Ordering.{Ordering}
use Rattle.std.specs.Ordering.{nat_cmp, is_lt, ordering_then}
use Rattle.bd_keys.specs.Keys.{key_cmp, IsBelow, IsAtLeast}
use Rattle.bd_message.specs.declared.message.Message.{Message}
use Rattle.bd_message.specs.declared.message.Message.TheVariants.{Put, Del, Patch, Cut, Goto}
use Rattle.bd_node.specs.Touching.{touches}

-- ---- messages

-- the message is on one key
abbrev pub is_point : Message → Bool
is_point (Put key value) = true
is_point (Del key) = true
is_point (Patch key off bytes) = true
is_point (Cut prefix from) = false
is_point (Goto prefix source child) = false

-- the key that a message is on, and the empty one of a range
abbrev pub own_key : Message → List ℕ
own_key (Put key value) = key
own_key (Del key) = key
own_key (Patch key off bytes) = key
own_key (Cut prefix from) = []
own_key (Goto prefix source child) = []

-- there is a message, on one key
abbrev pub is_point_in : Option Message → Bool
is_point_in None = false
is_point_in (Some m) = is_point m

-- there is a message, on a range of keys
abbrev pub is_range_in : Option Message → Bool
is_range_in None = false
is_range_in (Some m) = not (is_point m)

-- the key of the message, if there is one
abbrev pub key_in : Option Message → List ℕ
key_in None = []
key_in (Some m) = own_key m

-- there is a message, and it can change what stands at the key
abbrev pub touches_in : Option Message → List ℕ → Bool
touches_in None k = false
touches_in (Some m) k = touches m k

-- the message at a place is on one key
abbrev pub is_point_at : List Message → ℕ → Bool
is_point_at list i = is_point_in (slice_get list i)

-- the message at a place is on a range of keys
abbrev pub is_range_at : List Message → ℕ → Bool
is_range_at list i = is_range_in (slice_get list i)

-- the key of the message at a place
abbrev pub key_at : List Message → ℕ → List ℕ
key_at list i = key_in (slice_get list i)

-- the message at a place can change what stands at the key
abbrev pub touches_at : List Message → ℕ → List ℕ → Bool
touches_at list i k = touches_in (slice_get list i) k

-- ---- the order of messages on one key

-- a key and a place: the lesser key first, and of one key the lesser place
abbrev pub spot_cmp : (List ℕ × ℕ) → (List ℕ × ℕ) → Ordering
spot_cmp a b = ordering_then (key_cmp a.0 b.0) (nat_cmp a.1 b.1)

-- the key of the message at a place, and the place
abbrev pub spot : List Message → ℕ → List ℕ × ℕ
spot list i = (key_at list i, i)

-- the first place's message comes before the key and place
abbrev pub is_before : List Message → ℕ → List ℕ × ℕ → Bool
is_before list i s = is_lt (spot_cmp (spot list i) s)

-- ---- the index

-- the places have one more than this among them
abbrev pub has : List ℕ → ℕ → Bool
has places i = list_any (λ x. x == i) places

-- each place is below the count, each but the last before the next one
pub record AreInOrder (list : List Message) (points : List ℕ) : Type 0 where
  pub each : (p q : ℕ) → p < q → q < length points
      → is_before list (slice_index points p) (spot list (slice_index points q)) ≡ true

-- the places of the messages on one key among the first so many, by key and place, and of the
-- others, rising: each once
pub record IsIndex (list : List Message) (count : ℕ) (points ranges : List ℕ) : Type 0 where
  pub known : count ≤ length list
  pub order : AreInOrder list points
  pub below : (q : ℕ) → q < length points → slice_index points q < count
  pub point : (q : ℕ) → q < length points → is_point_at list (slice_index points q) ≡ true
  pub all_points : (i : ℕ) → i < count → is_point_at list i ≡ true → has points i ≡ true
  pub rising : (p q : ℕ) → p < q → q < length ranges
      → slice_index ranges p < slice_index ranges q
  pub under : (q : ℕ) → q < length ranges → slice_index ranges q < count
  pub range : (q : ℕ) → q < length ranges → is_range_at list (slice_index ranges q) ≡ true
  pub all_ranges : (i : ℕ) → i < count → is_range_at list i ≡ true → has ranges i ≡ true

-- how many of the places come before a key and place
pub record IsPosition (list : List Message) (points : List ℕ) (s : List ℕ × ℕ) (at : ℕ) : Type 0
  where
    pub within : at ≤ length points
    pub before : (q : ℕ) → q < at → is_before list (slice_index points q) s ≡ true
    pub after : (q : ℕ) → at ≤ q → q < length points
        → is_before list (slice_index points q) s ≡ false

-- how many of rising places are below one
pub record IsCountBelow (ranges : List ℕ) (from at : ℕ) : Type 0 where
  pub within : at ≤ length ranges
  pub below : (q : ℕ) → q < at → slice_index ranges q < from
  pub over : (q : ℕ) → at ≤ q → q < length ranges → from ≤ slice_index ranges q

-- ---- what is asked

-- the place of the oldest message from a place on, among those of a kind, that can change what
-- stands at the key
abbrev pub IsNextAmong : (List Message → ℕ → Bool) → List Message → ℕ → List ℕ → Option ℕ → Type 0
IsNextAmong among list from k (Some place) =
    (from ≤ place) × (place < length list) × (touches_at list place k ≡ true)
    × ((i : ℕ) → from ≤ i → i < place → among list i ≡ true → touches_at list i k ≡ false)
IsNextAmong among list from k None =
    (i : ℕ) → from ≤ i → i < length list → among list i ≡ true → touches_at list i k ≡ false

-- the same of the newest one
abbrev pub IsNewestAmong : (List Message → ℕ → Bool) → List Message → ℕ → List ℕ → Option ℕ → Type 0
IsNewestAmong among list from k (Some place) =
    (from ≤ place) × (place < length list) × (touches_at list place k ≡ true)
    × ((i : ℕ) → place < i → i < length list → among list i ≡ true
    → touches_at list i k ≡ false)
IsNewestAmong among list from k None =
    (i : ℕ) → from ≤ i → i < length list → among list i ≡ true → touches_at list i k ≡ false

-- the place of the newest message from a place on that can change what stands at the key
abbrev pub IsNewestTouching : List Message → ℕ → List ℕ → Option ℕ → Type 0
IsNewestTouching list from k (Some place) =
    (from ≤ place) × (place < length list) × (touches_at list place k ≡ true)
    × ((i : ℕ) → place < i → i < length list → touches_at list i k ≡ false)
IsNewestTouching list from k None =
    (i : ℕ) → from ≤ i → i < length list → touches_at list i k ≡ false

-- the place of the first message from a place on that is on a range of keys
abbrev pub IsNextRange : List Message → ℕ → Option ℕ → Type 0
IsNextRange list from (Some place) =
    (from ≤ place) × (is_range_at list place ≡ true)
    × ((i : ℕ) → from ≤ i → i < place → is_range_at list i ≡ false)
IsNextRange list from None = (i : ℕ) → from ≤ i → is_range_at list i ≡ false

-- the place of a message from a place on that is on the least key above this one
abbrev pub IsNextPoint : List Message → ℕ → List ℕ → Option ℕ → Type 0
IsNextPoint list from k (Some place) =
    (from ≤ place) × (is_point_at list place ≡ true) × IsBelow k (key_at list place)
    × ((i : ℕ) → from ≤ i → is_point_at list i ≡ true → IsBelow k (key_at list i)
    → IsAtLeast (key_at list i) (key_at list place))
IsNextPoint list from k None =
    (i : ℕ) → from ≤ i → is_point_at list i ≡ true → IsAtLeast k (key_at list i)

-- the lesser of two places, and the one where there is one
abbrev pub first_of : Option ℕ → Option ℕ → Option ℕ
first_of None b = b
first_of (Some a) None = Some a
first_of (Some a) (Some b) = if nat_lt a b then Some a else Some b

-- the greater of two places, and the one where there is one
abbrev pub last_of : Option ℕ → Option ℕ → Option ℕ
last_of None b = b
last_of (Some a) None = Some a
last_of (Some a) (Some b) = if nat_lt a b then Some b else Some a

-- the message at a place is on a key above this one, and below that of the other place's
abbrev pub is_nearer : List Message → ℕ → List ℕ → Option ℕ → Bool
is_nearer list i k None = is_point_at list i && is_lt (key_cmp k (key_at list i))
is_nearer list i k (Some other) =
    is_point_at list i && is_lt (key_cmp k (key_at list i))
    && is_lt (key_cmp (key_at list i) (key_at list other))

-- the place of a message between two places that is on the least key above this one
abbrev pub IsNearest : List Message → ℕ → ℕ → List ℕ → Option ℕ → Type 0
IsNearest list from to k (Some place) =
    (from ≤ place) × (place < to) × (is_point_at list place ≡ true)
    × IsBelow k (key_at list place)
    × ((i : ℕ) → from ≤ i → i < to → is_point_at list i ≡ true → IsBelow k (key_at list i)
    → IsAtLeast (key_at list i) (key_at list place))
IsNearest list from to k None =
    (i : ℕ) → from ≤ i → i < to → is_point_at list i ≡ true → IsAtLeast k (key_at list i)
