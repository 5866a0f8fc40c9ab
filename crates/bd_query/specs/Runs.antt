-- Entries in a row, taken up an edge and given on.
use Rattle.std.specs.Prelude.{◌≡◌, ◌<◌, ◌≤◌, slice_get, ℕ, zero, suc, ◌&&◌, Bool, true, if◌then◌else◌, List, [], ◌∷◌, ◌++◌, length, drop, Option, None, Some}
use Rattle.std.specs.Ordering.{is_lt}
use Rattle.bd_keys.specs.Keys.{key_cmp, IsBelow, IsAtLeast}
use Rattle.bd_message.specs.Effect.{begins}
use Rattle.bd_node.specs.declared.node.Entry.{Entry}
use Rattle.bd_scan.specs.declared.scan.Found.{Found}

-- the place of the first entry whose key isn't below this one
pub record IsFirstFrom (es : List Entry) (k : List ℕ) (place : ℕ) : Type 0 where
  pub within : place ≤ length es
  pub before : (i : ℕ) (e : Entry) → i < place → slice_get es i ≡ Some e → IsBelow e.key k
  pub from : (i : ℕ) (e : Entry) → place ≤ i → slice_get es i ≡ Some e → IsAtLeast e.key k

-- whether a key is below an end
abbrev pub is_before : List ℕ → Option (List ℕ) → Bool
is_before k None = true
is_before k (Some end) = is_lt (key_cmp k end)

-- the key above an edge that a key below it stands for: the bytes that the edge leaves out, and those
-- after its source
abbrev pub raised_key : List ℕ → List ℕ → List ℕ → List ℕ
raised_key shared source k = shared ++ drop (length source) k

-- an entry at the key above an edge
abbrev pub raised_entry : List ℕ → List ℕ → Entry → Entry
raised_entry shared source e = record { key = raised_key shared source e.key; value = e.value }

-- the entries above an edge, as many as a key above it stands for that is below the end
abbrev pub raised_run : Option (List ℕ) → List ℕ → List ℕ → List Entry → List Entry
raised_run end shared source [] = []
raised_run end shared source (e ∷ es) =
    if begins e.key source && is_before (raised_key shared source e.key) end
    then raised_entry shared source e ∷ raised_run end shared source es
    else []

-- what is found where entries are, as many as begin with a prefix and at most so many
abbrev pub found_of : ℕ → List ℕ → List Entry → List Found
found_of most within [] = []
found_of zero within (e ∷ es) = []
found_of (suc most) within (e ∷ es) =
    if begins e.key within
    then record { key = e.key; value = e.value } ∷ found_of most within es
    else []
