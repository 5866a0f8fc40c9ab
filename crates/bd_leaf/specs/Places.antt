-- Where a key stands among entries.
use Rattle.std.specs.Prelude.{◌≡◌, ℕ, ◌<◌, ◌≤◌, List, length, None, Some, Result, Ok, Err, slice_get}
use Rattle.bd_keys.specs.Keys.{IsBelow}
use Rattle.bd_node.specs.declared.node.Entry.{Entry}
use Rattle.bd_node.specs.Nodes.{entry_at}

-- the keys of the entries before this place are below the key
abbrev pub AreBelow : List Entry → ℕ → List ℕ → Type 0
AreBelow entries place k =
    (i : ℕ) (e : Entry) → i < place → slice_get entries i ≡ Some e → IsBelow e.key k

-- the keys of the entries from this place on are above the key
abbrev pub AreAbove : List Entry → ℕ → List ℕ → Type 0
AreAbove entries place k =
    (i : ℕ) (e : Entry) → place ≤ i → slice_get entries i ≡ Some e → IsBelow k e.key

-- the place of the key's entry, the first one, or else the place before which all keys are below it
-- and from which on all are above it
abbrev pub IsPlace : List Entry → List ℕ → Result ℕ ℕ → Type 0
IsPlace entries k (Ok place) =
    (e : Entry) × (slice_get entries place ≡ Some e) × (e.key ≡ k)
    × (entry_at entries k ≡ Some e.value)
IsPlace entries k (Err place) =
    (place ≤ length entries) × AreBelow entries place k × AreAbove entries place k
    × (entry_at entries k ≡ None)
