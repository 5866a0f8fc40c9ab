-- Entries merged with messages on one key each.
use Rattle.std.specs.Prelude.{◌≡◌, ◌≢◌, ℕ, ◌+◌, ◌≤◌, List, [], ◌∷◌, ◌++◌, length, take, drop, Option, None, Some, slice_get}
use Rattle.std.specs.List.{AllByRecursion, sum_by}
use Rattle.bd_keys.specs.Keys.{IsBelow, IsAtLeast}
use Rattle.bd_message.specs.declared.message.Message.{Message}
use Rattle.bd_message.specs.Effect.{NodesAt, acts}
use Rattle.bd_node.specs.declared.node.Entry.{Entry}
use Rattle.bd_node.specs.Index.{own_key}
use Rattle.bd_node.specs.Nodes.{entry_at}
use Rattle.bd_leaf.specs.Leaves.{AreEntries, entries_size}
use Rattle.bd_leaf.specs.Points.{growth}
use Rattle.bd_leaf.specs.declared.merging.Value.{Value}
use Rattle.bd_leaf.specs.declared.merging.Value.TheVariants.{Nothing, Lent, Made}

-- the bytes of a value that is lent or made, if there is one
abbrev pub bytes_of : Value → Option (List ℕ)
bytes_of Nothing = None
bytes_of (Lent bytes) = Some bytes.now
bytes_of (Made bytes) = Some bytes.items

-- what messages on one key each leave of entries: what they make of what stood at each key
pub record IsMerged (old : List Entry) (points : List Message) (new : List Entry) : Type 0 where
  pub entries : AreEntries new
  pub acted : (below : NodesAt) (k : List ℕ)
      → entry_at new k ≡ acts below points k (entry_at old k)
  pub size : entries_size new ≤ entries_size old + sum_by growth points

-- the entry of a key, if it has a value
abbrev pub entry_of : List ℕ → Option (List ℕ) → List Entry
entry_of key None = []
entry_of key (Some value) = record { key = key; value = value } ∷ []

-- how many entries that is
abbrev pub count_of : Option (List ℕ) → ℕ
count_of None = 0
count_of (Some value) = 1

-- the first so many of the rest went to the new entries: all that are below the key
pub record AreMoved (new rest : List Entry) (key : List ℕ) (newer : List Entry) (count : ℕ)
    : Type 0
  where
    pub within : count ≤ length rest
    pub moved : newer ≡ new ++ take count rest
    pub below : AllByRecursion (λ (e : Entry). IsBelow e.key key) newer
    pub least : AllByRecursion (λ (e : Entry). IsAtLeast e.key key) (drop count rest)

-- the entries begin with that of the key, if it has this value, and the others are above it
pub record IsTaken (entries : List Entry) (key : List ℕ) (old : Option (List ℕ)) : Type 0 where
  pub whole : entries ≡ entry_of key old ++ drop (count_of old) entries
  pub above : AllByRecursion (λ (e : Entry). IsBelow key e.key) (drop (count_of old) entries)

-- the first so many of the rest, and messages on a key, went into the new entries, which are all up
-- to the key
pub record IsStep (new rest : List Entry) (key : List ℕ) (own : List Message)
    (newer : List Entry) (count : ℕ) : Type 0
  where
    pub within : count ≤ length rest
    pub merged : IsMerged (new ++ rest) own (newer ++ drop count rest)
    pub upto : AllByRecursion (λ (e : Entry). IsAtLeast key e.key) newer

-- the messages before this place are on the key, at least one of them, and the next one isn't
pub record AreOwn (list : List Message) (key : List ℕ) (place : ℕ) : Type 0 where
  pub some : 1 ≤ place
  pub within : place ≤ length list
  pub own : AllByRecursion (λ (m : Message). own_key m ≡ key) (take place list)
  pub next : (m : Message) → slice_get list place ≡ Some m → own_key m ≢ key
