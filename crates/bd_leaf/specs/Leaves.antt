-- The entries of a leaf after messages, and in two parts.
use Rattle.std.specs.Prelude.{◌≡◌, ℕ, ◌+◌, ◌<◌, ◌≤◌, List, ◌++◌, length, take, drop, true, false, Some, slice_get}
use Rattle.std.specs.List.{AllByRecursion, sum_by}
use Rattle.bd_limits.specs.Limits.{leaf_limit, batch_limit}
use Rattle.bd_keys.specs.Keys.{IsBelow, IsAtLeast}
use Rattle.bd_message.specs.declared.message.Message.{Message}
use Rattle.bd_message.specs.Messages.{size}
use Rattle.bd_message.specs.Effect.{NodesAt, begins, is_cut, acts}
use Rattle.bd_node.specs.declared.node.Entry.{Entry}
use Rattle.bd_node.specs.Nodes.{entry_at}
use Rattle.bd_node.specs.Shape.{entry_size, IsEntry, IsRising}
use Rattle.bd_leaf.specs.Places.{AreBelow}

-- a leaf's entries, however many: well-formed, in rising order
pub record AreEntries (entries : List Entry) : Type 0 where
  pub each : AllByRecursion IsEntry entries
  pub rising : IsRising entries

-- how many bytes entries count
abbrev pub entries_size : List Entry → ℕ
entries_size entries = sum_by entry_size entries

-- ---- messages

-- what messages leave of a leaf's entries: a leaf's entries that have at each key what the messages
-- make of what stood there, the first one first, and are larger by at most the messages' size
pub record IsReceived (old : List Entry) (list : List Message) (new : List Entry) : Type 0 where
  pub entries : AreEntries new
  pub acted : (below : NodesAt) (k : List ℕ) → entry_at new k ≡ acts below list k (entry_at old k)
  pub size : entries_size new ≤ entries_size old + sum_by size list

-- the entries between others that a Cut drops, and nothing else
pub record IsCovered (entries : List Entry) (prefix from : List ℕ) (old : List Entry) : Type 0
  where
    pub before : List Entry
    pub after : List Entry
    pub whole : entries ≡ before ++ (old ++ after)
    pub kept : AllByRecursion (λ (e : Entry). is_cut prefix from e.key ≡ false) before
    pub out : AllByRecursion (λ (e : Entry). is_cut prefix from e.key ≡ true) old
    pub later : AllByRecursion (λ (e : Entry). is_cut prefix from e.key ≡ false) after

-- the entry without so many bytes at the front of its key
abbrev pub without : ℕ → Entry → Entry
without count e = record { key = drop count e.key; value = e.value }

-- what a leaf has below a prefix: at each key what the old one has at the prefix and the key, and
-- no more bytes
pub record IsClipped (old : List Entry) (prefix : List ℕ) (new : List Entry) : Type 0 where
  pub entries : AreEntries new
  pub has : (k : List ℕ) → entry_at new k ≡ entry_at old (prefix ++ k)
  pub size : entries_size new ≤ entries_size old

-- the entries before this place are those whose keys are below this one
pub record IsStart (entries : List Entry) (key : List ℕ) (place : ℕ) : Type 0 where
  pub within : place ≤ length entries
  pub before : AreBelow entries place key
  pub after : (i : ℕ) (e : Entry) → place ≤ i → slice_get entries i ≡ Some e
      → IsAtLeast e.key key

-- the keys of the entries from one place up to another begin with the prefix, and the next one's
-- doesn't
pub record IsEnd (entries : List Entry) (start : ℕ) (prefix : List ℕ) (place : ℕ) : Type 0 where
  pub later : start ≤ place
  pub within : place ≤ length entries
  pub each : (i : ℕ) (e : Entry) → start ≤ i → i < place → slice_get entries i ≡ Some e
      → begins e.key prefix ≡ true
  pub next : (e : Entry) → slice_get entries place ≡ Some e → begins e.key prefix ≡ false

-- ---- halves

-- each key below the pivot has in the first part what it has in the whole, and each other key in
-- the second part
pub record AreApart (pivot : List ℕ) (whole first second : List Entry) : Type 0 where
  pub low : (k : List ℕ) → IsBelow k pivot → entry_at first k ≡ entry_at whole k
  pub high : (k : List ℕ) → IsAtLeast k pivot → entry_at second k ≡ entry_at whole k
  pub keys : AllByRecursion (λ (e : Entry). IsBelow e.key pivot) first

-- a place with entries on both sides, where both sides fit in a leaf if all fit in one that a batch
-- has just made larger
pub record IsMiddle (entries : List Entry) (place : ℕ) : Type 0 where
  pub some : 1 ≤ place
  pub within : place < length entries
  pub first : entries_size entries ≤ leaf_limit + batch_limit
      → entries_size (take place entries) ≤ leaf_limit
  pub second : entries_size entries ≤ leaf_limit + batch_limit
      → entries_size (drop place entries) ≤ leaf_limit
