-- When a key map represents a tree.
use Rattle.std.specs.Prelude.{◌≡◌, ◌≢◌, ℕ, zero, suc, ◌+◌, ◌*◌, ◌^◌, ◌<◌, ◌≤◌, List, [], length, take, slice_index, Option, None, IsSome, IfSome}
use Rattle.std.specs.Option.{option_map, unwrap_or}
use Rattle.std.specs.FinMap.{get}
use Rattle.bd_limits.specs.Limits.{block_limit}
use Rattle.bd_keys.specs.Keys.{IsKey}
use Rattle.bd_names.specs.Names.{AreNames}
use Rattle.bd_model.specs.Tree.{Entry, Directory, FileWith, Tree}
use Rattle.bd_model.specs.Step.{file_bytes}
use Rattle.bd_records.specs.declared.Record.{Record}
use Rattle.bd_records.specs.declared.Record.TheVariants.{Dir, File}
use Rattle.bd_records.specs.Records.{record_bytes, IsBlock}
use Rattle.bd_message.specs.KeyMaps.{At}
use Rattle.bd_represent.specs.EntryKeys.{record_key, block_key, IsEntryKey}

-- the record of an entry
abbrev pub record_of : Entry → Record
record_of (Directory mode) = Dir mode
record_of (FileWith mode bytes) = File (length bytes) mode

-- what stands at the key of the record
abbrev pub record_value : Entry → List ℕ
record_value e = record_bytes (record_of e)

-- what is stored of a block, no bytes where nothing is
abbrev pub stored : At → List (List ℕ) → ℕ → List ℕ
stored at path i = unwrap_or (at (block_key path i)) []

-- what is left of a block where so many bytes of it are kept
abbrev pub kept_block : ℕ → Option (List ℕ) → Option (List ℕ)
kept_block zero block = None
kept_block (suc n) block = option_map (take (suc n)) block

-- a block of a file has 1 to 1,024 bytes, none past the end of the file
abbrev pub IsBlockOf : List ℕ → ℕ → List ℕ → Type 0
IsBlockOf file i block = IsBlock block × (block_limit * i + length block ≤ length file)

-- a file's byte is the stored one, or 0
pub record HasBytes (at : At) (path : List (List ℕ)) (file : List ℕ) : Type 0 where
  pub blocks : (i : ℕ) → i < 2 ^ 32 → IfSome (at (block_key path i)) (IsBlockOf file i)
  pub bytes : (i j : ℕ) → i < 2 ^ 32 → j < block_limit
      → slice_index file (block_limit * i + j) ≡ slice_index (stored at path i) j

-- there are no keys but those of records and blocks
abbrev pub HasOnlyEntries : At → Type 0
HasOnlyEntries at = (k : List ℕ) → IsKey k → IsSome (at k) → IsEntryKey k

-- each path of the tree has its record, each file its bytes, no other path has either, and there
-- are no other keys
pub record Represents (at : At) (t : Tree) : Type 0 where
  pub records : (path : List (List ℕ)) → AreNames path
      → at (record_key path) ≡ option_map record_value (get t path)
  pub files : (path : List (List ℕ)) → AreNames path → HasBytes at path (file_bytes (get t path))
  pub only : HasOnlyEntries at

-- the same stands at the record and the blocks of each other path
pub record IsSameBeside (path : List (List ℕ)) (old new : At) : Type 0 where
  pub records : (q : List (List ℕ)) → AreNames q → q ≢ path
      → new (record_key q) ≡ old (record_key q)
  pub blocks : (q : List (List ℕ)) (i : ℕ) → AreNames q → q ≢ path → i < 2 ^ 32
      → new (block_key q i) ≡ old (block_key q i)
