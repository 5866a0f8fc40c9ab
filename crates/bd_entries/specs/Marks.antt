-- What the last record that was seen says of the next key.
use Rattle.std.specs.Prelude.{◌≡◌, ◌≢◌, ℕ, ◌+◌, ◌*◌, ◌^◌, ◌<◌, ◌≤◌, Bool, true, false, IsTrue, List, [], ◌∷◌, ◌++◌, length, Option, None, Some, IsSome}
use Rattle.std.specs.Int.{w32}
use Rattle.std.specs.FinMap.{get}
use Rattle.bd_limits.specs.Limits.{block_limit}
use Rattle.bd_wire.specs.Numbers.{be}
use Rattle.bd_keys.specs.Keys.{IsAtLeast}
use Rattle.bd_names.specs.Names.{is_name, key_of}
use Rattle.bd_model.specs.Tree.{Path, Entry, Tree}
use Rattle.bd_records.specs.declared.Record.{Record}
use Rattle.bd_records.specs.declared.Record.TheVariants.{Dir, File}
use Rattle.bd_records.specs.Records.{IsRecord, IsBlock, record_bytes}
use Rattle.bd_message.specs.KeyMaps.{At}
use Rattle.bd_represent.specs.EntryKeys.{record_key}
use Rattle.bd_represent.specs.Represents.{record_of}
use Rattle.bd_entries.specs.declared.mark.Mark.{Mark}
use Rattle.bd_entries.specs.Fronts.{AllowsMode, IsTreeOf, before}

-- the mode that a record says
abbrev pub mode_of : Record → ℕ
mode_of (Dir mode) = mode
mode_of (File len mode) = mode

-- the record is a directory's
abbrev pub is_dir : Record → Bool
is_dir (Dir mode) = true
is_dir (File len mode) = false

-- the bytes encode the record, with a mode only where there are modes, or they encode none such
abbrev pub IsAllowedAs : Bool → List ℕ → Option Record → Type 0
IsAllowedAs has_modes bytes (Some r) =
    IsRecord r × AllowsMode has_modes (mode_of r) × (bytes ≡ record_bytes r)
IsAllowedAs has_modes bytes None =
    (r : Record) → IsRecord r → AllowsMode has_modes (mode_of r) → bytes ≢ record_bytes r

-- the bytes are a number of four bytes, or none
abbrev pub IsNumberIn : List ℕ → Option ℕ → Type 0
IsNumberIn bytes (Some n) = bytes ≡ be w32 n
IsNumberIn bytes None = (n : ℕ) → n < 2 ^ 32 → bytes ≢ be w32 n

-- the key is that of the numbered block of the file whose path has this key, or that of none
abbrev pub IsNumberOf : List ℕ → List ℕ → Option ℕ → Type 0
IsNumberOf path key (Some n) = key ≡ path ++ 0 ∷ 1 ∷ be w32 n
IsNumberOf path key None = (n : ℕ) → n < 2 ^ 32 → key ≢ path ++ 0 ∷ 1 ∷ be w32 n

-- a block of the file whose record was the last one: no byte of it is at or past the file's length
pub record IsBlockAt (mark : Mark) (key value : List ℕ) : Type 0 where
  pub len : ℕ
  pub mode : ℕ
  pub file : mark.entry ≡ File len mode
  pub number : ℕ
  pub small : number < 2 ^ 32
  pub key_is : key ≡ mark.path ++ 0 ∷ 1 ∷ be w32 number
  pub block : IsBlock value
  pub inside : block_limit * number + length value ≤ len

-- a path right below a directory that is the given path or above it, where that has this record
pub record IsChildOf (path : Path) (entry : Record) (child : Path) : Type 0 where
  pub parent : Path
  pub name : List ℕ
  pub below : Path
  pub child_is : child ≡ parent ++ name ∷ []
  pub path_is : path ≡ parent ++ below
  pub named : IsTrue (is_name name)
  pub kind : below ≡ [] → IsTrue (is_dir entry)

-- the last path of the tree, by the order of keys, and its record
pub record IsMarked (t : Tree) (mark : Mark) : Type 0 where
  pub path : Path
  pub entry : Entry
  pub has : get t path ≡ Some entry
  pub key_is : mark.path ≡ key_of path
  pub entry_is : mark.entry ≡ record_of entry
  pub last : (other : Path) → IsSome (get t other) → IsAtLeast (record_key path) (record_key other)

-- what stands below a key is what a tree has, and its last path is marked
pub record IsSeen (has_modes : Bool) (at : At) (low : List ℕ) (mark : Mark) : Type 0 where
  pub tree : Tree
  pub is : IsTreeOf has_modes (before at low) tree
  pub marked : IsMarked tree mark
