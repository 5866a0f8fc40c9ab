-- The tree that commands are about: a finite map from paths to directories and files, each with its
-- mode.
use Rattle.std.specs.Prelude.{◌≡◌, ℕ, ◌<◌, ◌≤◌, Bool, true, false, List, [], ◌∷◌, ◌++◌, length, IsSome, IfSome, IsTrue, refl}
use Rattle.std.specs.List.{AllByRecursion}
use Rattle.std.specs.Ordering.{nat_cmp}
use Rattle.std.specs.Cmp.Lexicographic.{slice_cmp}
use Rattle.std.specs.declared.cmp.Ordering.{Ordering}
use Rattle.std.specs.declared.option.Option.{Option}
use Rattle.std.specs.declared.option.Option.TheVariants.{None, Some}
use Rattle.std.specs.FinMap.{FinMap, get, from_entries, code}
use Rattle.std.specs.Coded.{Coded, code_by, coded×, coded_list, coded_option, coded_ℕ}
use Rattle.bd_limits.specs.Limits.{file_limit, mode_limit}
use Rattle.bd_names.specs.Names.{AreNames}

-- a directory with its mode, or a file with its mode and its bytes
pub data Entry : Type 0 where
  Directory : (mode : ℕ) → Entry
  FileWith : (mode : ℕ) (bytes : List ℕ) → Entry

-- a name is seen as its bytes
abbrev pub Name : Type 0
Name = List ℕ

-- a path is seen as the list of its names
abbrev pub Path : Type 0
Path = List Name

-- names in the order of their bytes, and paths in the order of their names
abbrev pub path_cmp : Path → Path → Ordering
path_cmp = slice_cmp (slice_cmp nat_cmp)

-- what stands at each path
abbrev pub Tree : Type 0
Tree = FinMap path_cmp Entry

-- ---- how a tree is stored as a value

-- the mode, and the bytes of a file and none of a directory
abbrev pub entry_parts : Entry → ℕ × Option (List ℕ)
entry_parts (Directory mode) = (mode, None)
entry_parts (FileWith mode bytes) = (mode, Some bytes)

-- the entry that these tell apart
abbrev pub entry_with : ℕ × Option (List ℕ) → Entry
entry_with (mode, None) = Directory mode
entry_with (mode, Some bytes) = FileWith mode bytes

-- each entry is told by them
pub entry_with-entry_parts : (e : Entry) → entry_with (entry_parts e) ≡ e
entry_with-entry_parts (Directory mode) = refl
entry_with-entry_parts (FileWith mode bytes) = refl

-- how an entry is stored
abbrev pub coded_entry : Coded Entry
coded_entry =
    code_by (ℕ × Option (List ℕ)) (coded× coded_ℕ (coded_option (coded_list coded_ℕ)))
    entry_parts entry_with entry_with-entry_parts

-- how a tree is stored
abbrev pub coded_tree : Coded Tree
coded_tree = code (coded_list (coded_list coded_ℕ)) coded_entry

-- ---- which trees there are

-- the tree of `/` alone
abbrev pub root_only : Tree
root_only = from_entries (([], Directory 0) ∷ [])

-- an entry is a directory
abbrev pub is_directory : Entry → Bool
is_directory (Directory mode) = true
is_directory (FileWith mode bytes) = false

-- a directory is there
abbrev pub has_directory : Option Entry → Bool
has_directory None = false
has_directory (Some e) = is_directory e

-- a mode of twelve bits, and at most `file_limit` bytes
abbrev pub IsEntry : Entry → Type 0
IsEntry (Directory mode) = mode ≤ mode_limit
IsEntry (FileWith mode bytes) =
    (length bytes ≤ file_limit) × AllByRecursion (λ b. b < 256) bytes × (mode ≤ mode_limit)

-- `/` is a directory, the parent of each other path is one, and each path is made of names
pub record IsTree (t : Tree) : Type 0 where
  pub root : IsTrue (has_directory (get t []))
  pub parents : (path : Path) (name : Name) → IsSome (get t (path ++ name ∷ []))
      → IsTrue (has_directory (get t path))
  pub names : (path : Path) → IsSome (get t path) → AreNames path
  pub entries : (path : Path) → IfSome (get t path) IsEntry
