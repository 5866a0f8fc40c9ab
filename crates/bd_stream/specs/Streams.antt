-- The stream of a subtree, and the commands that make the subtree again.
use Rattle.std.specs.Prelude.{◌≡◌, ◌≢◌, ℕ, zero, suc, ◌+◌, Bool, true, List, [], ◌∷◌, ◌++◌, length, take, drop}
use Rattle.std.specs.List.{flat_map, AllByRecursion}
use Rattle.std.specs.declared.option.Option.{Option}
use Rattle.std.specs.declared.option.Option.TheVariants.{None, Some}
use Rattle.bd_limits.specs.Limits.{write_limit}
use Rattle.bd_command.specs.declared.Command.{Command}
use Rattle.bd_command.specs.declared.Command.TheVariants.{Write}
use Rattle.bd_command.specs.Command.{IsShortPath}
use Rattle.bd_model.specs.Tree.{Path, Entry, Directory, FileWith, Tree, is_directory}
use Rattle.bd_model.specs.Step.{Placed, moved, file_bytes}
use Rattle.bd_stream.specs.declared.head.Head.{Head}
use Rattle.bd_stream.specs.declared.machine.Phase.{Phase}
use Rattle.bd_stream.specs.declared.machine.Phase.TheVariants.{First, Next}
use Rattle.bd_stream.specs.Heads.{IsHead, head_bytes}
use Rattle.bd_stream.specs.Importing.{magic, head_commands, is_in_order}

-- the limit of a stream's bytes, where it is taken from outside
abbrev pub stream_limit : ℕ
stream_limit = 4294967296

-- how long a file is; a directory has no length
abbrev pub len_of : Entry → Option ℕ
len_of (Directory mode) = None
len_of (FileWith mode bytes) = Some (length bytes)

abbrev pub mode_of : Entry → ℕ
mode_of (Directory mode) = mode
mode_of (FileWith mode bytes) = mode

-- the head of what stands at a path
abbrev pub head_at : Placed → Head
head_at e = record { path = e.0; mode = mode_of e.1; len = len_of e.1 }

-- an entry as bytes: its head, and all bytes of a file
abbrev pub entry_bytes : Placed → List ℕ
entry_bytes e = head_bytes (head_at e) ++ file_bytes (Some e.1)

-- `BDX1`, the entries, and `E`
abbrev pub stream_bytes : List Placed → List ℕ
stream_bytes entries = magic ++ flat_map entry_bytes entries ++ 69 ∷ []

-- what stands at a path and below it, each with its path from there, in the order of the paths
abbrev pub entries_at : Tree → Path → List Placed
entries_at t path = moved path [] t

-- the stream of a tree at a path
abbrev pub stream_of : Tree → Path → List ℕ
stream_of t path = stream_bytes (entries_at t path)

-- ---- what is imported

-- bytes are written from an offset on, 2,048 at a time, at most so many times
abbrev pub writes_at : ℕ → Path → ℕ → List ℕ → List Command
writes_at zero path off bytes = []
writes_at (suc n) path off [] = []
writes_at (suc n) path off (b ∷ bytes) =
    Write path off (take write_limit (b ∷ bytes))
    ∷ writes_at n path (off + length (take write_limit (b ∷ bytes))) (drop write_limit (b ∷ bytes))

-- the commands that make an entry below a path
abbrev pub entry_commands : Path → Placed → List Command
entry_commands target e =
    head_commands (head_at e) (target ++ e.0)
    ++ writes_at (length (file_bytes (Some e.1))) (target ++ e.0) 0 (file_bytes (Some e.1))

-- an entry has a head, and its path below the target is short
pub record FitsBelow (target : Path) (e : Placed) : Type 0 where
  pub head : IsHead (head_at e)
  pub path : IsShortPath (target ++ e.0)

-- each entry may stand where it does
abbrev pub AreInOrder : Phase → Path → Bool → List Placed → Type 0
AreInOrder phase last is_dir [] = Unit {0}
AreInOrder phase last is_dir (e ∷ entries) =
    (is_in_order phase last is_dir e.0 ≡ true) × AreInOrder Next e.0 (is_directory e.1) entries

-- the entries are those of a stream, and fit below the target
pub record IsStreamFor (target : Path) (entries : List Placed) : Type 0 where
  pub some : entries ≢ []
  pub order : AreInOrder First [] true entries
  pub each : AllByRecursion (FitsBelow target) entries
