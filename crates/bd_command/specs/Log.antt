-- Log records: how writing commands are encoded.
use Rattle.std.specs.Prelude.{◌≡◌, ℕ, ◌+◌, List, [], ◌∷◌, ◌++◌, Option, None, Some, IsTrue}
use Rattle.std.specs.Int.{w16, w32}
use Rattle.bd_limits.specs.Limits.{path_limit, write_limit}
use Rattle.bd_names.specs.Names.{path_text}
use Rattle.bd_wire.specs.Numbers.{be, FitsWidth}
use Rattle.bd_wire.specs.Text.{text16}
use Rattle.bd_wire.specs.Reading.{Unread, Reads}
use Rattle.bd_wire.specs.Encoding.{BeginsNone, FitsBoth, encode_both}
use Rattle.bd_command.specs.Command.{writes, IsShortPath, IsWritten, IsMode, IsCommand}
use Rattle.bd_command.specs.declared.Command.{Command}
use Rattle.bd_command.specs.declared.Command.TheVariants.{Mkdir, Create, Write, Truncate, Remove, Rename, Clone, Chmod, Read, Stat, List as Ls}

-- the commands that have a log record: the writing ones, with fields within their limits
abbrev pub IsLogged : Command → Type 0
IsLogged command = IsTrue (writes command) × IsCommand command

-- the text of a path, after its length
abbrev pub path16 : List (List ℕ) → List ℕ
path16 path = text16 (path_text path)

-- a first byte that says which command it is, and then its fields in order
abbrev pub command_bytes : Command → List ℕ
command_bytes (Mkdir path) = 1 ∷ path16 path
command_bytes (Create path) = 2 ∷ path16 path
command_bytes (Write path off bytes) = 3 ∷ path16 path ++ be w32 off ++ text16 bytes
command_bytes (Truncate path len) = 4 ∷ path16 path ++ be w32 len
command_bytes (Remove path) = 5 ∷ path16 path
command_bytes (Rename a b) = 6 ∷ path16 a ++ path16 b
command_bytes (Clone a b) = 7 ∷ path16 a ++ path16 b
command_bytes (Chmod path mode) = 8 ∷ path16 path ++ be w16 mode
command_bytes (Read path off len) = []
command_bytes (Stat path) = []
command_bytes (Ls path after) = []

-- the log record of a command: these bytes, after their length
abbrev pub log_record : Command → List ℕ
log_record command = text16 (command_bytes command)

-- the longest one, of a write
abbrev pub record_limit : ℕ
record_limit = 2 + 1 + 2 + path_limit + 4 + 2 + write_limit

-- the record of a command was read off the front, or none stands there and nothing was read
abbrev pub IsLogReadAs : Unread → Unread → Option Command → Type 0
IsLogReadAs old new (Some command) = IsLogged command × Reads old new (log_record command)
IsLogReadAs old new None = BeginsNone IsLogged log_record old.left × (new ≡ old)

-- a command that these bytes are, or there is none
abbrev pub IsCommandOf : List ℕ → Option Command → Type 0
IsCommandOf bytes (Some command) = IsLogged command × (bytes ≡ command_bytes command)
IsCommandOf bytes None = (command : Command) → IsLogged command → bytes ≡ command_bytes command → ⊥

-- ---- the fields of a command, by the kinds that there are

-- a path, a number of four bytes and what is written
abbrev pub FitsWrite : (List (List ℕ) × ℕ) × List ℕ → Type 0
FitsWrite = FitsBoth (FitsBoth IsShortPath (FitsWidth w32)) IsWritten

abbrev pub encode_write : (List (List ℕ) × ℕ) × List ℕ → List ℕ
encode_write = encode_both (encode_both path16 (be w32)) text16

-- a path and a number of four bytes
abbrev pub FitsTruncate : List (List ℕ) × ℕ → Type 0
FitsTruncate = FitsBoth IsShortPath (FitsWidth w32)

abbrev pub encode_truncate : List (List ℕ) × ℕ → List ℕ
encode_truncate = encode_both path16 (be w32)

-- a path and a mode
abbrev pub FitsChmod : List (List ℕ) × ℕ → Type 0
FitsChmod = FitsBoth IsShortPath IsMode

abbrev pub encode_chmod : List (List ℕ) × ℕ → List ℕ
encode_chmod = encode_both path16 (be w16)

-- two paths
abbrev pub FitsPaths : List (List ℕ) × List (List ℕ) → Type 0
FitsPaths = FitsBoth IsShortPath IsShortPath

abbrev pub encode_paths : List (List ℕ) × List (List ℕ) → List ℕ
encode_paths = encode_both path16 path16
