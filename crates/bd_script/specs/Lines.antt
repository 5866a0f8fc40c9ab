-- A script's lines, and what each of them means.
use Rattle.std.specs.Prelude.{◌≡◌, ℕ, ◌+◌, ◌-◌, ◌*◌, Bool, true, false, not, ◌&&◌, List, [], ◌∷◌, ◌++◌, length, take, nat_le, ◌==◌, if◌then◌else◌, codes, fold, ⊤}
use Rattle.std.specs.Option.{ok_or}
use Rattle.std.specs.List.{All, slice_split, list_all, list_any}
use Rattle.std.specs.Char.{is_ascii_digit}
use Rattle.std.specs.declared.option.Option.{Option}
use Rattle.std.specs.declared.option.Option.TheVariants.{None, Some}
use Rattle.std.specs.declared.result.Result.{Result}
use Rattle.std.specs.declared.result.Result.TheVariants.{Ok, Err}
use Rattle.hex.specs.Hex.{decode_of}
use Rattle.hex.specs.declared.FromHexError.{FromHexError}
use Rattle.bd_limits.specs.Limits.{line_limit, read_limit, write_limit}
use Rattle.bd_names.specs.Names.{same_text, is_name, path_of}
use Rattle.bd_command.specs.Command.{IsCommand}
use Rattle.bd_command.specs.declared.Command.{Command}
use Rattle.bd_command.specs.declared.Command.TheVariants.{Mkdir, Create, Write, Truncate, Remove, Rename, Clone, Chmod, Read, Stat, List as Ls}
use Rattle.bd_command.specs.declared.refusal.Refusal.{Refusal}
use Rattle.bd_command.specs.declared.refusal.Refusal.TheVariants.{BadPath, BadLine}
use Rattle.bd_script.specs.declared.line.Line.{Line}
use Rattle.bd_script.specs.declared.line.Line.TheVariants.{Run, Walk, Df, Sync, Checkpoint, Reclaim, Stop}
use Rattle.bd_script.specs.declared.verb.Verb.{Verb}
use Rattle.bd_script.specs.declared.verb.Verb.TheVariants as verb

-- ---- cutting a script

-- no bytes
abbrev pub is_empty : List ℕ → Bool
is_empty [] = true
is_empty (b ∷ bs) = false

-- the pieces between the newlines
abbrev pub pieces : List ℕ → List (List ℕ)
pieces script = slice_split (λ b. b == 10) script

-- all pieces before the last one
abbrev pub all_but_last : List (List ℕ) → List (List ℕ)
all_but_last [] = []
all_but_last (x ∷ []) = []
all_but_last (x ∷ y ∷ more) = x ∷ all_but_last (y ∷ more)

-- the last piece
abbrev pub last_piece : List (List ℕ) → List ℕ
last_piece [] = []
last_piece (x ∷ []) = x
last_piece (x ∷ y ∷ more) = last_piece (y ∷ more)

-- the complete lines, each before its newline
abbrev pub whole_lines : List ℕ → List (List ℕ)
whole_lines script = all_but_last (pieces script)

-- what stands after the last newline
abbrev pub open_line : List ℕ → List ℕ
open_line script = last_piece (pieces script)

-- the complete lines, and a last one that isn't empty
abbrev pub lines_of : List ℕ → List (List ℕ)
lines_of script =
    whole_lines script ++ (if is_empty (open_line script) then [] else open_line script ∷ [])

-- without a newline
abbrev pub HasNoNewline : List ℕ → Type 0
HasNoNewline bytes = All (λ b. (b == 10) ≡ false) bytes

-- one byte more than a line may have
abbrev pub held_limit : ℕ
held_limit = line_limit + 1

-- the bytes that tell what a line means: past `line_limit` bytes it is a bad one, whatever they are
abbrev pub held : List ℕ → List ℕ
held line = take held_limit line

-- ---- what a line means

-- a path is seen as the list of its names
abbrev pub Path : Type 0
Path = List (List ℕ)

-- two paths
abbrev pub PathPair : Type 0
PathPair = Path × Path

-- a line, or why it is refused
abbrev pub LineMeaning : Type 0
LineMeaning = Result Line Refusal

-- what decimal digits come to
abbrev pub digits_value : List ℕ → ℕ
digits_value word = fold (λ n d. 10 * n + (d - 48)) 0 word

-- a zero before another byte
abbrev pub has_leading_zero : List ℕ → Bool
has_leading_zero [] = false
has_leading_zero (b ∷ []) = false
has_leading_zero (b ∷ c ∷ bs) = b == 48

-- `0` or digits without a leading zero, up to 4,294,967,295
abbrev pub is_number : List ℕ → Bool
is_number word =
    not (is_empty word) && (list_all is_ascii_digit word && (not (has_leading_zero word)
    && nat_le (digits_value word) 4294967295))

-- the number that a word is, if it is one
abbrev pub number_of : List ℕ → Option ℕ
number_of word = if is_number word then Some (digits_value word) else None

-- each is an octal digit
abbrev pub is_octal : ℕ → Bool
is_octal b = nat_le 48 b && nat_le b 55

abbrev pub are_octal : ℕ → ℕ → ℕ → ℕ → Bool
are_octal a b c d = is_octal a && (is_octal b && (is_octal c && is_octal d))

-- the mode that exactly four octal digits come to, if a word is those
abbrev pub mode_of : List ℕ → Option ℕ
mode_of (a ∷ b ∷ c ∷ d ∷ []) =
    if are_octal a b c d
    then Some (512 * (a - 48) + 64 * (b - 48) + 8 * (c - 48) + (d - 48)) else None
mode_of word = None

-- what pairs of hex digits encode, 1 to `write_limit` bytes
abbrev pub hex_result : Result (List ℕ) FromHexError → Option (List ℕ)
hex_result (Err e) = None
hex_result (Ok bytes) =
    if nat_le 1 (length bytes) && nat_le (length bytes) write_limit then Some bytes else None

-- the bytes that a word encodes, if it is such
abbrev pub hex_of : List ℕ → Option (List ℕ)
hex_of word = hex_result (decode_of word)

-- the line that goes on with what words are read as, or why there is none
abbrev pub with_path : Result Path Refusal → (Path → LineMeaning) → LineMeaning
with_path (Ok path) line = line path
with_path (Err refusal) line = Err refusal

-- the same with a number; a word that is none makes a bad line
abbrev pub with_number : Option ℕ → (ℕ → LineMeaning) → LineMeaning
with_number None line = Err BadLine
with_number (Some n) line = line n

-- the same with bytes; a word that encodes none makes a bad line
abbrev pub with_bytes : Option (List ℕ) → (List ℕ → LineMeaning) → LineMeaning
with_bytes None line = Err BadLine
with_bytes (Some bytes) line = line bytes

-- a line that runs a command
abbrev pub runs : Command → LineMeaning
runs command = Ok (Run command)

-- a word that has to be a path
abbrev pub path_in : List ℕ → Result Path Refusal
path_in word = ok_or (path_of word) BadPath

-- the one path that follows a verb
abbrev pub only_path : List (List ℕ) → Result Path Refusal
only_path (p ∷ []) = path_in p
only_path words = Err BadLine

-- two paths, or the first refusal
abbrev pub both_paths : Result Path Refusal → Result Path Refusal → Result PathPair Refusal
both_paths (Ok a) (Ok b) = Ok (a, b)
both_paths (Ok a) (Err refusal) = Err refusal
both_paths (Err refusal) second = Err refusal

-- the two paths that follow a verb
abbrev pub two_paths : List (List ℕ) → Result PathPair Refusal
two_paths (p ∷ q ∷ []) = both_paths (path_in p) (path_in q)
two_paths words = Err BadLine

-- a line of a command of one path
abbrev pub run_path : (Path → Command) → Result Path Refusal → LineMeaning
run_path command path = with_path path (λ p. runs (command p))

-- a line of a command of two paths
abbrev pub run_paths : (Path → Path → Command) → Result PathPair Refusal → LineMeaning
run_paths command (Ok paths) = runs (command paths.0 paths.1)
run_paths command (Err refusal) = Err refusal

-- what follows `write`: a path, an offset and bytes
abbrev pub line_of_write : List (List ℕ) → LineMeaning
line_of_write (p ∷ off ∷ hex ∷ []) =
    with_number (number_of off) (λ n.
    with_bytes (hex_of hex) (λ bytes. with_path (path_in p) (λ path. runs (Write path n bytes))))
line_of_write words = Err BadLine

-- what follows `truncate`: a path and a length
abbrev pub line_of_truncate : List (List ℕ) → LineMeaning
line_of_truncate (p ∷ len ∷ []) =
    with_number (number_of len) (λ n. with_path (path_in p) (λ path. runs (Truncate path n)))
line_of_truncate words = Err BadLine

-- what follows `chmod`: a path and a mode
abbrev pub line_of_chmod : List (List ℕ) → LineMeaning
line_of_chmod (p ∷ mode ∷ []) =
    with_number (mode_of mode) (λ m. with_path (path_in p) (λ path. runs (Chmod path m)))
line_of_chmod words = Err BadLine

-- what follows `read`: a path, an offset and how many bytes
abbrev pub line_of_read : List (List ℕ) → LineMeaning
line_of_read (p ∷ off ∷ len ∷ []) =
    with_number (number_of off) (λ n. with_number (number_of len) (λ m.
    if nat_le m read_limit then with_path (path_in p) (λ path. runs (Read path n m))
    else Err BadLine))
line_of_read words = Err BadLine

-- what follows `list`: a path, and maybe the name after which the listing begins
abbrev pub line_of_list : List (List ℕ) → LineMeaning
line_of_list (p ∷ []) = with_path (path_in p) (λ path. runs (Ls path None))
line_of_list (p ∷ name ∷ []) =
    with_path (path_in p) (λ path. if is_name name then runs (Ls path (Some name)) else Err BadPath)
line_of_list words = Err BadLine

-- a line of a verb alone: nothing follows it
abbrev pub alone : Line → List (List ℕ) → LineMeaning
alone line [] = Ok line
alone line (word ∷ words) = Err BadLine

-- the verb that a word is, if it is one
abbrev pub verb_of : List ℕ → Option Verb
verb_of word =
    if same_text word (codes "mkdir") then Some verb.Mkdir
    else if same_text word (codes "create") then Some verb.Create
    else if same_text word (codes "write") then Some verb.Write
    else if same_text word (codes "truncate") then Some verb.Truncate
    else if same_text word (codes "remove") then Some verb.Remove
    else if same_text word (codes "rename") then Some verb.Rename
    else if same_text word (codes "clone") then Some verb.Clone
    else if same_text word (codes "chmod") then Some verb.Chmod
    else if same_text word (codes "read") then Some verb.Read
    else if same_text word (codes "stat") then Some verb.Stat
    else if same_text word (codes "list") then Some verb.List
    else if same_text word (codes "walk") then Some verb.Walk
    else if same_text word (codes "df") then Some verb.Df
    else if same_text word (codes "sync") then Some verb.Sync
    else if same_text word (codes "checkpoint") then Some verb.Checkpoint
    else if same_text word (codes "reclaim") then Some verb.Reclaim
    else if same_text word (codes "stop") then Some verb.Stop
    else None

-- the line of a verb and the words after it
abbrev pub line_of_verb : Verb → List (List ℕ) → LineMeaning
line_of_verb verb.Mkdir words = run_path Mkdir (only_path words)
line_of_verb verb.Create words = run_path Create (only_path words)
line_of_verb verb.Write words = line_of_write words
line_of_verb verb.Truncate words = line_of_truncate words
line_of_verb verb.Remove words = run_path Remove (only_path words)
line_of_verb verb.Rename words = run_paths Rename (two_paths words)
line_of_verb verb.Clone words = run_paths Clone (two_paths words)
line_of_verb verb.Chmod words = line_of_chmod words
line_of_verb verb.Read words = line_of_read words
line_of_verb verb.Stat words = run_path Stat (only_path words)
line_of_verb verb.List words = line_of_list words
line_of_verb verb.Walk words = alone Walk words
line_of_verb verb.Df words = alone Df words
line_of_verb verb.Sync words = alone Sync words
line_of_verb verb.Checkpoint words = alone Checkpoint words
line_of_verb verb.Reclaim words = alone Reclaim words
line_of_verb verb.Stop words = alone Stop words

-- the line of a verb, if there is one
abbrev pub with_verb : Option Verb → List (List ℕ) → LineMeaning
with_verb None words = Err BadLine
with_verb (Some v) words = line_of_verb v words

-- the line that these words make
abbrev pub line_of_words : List (List ℕ) → LineMeaning
line_of_words [] = Err BadLine
line_of_words (word ∷ words) = with_verb (verb_of word) words

-- the words between the spaces
abbrev pub words_of : List ℕ → List (List ℕ)
words_of line = slice_split (λ b. b == 32) line

-- the line that these words make, if none of them is empty
abbrev pub line_of_parts : List (List ℕ) → LineMeaning
line_of_parts words = if list_any is_empty words then Err BadLine else line_of_words words

-- the one meaning of a line, which has at most `line_limit` bytes
unfoldable pub line_of : List ℕ → LineMeaning
line_of line =
    if nat_le (length line) line_limit then line_of_parts (words_of line) else Err BadLine

-- ---- lines of a script

-- the fields of a line's command are within their limits
abbrev pub IsLine : Line → Type 0
IsLine (Run command) = IsCommand command
IsLine Walk = ⊤
IsLine Df = ⊤
IsLine Sync = ⊤
IsLine Checkpoint = ⊤
IsLine Reclaim = ⊤
IsLine Stop = ⊤

-- the line is `stop`
abbrev pub is_stop : LineMeaning → Bool
is_stop (Ok (Run command)) = false
is_stop (Ok Walk) = false
is_stop (Ok Df) = false
is_stop (Ok Sync) = false
is_stop (Ok Checkpoint) = false
is_stop (Ok Reclaim) = false
is_stop (Ok Stop) = true
is_stop (Err refusal) = false

-- the lines up to the first `stop`, and that one
abbrev pub up_to_stop : List LineMeaning → List LineMeaning
up_to_stop [] = []
up_to_stop (l ∷ ls) = l ∷ (if is_stop l then [] else up_to_stop ls)
