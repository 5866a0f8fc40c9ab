-- What is left to write of the stream of a tree, and what is known of the tree meanwhile.
use Rattle.std.specs.Prelude.{◌≡◌, ◌≢◌, ℕ, zero, suc, ◌+◌, ◌<◌, ◌≤◌, Bool, not, ◌&&◌, List, [], ◌∷◌, ◌++◌, length, map, drop, IsSome}
use Rattle.std.specs.List.{filter, flat_map}
use Rattle.std.specs.Ordering.{is_lt, is_le}
use Rattle.std.specs.FinMap.{get}
use Rattle.std.specs.declared.option.Option.{Option}
use Rattle.std.specs.declared.option.Option.TheVariants.{None, Some}
use Rattle.bd_limits.specs.Limits.{path_limit}
use Rattle.bd_names.specs.Names.{is_under, parent_of, path_text}
use Rattle.bd_command.specs.declared.Command.{Command}
use Rattle.bd_command.specs.declared.reply.Reply.{Reply}
use Rattle.bd_model.specs.Tree.{Path, Name, Entry, Directory, FileWith, Tree, path_cmp}
use Rattle.bd_model.specs.Step.{file_bytes, children, those_after, step}
use Rattle.bd_stream.specs.declared.stage.Stage.{Stage}
use Rattle.bd_stream.specs.declared.stage.Stage.TheVariants.{Look, Piece, Inside, Beside, Whole, Absent, Overlong}
use Rattle.bd_stream.specs.Streams.{entry_bytes, entries_at, stream_of}
use Rattle.bd_stream.specs.Exporting.{Export, Move, begin, last_name, magic_before, asked, answered}

-- ---- which entries are left

-- a path comes not before another one
abbrev pub from : Path → Path → Bool
from q p = is_le (path_cmp q p)

-- it comes after it
abbrev pub beyond : Path → Path → Bool
beyond q p = is_lt (path_cmp q p)

-- it comes after it and all that is below it
abbrev pub past : Path → Path → Bool
past q p = is_lt (path_cmp q p) && not (is_under q p)

-- the entries at a path and below it that are left, as bytes, and the end
abbrev pub ending : Tree → Path → (Path → Bool) → List ℕ
ending t top is_left = flat_map entry_bytes (filter (λ e. is_left e.0) (entries_at t top)) ++ 69 ∷ []

abbrev pub rest_in : Stage → Tree → Export → List ℕ
rest_in Look t s = magic_before s.below ++ ending t s.top (from s.below)
rest_in (Piece off left) t s =
    drop off (file_bytes (get t (s.top ++ s.below))) ++ ending t s.top (beyond s.below)
rest_in Inside t s = ending t s.top (beyond s.below)
rest_in Beside t s = ending t s.top (past s.below)
rest_in Whole t s = []
rest_in Absent t s = []
rest_in Overlong t s = []

-- what is left to write of the stream of a tree
abbrev pub rest_of : Tree → Export → List ℕ
rest_of t s = rest_in s.stage t s

-- ---- what is known of the tree

-- the names in a directory, after one where it is given
abbrev pub names_in : Tree → Path → Option Name → List Name
names_in t path after = map (λ l. l.name) (those_after after (children path t))

-- the names that are known are the first that follow the last one of the path
abbrev pub IsNext : Tree → Path → Option Path → Option Name → List Name → Type 0
IsNext t top None last names = names ≡ []
IsNext t top (Some around) last names =
    (more : List Name) × (names_in t (top ++ around) last ≡ names ++ more)

abbrev pub AreNext : Tree → Export → Type 0
AreNext t s = IsNext t s.top (parent_of s.below) (last_name s.below) s.names

-- what is looked at has a short path, and is there where it isn't the exported path itself
pub record IsLook (t : Tree) (s : Export) : Type 0 where
  pub there : s.below ≢ [] → IsSome (get t (s.top ++ s.below))
  pub short : length (path_text (s.top ++ s.below)) ≤ path_limit
  pub next : AreNext t s

-- a file is there, and so many of its bytes are left
pub record IsPiece (t : Tree) (s : Export) (off left : ℕ) : Type 0 where
  pub mode : ℕ
  pub bytes : List ℕ
  pub there : get t (s.top ++ s.below) ≡ Some (FileWith mode bytes)
  pub size : off + left ≡ length bytes
  pub some : 1 ≤ left
  pub next : AreNext t s

abbrev pub IsOnIn : Stage → Tree → Export → Type 0
IsOnIn Look t s = IsLook t s
IsOnIn (Piece off left) t s = IsPiece t s off left
IsOnIn Inside t s = (mode : ℕ) × (get t (s.top ++ s.below) ≡ Some (Directory mode))
IsOnIn Beside t s = (s.below ≢ []) × IsSome (get t (s.top ++ s.below))
IsOnIn Whole t s = IsSome (get t s.top)
IsOnIn Absent t s = get t s.top ≡ None
IsOnIn Overlong t s = IsSome (get t s.top)

-- an export is one of this tree
abbrev pub IsOn : Tree → Export → Type 0
IsOn t s = IsOnIn s.stage t s

-- ---- an answer

-- after what was written the entry comes whose path is too long
pub record IsLongNext (t : Tree) (top : Path) (left written : List ℕ) : Type 0 where
  pub below : Path
  pub entry : Entry
  pub there : get t (top ++ below) ≡ Some entry
  pub long : path_limit < length (path_text (top ++ below))
  pub after : List ℕ
  pub next : left ≡ written ++ (entry_bytes (below, entry) ++ after)

-- of what was left to write a part was written, and the rest is left
abbrev pub Continues : Stage → Tree → List ℕ → Move → Type 0
Continues Look t left m = left ≡ m.1 ++ rest_of t m.0
Continues (Piece off n) t left m = left ≡ m.1 ++ rest_of t m.0
Continues Inside t left m = left ≡ m.1 ++ rest_of t m.0
Continues Beside t left m = left ≡ m.1 ++ rest_of t m.0
Continues Whole t left m = left ≡ m.1
Continues Absent t left m = m.1 ≡ []
Continues Overlong t left m = IsLongNext t m.0.top left m.1

-- an answer of this tree leads on
pub record GoesOn (t : Tree) (s : Export) (m : Move) : Type 0 where
  pub top : m.0.top ≡ s.top
  pub on : IsOn t m.0
  pub written : Continues m.0.stage t (rest_of t s) m

-- ---- all answers

-- a command is answered by the tree
abbrev pub next_by : Tree → Move → Option Command → Move
next_by t m None = m
next_by t m (Some c) =
    ((answered m.0 (step t c).1).0, m.1 ++ (answered m.0 (step t c).1).1)

-- so many commands are answered by the tree
abbrev pub answers : ℕ → Tree → Move → Move
answers zero t m = m
answers (suc n) t m = answers n t (next_by t m (asked m.0))

-- an export of a tree after so many answers
abbrev pub exported : ℕ → Tree → Path → Move
exported n t top = answers n t (begin top, [])

-- an export of a tree is on its way, or has ended: what it wrote is a front of the stream
pub record IsOnWay (t : Tree) (exported : Path) (m : Move) : Type 0 where
  pub top : m.0.top ≡ exported
  pub on : IsOn t m.0
  pub written : Continues m.0.stage t (stream_of t exported) m

-- so many replies were taken, whatever they are
abbrev pub after_replies : ℕ → (ℕ → Reply) → Export → Export
after_replies zero replies s = s
after_replies (suc n) replies s = after_replies n (λ k. replies (suc k)) (answered s (replies 0)).0
