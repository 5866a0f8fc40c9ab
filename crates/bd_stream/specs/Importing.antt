-- What an importer has of a stream, byte by byte, and the commands that it gives.
use Rattle.std.specs.Prelude.{ℕ, ◌+◌, ◌-◌, ◌<◌, ◌≤◌, Bool, true, false, not, ◌&&◌, ◌||◌, List, [], ◌∷◌, ◌++◌, length, slice_index, nat_le, nat_lt, ◌==◌, if◌then◌else◌, is_none, unwrap_or}
use Rattle.std.specs.Ordering.{is_lt}
use Rattle.std.specs.declared.option.Option.{Option}
use Rattle.std.specs.declared.option.Option.TheVariants.{None, Some}
use Rattle.bd_limits.specs.Limits.{path_limit, write_limit, file_limit}
use Rattle.bd_keys.specs.Keys.{key_cmp}
use Rattle.bd_names.specs.Names.{same_text, path_text, key_of, is_under, parent_of}
use Rattle.bd_command.specs.declared.Command.{Command}
use Rattle.bd_command.specs.declared.Command.TheVariants.{Mkdir, Create, Write, Chmod}
use Rattle.bd_stream.specs.declared.head.Head.{Head}
use Rattle.bd_stream.specs.declared.machine.Phase.{Phase}
use Rattle.bd_stream.specs.declared.machine.Phase.TheVariants.{Start, First, Next, Data, Ended, Bad, Long}
use Rattle.bd_stream.specs.declared.machine.Machine.{Machine}
use Rattle.bd_stream.specs.Heads.{is_kind, path_count, head_size, head_of}

-- a path is seen as the list of its names
abbrev pub Path : Type 0
Path = List (List ℕ)

-- what is known of a stream: what comes next, the last entry's path below the target and in the tree,
-- whether it is a directory, how many bytes of its file came and how many are to come, and the bytes
-- that aren't understood yet
pub record State : Type 0 where
  pub target : Path
  pub phase : Phase
  pub last : Path
  pub path : Path
  pub is_dir : Bool
  pub off : ℕ
  pub left : ℕ
  pub waiting : List ℕ

-- what a machine has
abbrev pub state_of : Machine → State
state_of m = record {
  target = m.target;
  phase = m.phase;
  last = m.last;
  path = m.path;
  is_dir = m.is_dir;
  off = m.off;
  left = m.left;
  waiting = m.waiting.items;
}

-- a state, and the commands given on the way to it
abbrev pub Turn : Type 0
Turn = State × List Command

-- before the first byte
abbrev pub start : Path → State
start target = record {
  target = target;
  phase = Start;
  last = [];
  path = target;
  is_dir = true;
  off = 0;
  left = 0;
  waiting = [];
}

-- the bytes `BDX1`
abbrev pub magic : List ℕ
magic = 66 ∷ 68 ∷ 88 ∷ 49 ∷ []

-- all bytes are understood, and something comes next
abbrev pub go : Phase → State → State
go phase s = record {
  target = s.target;
  phase = phase;
  last = s.last;
  path = s.path;
  is_dir = s.is_dir;
  off = s.off;
  left = s.left;
  waiting = [];
}

-- the same, and no command is given
abbrev pub quietly : Phase → State → Turn
quietly phase s = (go phase s, [])

-- ---- an entry

-- the parent of the next entry is the last one, which is a directory then, or above it
abbrev pub has_parent : Option Path → Path → Bool → Bool
has_parent None last is_dir = false
has_parent (Some parent) last is_dir = is_under parent last && (is_dir || not (is_under last parent))

-- the next entry may follow the last one: its key is above, and its parent came as a directory
abbrev pub follows : Path → Bool → Path → Bool
follows last is_dir path =
    has_parent (parent_of path) last is_dir && is_lt (key_cmp (key_of last) (key_of path))

abbrev pub is_root : Path → Bool
is_root [] = true
is_root (n ∷ ns) = false

-- an entry may stand here: the exported path's own comes first
abbrev pub is_in_order : Phase → Path → Bool → Path → Bool
is_in_order First last is_dir path = is_root path
is_in_order phase last is_dir path = follows last is_dir path

-- a path, where it is short enough for a command
abbrev pub short_path : Path → Option Path
short_path path = if nat_le (length (path_text path)) path_limit then Some path else None

-- what makes an entry of this length, or a directory
abbrev pub making : Option ℕ → Path → Command
making None path = Mkdir path
making (Some len) path = Create path

-- what gives it its mode
abbrev pub moding : ℕ → Path → List Command
moding mode path = if mode == 0 then [] else Chmod path mode ∷ []

-- what makes an entry without its bytes
abbrev pub head_commands : Head → Path → List Command
head_commands head path = making head.len path ∷ moding head.mode path

-- where so many bytes of a file are to come
abbrev pub phase_with : ℕ → Phase
phase_with left = if left == 0 then Next else Data

-- after an entry's head
abbrev pub entered : State → Head → Path → State
entered s head path = record {
  target = s.target;
  phase = phase_with (unwrap_or head.len 0);
  last = head.path;
  path = path;
  is_dir = is_none head.len;
  off = 0;
  left = unwrap_or head.len 0;
  waiting = [];
}

-- an entry's head is there, and its path in the tree is short or isn't
abbrev pub placed_turn : State → Head → Option Path → Turn
placed_turn s head None = quietly Long s
placed_turn s head (Some path) = (entered s head path, head_commands head path)

-- an entry's head is there, or none is
abbrev pub found_turn : State → Option Head → Turn
found_turn s None = quietly Bad s
found_turn s (Some head) =
    if is_in_order s.phase s.last s.is_dir head.path
    then placed_turn s head (short_path (s.target ++ head.path)) else quietly Bad s

-- a path of more bytes isn't read
abbrev pub is_long : List ℕ → Bool
is_long bytes = nat_lt 511 (path_count bytes)

-- after the first four bytes
abbrev pub first_phase : List ℕ → Phase
first_phase bytes = if same_text bytes magic then First else Bad

-- the stream may end where an entry came
abbrev pub end_phase : Phase → Phase
end_phase First = Bad
end_phase phase = Ended

-- the bytes of a head are there, by the first of them
abbrev pub tag_turn : ℕ → State → Turn
tag_turn tag s =
    if tag == 69 then quietly (end_phase s.phase) s
    else (if is_kind tag
    then (if is_long s.waiting then quietly Long s else found_turn s (head_of s.waiting))
    else quietly Bad s)

-- ---- the bytes of a file

-- so many bytes of a file came
abbrev pub given : State → ℕ → State
given s count = record {
  target = s.target;
  phase = phase_with (s.left - count);
  last = s.last;
  path = s.path;
  is_dir = s.is_dir;
  off = s.off + count;
  left = s.left - count;
  waiting = [];
}

-- they are written
abbrev pub data_turn : State → Turn
data_turn s = (given s (length s.waiting), Write s.path s.off s.waiting ∷ [])

-- ---- byte by byte

-- how many bytes of a head are to be there before it is looked at
abbrev pub head_need : List ℕ → ℕ
head_need bytes =
    if nat_lt (length bytes) 3 then (if is_kind (slice_index bytes 0) then 3 else 1)
    else (if is_long bytes then 3 else head_size bytes)

-- the bytes of a file that are written together
abbrev pub chunk_size : ℕ → ℕ
chunk_size left = if nat_lt left write_limit then left else write_limit

-- how many bytes are to be there
abbrev pub need : Phase → ℕ → List ℕ → ℕ
need Start left bytes = 4
need First left bytes = head_need bytes
need Next left bytes = head_need bytes
need Data left bytes = chunk_size left
need Ended left bytes = 1
need Bad left bytes = 1
need Long left bytes = 1

-- the bytes are there
abbrev pub turn_in : Phase → State → Turn
turn_in Start s = quietly (first_phase s.waiting) s
turn_in First s = tag_turn (slice_index s.waiting 0) s
turn_in Next s = tag_turn (slice_index s.waiting 0) s
turn_in Data s = data_turn s
turn_in Ended s = quietly Bad s
turn_in Bad s = quietly Bad s
turn_in Long s = quietly Long s

abbrev pub turn : State → Turn
turn s = turn_in s.phase s

-- one byte more waits
abbrev pub with_byte : State → ℕ → State
with_byte s b = record {
  target = s.target;
  phase = s.phase;
  last = s.last;
  path = s.path;
  is_dir = s.is_dir;
  off = s.off;
  left = s.left;
  waiting = s.waiting ++ b ∷ [];
}

-- it is looked at where as many wait as are needed
abbrev pub looked : State → Turn
looked s = if nat_lt (length s.waiting) (need s.phase s.left s.waiting) then (s, []) else turn s

-- after one byte
unfoldable pub taken : State → ℕ → Turn
taken s b = looked (with_byte s b)

-- after bytes
unfoldable pub fed : State → List ℕ → Turn
fed s [] = (s, [])
fed s (b ∷ bytes) =
    ((fed (taken s b).0 bytes).0, (taken s b).1 ++ (fed (taken s b).0 bytes).1)

-- fewer bytes wait than are needed, and no file is too long
pub record IsSound (s : State) : Type 0 where
  pub waits : length s.waiting < need s.phase s.left s.waiting
  pub fits : s.off + s.left ≤ file_limit
