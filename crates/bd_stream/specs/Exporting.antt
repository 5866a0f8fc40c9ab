-- What an exporter asks, and what it writes for the replies.
use Rattle.std.specs.Prelude.{ℕ, ◌+◌, ◌-◌, Bool, true, ◌&&◌, List, [], ◌∷◌, ◌++◌, length, map, nat_le, nat_lt, ◌==◌, if◌then◌else◌, unwrap_or}
use Rattle.std.specs.Ordering.{nat_cmp, is_lt}
use Rattle.std.specs.Cmp.Lexicographic.{slice_cmp}
use Rattle.std.specs.declared.option.Option.{Option}
use Rattle.std.specs.declared.option.Option.TheVariants.{None, Some}
use Rattle.bd_limits.specs.Limits.{file_limit, mode_limit, read_limit, listing_limit}
use Rattle.bd_names.specs.Names.{is_name, parent_of}
use Rattle.bd_command.specs.declared.Command.{Command}
use Rattle.bd_command.specs.declared.Command.TheVariants.{Read, Stat, List as Ls}
use Rattle.bd_command.specs.declared.reply.Listed.{Listed}
use Rattle.bd_command.specs.declared.reply.Reply.{Reply}
use Rattle.bd_command.specs.declared.reply.Reply.TheVariants.{Done, Bytes, Dir, File, Names, Refused}
use Rattle.bd_stream.specs.declared.head.Head.{Head}
use Rattle.bd_stream.specs.declared.stage.Stage.{Stage}
use Rattle.bd_stream.specs.declared.stage.Stage.TheVariants.{Look, Piece, Inside, Beside, Whole, Absent, Overlong}
use Rattle.bd_stream.specs.Heads.{head_bytes}
use Rattle.bd_stream.specs.Importing.{Path, magic, short_path}

-- how far an export is: the exported path, the path below it that is asked about, what is asked there,
-- and names that are known to follow the last one of that path
pub record Export : Type 0 where
  pub top : Path
  pub below : Path
  pub stage : Stage
  pub names : List (List ℕ)

-- before anything is asked
abbrev pub begin : Path → Export
begin top = record { top = top; below = []; stage = Look; names = [] }

-- ---- what is asked

-- the last name of a path; `/` has none
abbrev pub last_name : Path → Option (List ℕ)
last_name [] = None
last_name (n ∷ []) = Some n
last_name (n ∷ m ∷ ns) = last_name (m ∷ ns)

-- the bytes of a file that are read together
abbrev pub piece_size : ℕ → ℕ
piece_size left = if nat_lt left read_limit then left else read_limit

-- the names in the directory around a path are asked, those after its last one
abbrev pub ask_beside : Path → Option Path → Option (List ℕ) → Option Command
ask_beside top None after = None
ask_beside top (Some around) after = Some (Ls (top ++ around) after)

abbrev pub asked_in : Stage → Export → Option Command
asked_in Look s = Some (Stat (s.top ++ s.below))
asked_in (Piece off left) s = Some (Read (s.top ++ s.below) off (piece_size left))
asked_in Inside s = Some (Ls (s.top ++ s.below) None)
asked_in Beside s = ask_beside s.top (parent_of s.below) (last_name s.below)
asked_in Whole s = None
asked_in Absent s = None
asked_in Overlong s = None

-- the command whose reply is wanted, if one is
abbrev pub asked : Export → Option Command
asked s = asked_in s.stage s

-- ---- where a reply leads

-- how far an export is, and the bytes that were written on the way
abbrev pub Move : Type 0
Move = Export × List ℕ

-- the same path at another stage, and nothing is written
abbrev pub at : Stage → Export → Export
at stage s = record { top = s.top; below = s.below; stage = stage; names = s.names }

abbrev pub stays_at : Stage → Export → Move
stays_at stage s = (at stage s, [])

-- bytes were written before
abbrev pub put : List ℕ → Move → Move
put bytes m = (m.0, bytes ++ m.1)

-- what comes after all that is at a path and below it: what stands beside it, and the end after the
-- exported path
abbrev pub closed_stage : Path → Stage
closed_stage [] = Whole
closed_stage (n ∷ ns) = Beside

abbrev pub closed_bytes : Path → List ℕ
closed_bytes [] = 69 ∷ []
closed_bytes (n ∷ ns) = []

abbrev pub closed : Export → Path → Move
closed s path = (record { top = s.top; below = path; stage = closed_stage path; names = [] }, closed_bytes path)

-- the next entry is looked at, where its path in the tree is short
abbrev pub next_at : Export → Path → List (List ℕ) → Option Path → Move
next_at s below names None = stays_at Overlong s
next_at s below names (Some path) =
    (record { top = s.top; below = below; stage = Look; names = names }, [])

-- the next entry is the one of a name in a directory
abbrev pub next_in : Export → Path → List ℕ → List (List ℕ) → Move
next_in s around name names =
    next_at s (around ++ name ∷ []) names (short_path (s.top ++ (around ++ name ∷ [])))

-- the first of a directory's names comes next; without names it is closed
abbrev pub listed : Export → Path → List (List ℕ) → Move
listed s around [] = closed s around
listed s around (n ∷ ns) = next_in s around n ns

-- after a file the next name comes that is known; without one the names are asked
abbrev pub filed_in : Export → Option Path → List (List ℕ) → Move
filed_in s None names = closed s s.below
filed_in s (Some around) [] = closed s s.below
filed_in s (Some around) (n ∷ ns) = next_in s around n ns

abbrev pub filed : Export → Move
filed s = filed_in s (parent_of s.below) s.names

-- ---- what stands at the path

-- the head that the reply to a `stat` gives, where it can be one
abbrev pub head_in : Path → Reply → Option Head
head_in path Done = None
head_in path (Bytes bytes) = None
head_in path (Dir mode) =
    if nat_le mode mode_limit then Some (record { path = path; mode = mode; len = None }) else None
head_in path (File len mode) =
    if nat_le mode mode_limit && nat_le len file_limit
    then Some (record { path = path; mode = mode; len = Some len }) else None
head_in path (Names listing) = None
head_in path (Refused refusal) = None

-- the stream's first bytes stand before the exported path's own entry
abbrev pub magic_before : Path → List ℕ
magic_before [] = magic
magic_before (n ∷ ns) = []

-- bytes of a file are left, or none are
abbrev pub left_at : Export → ℕ → ℕ → Move
left_at s off left = if left == 0 then filed s else stays_at (Piece off left) s

abbrev pub after_head : Export → Option ℕ → Move
after_head s None =
    (record { top = s.top; below = s.below; stage = Inside; names = [] }, [])
after_head s (Some len) = left_at s 0 len

abbrev pub looked_at : Export → Option Head → Move
looked_at s None = stays_at Absent s
looked_at s (Some head) = put (magic_before head.path ++ head_bytes head) (after_head s head.len)

-- ---- the bytes of a file

-- the bytes that the reply to a `read` gives, where they are so many
abbrev pub piece_in : ℕ → Reply → Option (List ℕ)
piece_in size Done = None
piece_in size (Bytes bytes) = if length bytes == size then Some bytes else None
piece_in size (Dir mode) = None
piece_in size (File len mode) = None
piece_in size (Names listing) = None
piece_in size (Refused refusal) = None

abbrev pub pieced : Export → ℕ → ℕ → Option (List ℕ) → Move
pieced s off left None = stays_at Absent s
pieced s off left (Some bytes) =
    put bytes (left_at s (off + length bytes) (left - length bytes))

-- ---- the names in a directory

-- names that rise above one
abbrev pub are_rising : List ℕ → List Listed → Bool
are_rising after [] = true
are_rising after (l ∷ ls) =
    (is_name l.name && is_lt (slice_cmp nat_cmp after l.name)) && are_rising l.name ls

-- just as many as a listing may have where more names follow, and else at most so many
abbrev pub is_count : Bool → ℕ → Bool
is_count more count = if more then count == listing_limit else nat_le count listing_limit

-- the names that the reply to a `list` gives, where it can be one
abbrev pub names_after : List ℕ → Reply → Option (List (List ℕ))
names_after after Done = None
names_after after (Bytes bytes) = None
names_after after (Dir mode) = None
names_after after (File len mode) = None
names_after after (Names listing) =
    if is_count listing.more (length listing.names) && are_rising after listing.names
    then Some (map (λ l. l.name) listing.names) else None
names_after after (Refused refusal) = None

abbrev pub named : Export → Option Path → Option (List (List ℕ)) → Move
named s None names = stays_at Absent s
named s (Some around) None = stays_at Absent s
named s (Some around) (Some names) = listed s around names

-- ---- a reply

abbrev pub answered_in : Stage → Export → Reply → Move
answered_in Look s r = looked_at s (head_in s.below r)
answered_in (Piece off left) s r = pieced s off left (piece_in (piece_size left) r)
answered_in Inside s r = named s (Some s.below) (names_after [] r)
answered_in Beside s r =
    named s (parent_of s.below) (names_after (unwrap_or (last_name s.below) []) r)
answered_in Whole s r = stays_at Absent s
answered_in Absent s r = stays_at Absent s
answered_in Overlong s r = stays_at Overlong s

-- where the reply to what was asked leads, and what is written
abbrev pub answered : Export → Reply → Move
answered s r = answered_in s.stage s r
