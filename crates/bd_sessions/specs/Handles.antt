-- What the numbers of handles stand for.
use Rattle.std.specs.Prelude.{ℕ, Bool, false, ◌&&◌, List, [], ◌∷◌, ◌++◌, map, replicate, slice_index_or, if◌then◌else◌}
use Rattle.std.specs.declared.option.Option.{Option}
use Rattle.std.specs.declared.option.Option.TheVariants.{None, Some}
use Rattle.bd_command.specs.Command.{writes, is_done}
use Rattle.bd_command.specs.declared.Command.{Command}
use Rattle.bd_model.specs.Tree.{Path}
use Rattle.bd_script.specs.declared.replies.LineReply.{LineReply}
use Rattle.bd_script.specs.declared.replies.LineReply.TheVariants.{Command as CommandReply, Unread, Walk, Done, Free as FreeSlots, Full, Stopped}
use Rattle.bd_sessions.specs.declared.handle.Handle.{Handle}
use Rattle.bd_sessions.specs.declared.handle.Handle.TheVariants.{Free, At, Gone}
use Rattle.bd_sessions.specs.Following.{followed, follow}

-- how many clients there are
abbrev pub client_limit : ℕ
client_limit = 16

-- how many handles a client may have open
abbrev pub handle_limit : ℕ
handle_limit = 16

-- ---- handles

-- the handle of a file that is at a path, or that is gone
abbrev pub handle_of : Option Path → Handle
handle_of None = Gone
handle_of (Some path) = At path

-- what a number stands for after a command that was accepted
abbrev pub followed_handle : Command → Handle → Handle
followed_handle c Free = Free
followed_handle c (At path) = handle_of (followed c path)
followed_handle c Gone = Gone

-- what a client's numbers stand for
abbrev pub Table : Type 0
Table = List Handle

-- what each client's numbers stand for
abbrev pub Tables : Type 0
Tables = List Table

-- what all numbers stand for after a command that was accepted
abbrev pub followed_tables : Command → Tables → Tables
followed_tables c tables = map (map (followed_handle c)) tables

-- the table of a client; a client that isn't there has an empty one
abbrev pub own : ℕ → Tables → Table
own client tables = slice_index_or tables client []

-- the handle of a number; one that no handle can have is free
abbrev pub handle_at : Table → ℕ → Handle
handle_at table number = slice_index_or table number Free

-- nothing is open
abbrev pub no_tables : Tables
no_tables = replicate client_limit (replicate handle_limit Free)

-- ---- what the model keeps of handles

-- an open handle: the path at which it was opened, and the commands that were accepted since
pub record Opening : Type 0 where
  pub path : Path
  pub since : List Command

-- what the model keeps of a client's numbers; none of those that aren't open
abbrev pub Row : Type 0
Row = List (Option Opening)

-- what the model keeps of each client's numbers
abbrev pub Kept : Type 0
Kept = List Row

-- nothing is open
abbrev pub no_handles : Kept
no_handles = replicate client_limit (replicate handle_limit None)

-- a handle that is opened at a path
abbrev pub opening_at : Path → Option Opening
opening_at p = Some (record { path = p; since = [] })

-- what a number stands for
abbrev pub stands_for : Option Opening → Handle
stands_for None = Free
stands_for (Some o) = handle_of (follow o.path o.since)

-- a handle after one more command that was accepted
abbrev pub one_more : Command → Option Opening → Option Opening
one_more c None = None
one_more c (Some o) = Some (record { path = o.path; since = o.since ++ c ∷ [] })

-- what is kept of a client's numbers
abbrev pub row_of : ℕ → Kept → Row
row_of client kept = slice_index_or kept client []

-- the table of a client
abbrev pub table_in : Kept → ℕ → Table
table_in kept client = map stands_for (row_of client kept)

-- the tables of all clients
abbrev pub tables_in : Kept → Tables
tables_in kept = map (map stands_for) kept

-- a command was accepted
abbrev pub is_accepted : Command → LineReply → Bool
is_accepted c (CommandReply reply) = writes c && is_done reply
is_accepted c (Unread refusal) = false
is_accepted c (Walk visits height) = false
is_accepted c Done = false
is_accepted c (FreeSlots free slots) = false
is_accepted c (Full free need) = false
is_accepted c Stopped = false

-- what is kept after a command and its reply: one that was accepted is heard by each open handle
abbrev pub heard : Command → LineReply → Kept → Kept
heard c reply kept = if is_accepted c reply then map (map (one_more c)) kept else kept
