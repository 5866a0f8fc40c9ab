-- What a turn asks for, and what it and the tree's reply do to handles.
use Rattle.std.specs.Prelude.{ℕ, Bool, true, false, length, slice_set, nat_lt, if◌then◌else◌, position, ⊤}
use Rattle.std.specs.declared.option.Option.{Option}
use Rattle.std.specs.declared.option.Option.TheVariants.{None, Some}
use Rattle.std.specs.declared.result.Result.{Result}
use Rattle.std.specs.declared.result.Result.TheVariants.{Ok, Err}
use Rattle.bd_limits.specs.Limits.{path_limit}
use Rattle.bd_names.specs.Names.{path_text}
use Rattle.bd_command.specs.Command.{is_done, IsCommand}
use Rattle.bd_command.specs.declared.Command.{Command}
use Rattle.bd_command.specs.declared.Command.TheVariants as command
use Rattle.bd_command.specs.declared.reply.Reply.{Reply}
use Rattle.bd_command.specs.declared.reply.Reply.TheVariants as reply
use Rattle.bd_model.specs.Tree.{Path}
use Rattle.bd_script.specs.Lines.{IsLine}
use Rattle.bd_script.specs.declared.denial.Denial.{Denial}
use Rattle.bd_script.specs.declared.denial.Denial.TheVariants as denial
use Rattle.bd_script.specs.declared.line.Line.{Line}
use Rattle.bd_script.specs.declared.line.Line.TheVariants as line
use Rattle.bd_sessions.specs.declared.asking.Ask.{Ask}
use Rattle.bd_sessions.specs.declared.asking.Ask.TheVariants.{Do, Service, Closed, No}
use Rattle.bd_sessions.specs.declared.asking.SessionReply.{SessionReply}
use Rattle.bd_sessions.specs.declared.asking.SessionReply.TheVariants as said
use Rattle.bd_sessions.specs.declared.handle.Handle.{Handle}
use Rattle.bd_sessions.specs.declared.handle.Handle.TheVariants.{Free, At, Gone}
use Rattle.bd_sessions.specs.declared.turn.Turn.{Turn}
use Rattle.bd_sessions.specs.declared.turn.Turn.TheVariants.{Plain, Open, Read, Write, Stat, Close}
use Rattle.bd_sessions.specs.Handles.{Table, Tables, own, handle_at, followed_tables}

-- ---- what a turn asks for

-- what a line of a script asks for: a command, or else the line itself
abbrev pub ask_of_line : Line → Ask
ask_of_line (line.Run c) = Do c
ask_of_line line.Walk = Service line.Walk
ask_of_line line.Df = Service line.Df
ask_of_line line.Sync = Service line.Sync
ask_of_line line.Checkpoint = Service line.Checkpoint
ask_of_line line.Reclaim = Service line.Reclaim
ask_of_line line.Stop = Service line.Stop

-- a path is longer than one in a command may be
abbrev pub is_long : Path → Bool
is_long path = nat_lt path_limit (length (path_text path))

-- the path of a handle's file for a command, or the first denial that holds
abbrev pub path_of_handle : Handle → Result Path Denial
path_of_handle Free = Err denial.NoHandle
path_of_handle Gone = Err denial.Gone
path_of_handle (At path) = if is_long path then Err denial.LongPath else Ok path

-- a command at a path, or a denial
abbrev pub ask_at : (Path → Command) → Result Path Denial → Ask
ask_at at (Ok path) = Do (at path)
ask_at at (Err denial) = No denial

-- a command at the path of a handle's file
abbrev pub at_handle : (Path → Command) → Handle → Ask
at_handle at handle = ask_at at (path_of_handle handle)

-- a handle can be closed where it is open, a gone one too
abbrev pub closing : Handle → Ask
closing Free = No denial.NoHandle
closing (At path) = Closed
closing Gone = Closed

-- what a turn asks for, by the client's own table alone
abbrev pub asked : Table → Turn → Ask
asked table (Plain line) = ask_of_line line
asked table (Open path) = Do (command.Stat path)
asked table (Read handle off len) =
    at_handle (λ p. command.Read p off len) (handle_at table handle)
asked table (Write handle off bytes) =
    at_handle (λ p. command.Write p off bytes) (handle_at table handle)
asked table (Stat handle) = at_handle command.Stat (handle_at table handle)
asked table (Close handle) = closing (handle_at table handle)

-- what is asked for is within its limits
abbrev pub IsAsk : Ask → Type 0
IsAsk (Do c) = IsCommand c
IsAsk (Service line) = IsLine line
IsAsk Closed = ⊤
IsAsk (No denial) = ⊤

-- ---- before the reply

-- a client's table after its turn
abbrev pub after_turn : Turn → Table → Table
after_turn (Plain line) table = table
after_turn (Open path) table = table
after_turn (Read handle off len) table = table
after_turn (Write handle off bytes) table = table
after_turn (Stat handle) table = table
after_turn (Close handle) table = slice_set table handle Free

-- all tables once a turn was prepared: the client's own alone may change
abbrev pub prepared : ℕ → Turn → Tables → Tables
prepared client turn tables = slice_set tables client (after_turn turn (own client tables))

-- what waits for the reply of the tree: what handles come to where it accepts a command, or a
-- handle that a client opens at a path
pub data Waits : Type 0 where
  Runs : (next : Tables) → Waits
  Opens : (client : ℕ) (path : Path) → Waits

-- what waits for the reply to a command that a turn asks for
abbrev pub waits_on : ℕ → Turn → Command → Tables → Waits
waits_on client (Plain line) c tables = Runs (followed_tables c tables)
waits_on client (Open path) c tables = Opens client path
waits_on client (Read handle off len) c tables = Runs (followed_tables c tables)
waits_on client (Write handle off bytes) c tables = Runs (followed_tables c tables)
waits_on client (Stat handle) c tables = Runs (followed_tables c tables)
waits_on client (Close handle) c tables = Runs (followed_tables c tables)

-- what waits where a command is asked for that opens nothing
abbrev pub runs_for : Ask → Tables → Option Waits
runs_for (Do c) tables = Some (Runs (followed_tables c tables))
runs_for (Service line) tables = None
runs_for Closed tables = None
runs_for (No denial) tables = None

-- what waits after a turn: nothing where it asks for no command
abbrev pub waits_for : ℕ → Turn → Ask → Tables → Option Waits
waits_for client turn (Do c) tables = Some (waits_on client turn c tables)
waits_for client turn (Service line) tables = None
waits_for client turn Closed tables = None
waits_for client turn (No denial) tables = None

-- ---- after the reply

-- a number stands for nothing
abbrev pub is_free : Handle → Bool
is_free Free = true
is_free (At path) = false
is_free Gone = false

-- a file at a path is opened at a number
abbrev pub opened_at : Path → Option ℕ → Table → SessionReply × Table
opened_at path None table = (said.No denial.HandlesFull, table)
opened_at path (Some number) table = (said.Opened number, slice_set table number (At path))

-- an open, by what the tree says of its path: a file gets the least free number
abbrev pub opened_in : Path → Reply → Table → SessionReply × Table
opened_in path reply.Done table = (said.Same, table)
opened_in path (reply.Bytes bytes) table = (said.Same, table)
opened_in path (reply.Dir mode) table = (said.IsDir, table)
opened_in path (reply.File len mode) table = opened_at path (position is_free table) table
opened_in path (reply.Names listing) table = (said.Same, table)
opened_in path (reply.Refused refusal) table = (said.Same, table)

-- a client's table is put back
abbrev pub put_in : ℕ → SessionReply × Table → Tables → SessionReply × Tables
put_in client answered tables = (answered.0, slice_set tables client answered.1)

-- what is said once the tree has replied, and all tables then
abbrev pub settled : Waits → Reply → Tables → SessionReply × Tables
settled (Runs next) reply tables = (said.Same, if is_done reply then next else tables)
settled (Opens client path) reply tables =
    put_in client (opened_in path reply (own client tables)) tables

-- what waits is settled; nothing changes where nothing waits
abbrev pub settled_if : Option Waits → Reply → Tables → SessionReply × Tables
settled_if None reply tables = (said.Same, tables)
settled_if (Some waits) reply tables = settled waits reply tables

-- ---- sessions

-- what the numbers of all clients stand for, and what waits for a reply
pub record Held : Type 0 where
  pub tables : Tables
  pub waits : Option Waits
