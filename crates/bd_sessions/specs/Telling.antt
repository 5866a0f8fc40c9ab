-- What follows from a turn: what is said, and the state after it.
use Rattle.std.specs.Prelude.{◌≡◌, ℕ, slice_set}
use Rattle.std.specs.declared.option.Option.TheVariants.{None}
use Rattle.std.specs.declared.result.Result.TheVariants.{Ok, Err}
use Rattle.bd_command.specs.declared.Command.{Command}
use Rattle.bd_model.specs.Tree.{Path}
use Rattle.bd_script.specs.declared.line.Line.{Line}
use Rattle.bd_script.specs.declared.replies.LineReply.{LineReply}
use Rattle.bd_script.specs.declared.replies.LineReply.TheVariants as line_reply
use Rattle.bd_sessions.specs.declared.asking.Ask.{Ask}
use Rattle.bd_sessions.specs.declared.asking.Ask.TheVariants as ask
use Rattle.bd_sessions.specs.declared.asking.SessionReply.{SessionReply}
use Rattle.bd_sessions.specs.declared.asking.SessionReply.TheVariants as said
use Rattle.bd_sessions.specs.declared.replies.TurnReply.{TurnReply}
use Rattle.bd_sessions.specs.declared.replies.TurnReply.TheVariants as turn_reply
use Rattle.bd_sessions.specs.declared.turn.Turn.{Turn}
use Rattle.bd_sessions.specs.declared.turn.Turn.TheVariants.{Plain, Open, Read, Write, Stat, Close}
use Rattle.bd_sessions.specs.Handles.{Table, Row, Kept, row_of, table_in, opening_at, heard}
use Rattle.bd_sessions.specs.Turns.{TurnMeaning}
use Rattle.bd_sessions.specs.Sessions.{asked, opened_in}
use Rattle.bd_sessions.specs.Replies.{own_reply}
use Rattle.bd_sessions.specs.Spoken.{Spoken, client_or_none}

-- ---- what is said, and what is kept of handles

-- what an open says where its `stat` was replied to in this way
abbrev pub open_said : Path → LineReply → Table → SessionReply
open_said path (line_reply.Command reply) table = (opened_in path reply table).0
open_said path (line_reply.Unread refusal) table = said.Same
open_said path (line_reply.Walk visits height) table = said.Same
open_said path line_reply.Done table = said.Same
open_said path (line_reply.Free free slots) table = said.Same
open_said path (line_reply.Full free need) table = said.Same
open_said path line_reply.Stopped table = said.Same

-- what a turn says of its own where its command was replied to in this way
abbrev pub turn_said : Turn → LineReply → Table → SessionReply
turn_said (Plain l) line table = said.Same
turn_said (Open path) line table = open_said path line table
turn_said (Read handle off len) line table = said.Same
turn_said (Write handle off bytes) line table = said.Same
turn_said (Stat handle) line table = said.Same
turn_said (Close handle) line table = said.Same

-- a client's row after an open that said this
abbrev pub opened_row : Path → SessionReply → Row → Row
opened_row path said.Same row = row
opened_row path said.IsDir row = row
opened_row path (said.Opened number) row = slice_set row number (opening_at path)
opened_row path (said.No denial) row = row

-- what is kept after an open of a client
abbrev pub opened_kept : ℕ → Path → LineReply → Kept → Kept
opened_kept client path line kept =
    slice_set kept client
    (opened_row path (open_said path line (table_in kept client)) (row_of client kept))

-- what is kept after a turn whose command was replied to in this way
abbrev pub turn_kept : ℕ → Turn → Command → LineReply → Kept → Kept
turn_kept client (Plain l) c line kept = heard c line kept
turn_kept client (Open path) c line kept = opened_kept client path line kept
turn_kept client (Read handle off len) c line kept = heard c line kept
turn_kept client (Write handle off bytes) c line kept = heard c line kept
turn_kept client (Stat handle) c line kept = heard c line kept
turn_kept client (Close handle) c line kept = heard c line kept

-- a client's row after its turn closed a handle
abbrev pub closed_row : Turn → Row → Row
closed_row (Plain l) row = row
closed_row (Open path) row = row
closed_row (Read handle off len) row = row
closed_row (Write handle off bytes) row = row
closed_row (Stat handle) row = row
closed_row (Close handle) row = slice_set row handle None

-- what is kept after a turn that closed a handle
abbrev pub closed_kept : ℕ → Turn → Kept → Kept
closed_kept client turn kept = slice_set kept client (closed_row turn (row_of client kept))

-- ---- what follows from a turn

-- what a command and another line of a script do, and how a state keeps handles
pub record Doing (S : Type 0) : Type 1 where
  pub answers : S → Command → LineReply → S → Type 0
  pub serves : S → Line → LineReply → S → Type 0
  pub kept : S → Kept
  pub keeping : Kept → S → S

-- the command of a turn was replied to, and then this was said and kept
pub record DoesCommand {S : Type 0} (d : Doing S) (s : S) (client : ℕ) (turn : Turn) (c : Command)
    (said : TurnReply) (after : S) : Type 0 where
  pub line : LineReply
  pub middle : S
  pub answered : d.answers s c line middle
  pub says : said ≡ own_reply (turn_said turn line (table_in (d.kept s) client)) line
  pub keeps : after ≡ d.keeping (turn_kept client turn c line (d.kept s)) middle

-- the line of a turn was replied to, and just this was said
pub record DoesService {S : Type 0} (d : Doing S) (s : S) (l : Line) (said : TurnReply) (after : S)
    : Type 0 where
  pub line : LineReply
  pub served : d.serves s l line after
  pub says : said ≡ turn_reply.Line line

-- what a turn of a client asks for was done, and this was said
abbrev pub DoesAsk : {S : Type 0} → Doing S → S → ℕ → Turn → Ask → TurnReply → S → Type 0
DoesAsk d s client turn (ask.Do c) said after = DoesCommand d s client turn c said after
DoesAsk d s client turn (ask.Service l) said after = DoesService d s l said after
DoesAsk d s client turn ask.Closed said after =
    (said ≡ turn_reply.Closed) × (after ≡ d.keeping (closed_kept client turn (d.kept s)) s)
DoesAsk d s client turn (ask.No denial) said after =
    (said ≡ turn_reply.No denial) × (after ≡ s)

-- a turn of a client was done, or its refusal said
abbrev pub DoesTurn : {S : Type 0} → Doing S → S → ℕ → TurnMeaning → TurnReply → S → Type 0
DoesTurn d s client (Ok turn) said after =
    DoesAsk d s client turn (asked (table_in (d.kept s) client) turn) said after
DoesTurn d s client (Err refusal) said after =
    (said ≡ turn_reply.Line (line_reply.Unread refusal)) × (after ≡ s)

-- what was said to a line follows from the state before it, and so does the state after it
abbrev pub FollowsSpoken : {S : Type 0} → Doing S → S → Spoken → TurnReply → S → Type 0
FollowsSpoken d s line said after = DoesTurn d s (client_or_none line.client) line.turn said after
