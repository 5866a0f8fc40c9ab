-- What a run does, line by line.
use Rattle.std.specs.Prelude.{◌≡◌, ℕ, ◌+◌, ◌*◌, ◌<◌, ◌≤◌, Bool, true, false, ◌&&◌, List, [], ◌∷◌, ◌++◌, length, map, if◌then◌else◌, MatchBool, IsNone, ⊤}
use Rattle.std.specs.List.{flat_map, AllByRecursion}
use Rattle.std.specs.declared.option.Option.{Option}
use Rattle.std.specs.declared.option.Option.TheVariants.{None, Some}
use Rattle.std.specs.declared.result.Result.TheVariants.{Ok, Err}
use Rattle.bd_command.specs.Command.{writes, is_done, accepted, IsCommand, IsReply}
use Rattle.bd_command.specs.declared.Command.{Command}
use Rattle.bd_command.specs.declared.reply.Reply.{Reply}
use Rattle.bd_dirs.specs.Sendings.{Sending, Nothing, Batch, Move, sending}
use Rattle.bd_graft.specs.declared.grafting.Walk.{Walk as WalkTaken}
use Rattle.bd_represent.specs.Represents.{Represents}
use Rattle.bd_model.specs.Tree.{Tree, IsTree}
use Rattle.bd_model.specs.Step.{step, refusal_of}
use Rattle.bd_script.specs.Lines.{LineMeaning, HasNoNewline, lines_of, whole_lines}
use Rattle.bd_script.specs.declared.line.Line.{Line}
use Rattle.bd_script.specs.declared.line.Line.TheVariants.{Run, Walk, Df, Sync, Checkpoint, Reclaim, Stop}
use Rattle.bd_script.specs.declared.replies.LineReply.{LineReply}
use Rattle.bd_script.specs.declared.replies.LineReply.TheVariants as reply
use Rattle.bd_script.specs.declared.denial.Denial.{Denial}
use Rattle.bd_script.specs.declared.denial.Denial.TheVariants.{NoHandle, Gone, HandlesFull, LongPath, BadStream}
use Rattle.bd_sessions.specs.Handles.{Kept, Table, handle_limit, no_handles, table_in}
use Rattle.bd_sessions.specs.Replies.{said_line, said_text}
use Rattle.bd_sessions.specs.Sessions.{asked}
use Rattle.bd_sessions.specs.Spoken.{Spoken, Mode, client_or_none, spoken, up_to_stop}
use Rattle.bd_sessions.specs.Telling.{Doing, FollowsSpoken}
use Rattle.bd_sessions.specs.Turns.{TurnMeaning, plain}
use Rattle.bd_sessions.specs.declared.asking.Ask.{Ask}
use Rattle.bd_sessions.specs.declared.asking.Ask.TheVariants as ask
use Rattle.bd_sessions.specs.declared.turn.Turn.TheVariants as turn
use Rattle.bd_sessions.specs.declared.replies.TurnReply.{TurnReply}
use Rattle.bd_sessions.specs.declared.replies.TurnReply.TheVariants as turn_reply
use Rattle.bd_view.specs.Views.{View, keys_of, free_slots}
use Rattle.bd_view.specs.Moves.{IsAccepted, Saves, synced, IsCommandFull, IsCheckpointFull}
use Rattle.bd_view.specs.Reclaiming.{IsReclaim, IsReclaimFull}
use Rattle.bd_shell.specs.declared.outcome.Ack.{Ack}

-- bytes, where they are known
abbrev pub Known : Type 0
Known = Option (List ℕ)

-- ---- what is executed, whatever the image is

-- a line that was executed, with the client that asked, and its reply
pub record Exchange : Type 0 where
  pub line : Spoken
  pub said : TurnReply

-- the replies that a command may get, and which can be written
abbrev pub IsCommandReply : LineReply → Type 0
IsCommandReply (reply.Command r) = IsReply r
IsCommandReply (reply.Unread refusal) = ⊥
IsCommandReply (reply.Walk visits height) = ⊥
IsCommandReply reply.Done = ⊥
IsCommandReply (reply.Free free slots) = ⊥
IsCommandReply (reply.Full free need) = free < need
IsCommandReply reply.Stopped = ⊥

-- the replies that `checkpoint` and `reclaim` may get
abbrev pub IsDoneOrFull : LineReply → Type 0
IsDoneOrFull (reply.Command r) = ⊥
IsDoneOrFull (reply.Unread refusal) = ⊥
IsDoneOrFull (reply.Walk visits height) = ⊥
IsDoneOrFull reply.Done = ⊤
IsDoneOrFull (reply.Free free slots) = ⊥
IsDoneOrFull (reply.Full free need) = free < need
IsDoneOrFull reply.Stopped = ⊥

-- the reply of `walk`, with some numbers
abbrev pub IsWalkReply : LineReply → Type 0
IsWalkReply said = (visits : ℕ) × (height : ℕ) × (said ≡ reply.Walk visits height)

-- the reply of `df`, with some numbers
abbrev pub IsFreeReply : LineReply → Type 0
IsFreeReply said = (free : ℕ) × (slots : ℕ) × (free ≤ slots) × (said ≡ reply.Free free slots)

-- the replies that a line may get on any device
abbrev pub MayGet : LineMeaning → LineReply → Type 0
MayGet (Ok (Run c)) said = IsCommandReply said
MayGet (Ok Walk) said = IsWalkReply said
MayGet (Ok Df) said = IsFreeReply said
MayGet (Ok Sync) said = said ≡ reply.Done
MayGet (Ok Checkpoint) said = IsDoneOrFull said
MayGet (Ok Reclaim) said = IsDoneOrFull said
MayGet (Ok Stop) said = said ≡ reply.Stopped
MayGet (Err refusal) said = said ≡ reply.Unread refusal

-- the reply is one to a command, and this holds of it
abbrev pub IsLineOf : (LineReply → Type 0) → TurnReply → Type 0
IsLineOf may (turn_reply.Line r) = may r
IsLineOf may (turn_reply.Opened number) = ⊥
IsLineOf may turn_reply.Closed = ⊥
IsLineOf may (turn_reply.No denial) = ⊥

-- the replies that `open` may get: the tree's, a number, or that all are taken
abbrev pub IsOpenReply : TurnReply → Type 0
IsOpenReply (turn_reply.Line r) = IsCommandReply r
IsOpenReply (turn_reply.Opened number) = number < handle_limit
IsOpenReply turn_reply.Closed = ⊥
IsOpenReply (turn_reply.No denial) = denial ≡ HandlesFull

-- why a command for a handle may be denied
abbrev pub IsHandleDenial : Denial → Type 0
IsHandleDenial NoHandle = ⊤
IsHandleDenial Gone = ⊤
IsHandleDenial HandlesFull = ⊥
IsHandleDenial LongPath = ⊤
IsHandleDenial BadStream = ⊥

-- the replies that a command for a handle may get
abbrev pub IsHandleReply : TurnReply → Type 0
IsHandleReply (turn_reply.Line r) = IsCommandReply r
IsHandleReply (turn_reply.Opened number) = ⊥
IsHandleReply turn_reply.Closed = ⊥
IsHandleReply (turn_reply.No denial) = IsHandleDenial denial

-- the replies that `close` may get
abbrev pub IsCloseReply : TurnReply → Type 0
IsCloseReply (turn_reply.Line r) = ⊥
IsCloseReply (turn_reply.Opened number) = ⊥
IsCloseReply turn_reply.Closed = ⊤
IsCloseReply (turn_reply.No denial) = denial ≡ NoHandle

-- the replies that a turn may get on any device
abbrev pub MayGetTurn : TurnMeaning → TurnReply → Type 0
MayGetTurn (Ok (turn.Plain line)) said = IsLineOf (MayGet (Ok line)) said
MayGetTurn (Ok (turn.Open path)) said = IsOpenReply said
MayGetTurn (Ok (turn.Read handle off len)) said = IsHandleReply said
MayGetTurn (Ok (turn.Write handle off bytes)) said = IsHandleReply said
MayGetTurn (Ok (turn.Stat handle)) said = IsHandleReply said
MayGetTurn (Ok (turn.Close handle)) said = IsCloseReply said
MayGetTurn (Err refusal) said = IsLineOf (MayGet (Err refusal)) said

-- so may a line, whoever asks
abbrev pub MaySay : Spoken → TurnReply → Type 0
MaySay line said = MayGetTurn line.turn said

-- a reply that its line may get, and which is one line
abbrev pub IsAnswered : Exchange → Type 0
IsAnswered x = MaySay x.line x.said × HasNoNewline (said_text x.line.client x.said)

-- the lines that make all durable, each of which is acknowledged
abbrev pub is_durable : LineMeaning → Bool
is_durable (Ok (Run c)) = false
is_durable (Ok Walk) = false
is_durable (Ok Df) = false
is_durable (Ok Sync) = true
is_durable (Ok Checkpoint) = false
is_durable (Ok Reclaim) = false
is_durable (Ok Stop) = true
is_durable (Err refusal) = false

-- how many acknowledgements a line asks for
abbrev pub acks_due : LineMeaning → ℕ
acks_due line = if is_durable line then 1 else 0

-- what a test of a script's lines says of a turn: only such a line can pass it
abbrev pub passes : (LineMeaning → Bool) → TurnMeaning → Bool
passes test (Ok (turn.Plain line)) = test (Ok line)
passes test (Ok (turn.Open path)) = false
passes test (Ok (turn.Read handle off len)) = false
passes test (Ok (turn.Write handle off bytes)) = false
passes test (Ok (turn.Stat handle)) = false
passes test (Ok (turn.Close handle)) = false
passes test (Err refusal) = false

-- how many of these lines make all durable, whoever asks for it
abbrev pub durable : List Spoken → ℕ
durable [] = 0
durable (l ∷ ls) = (if passes is_durable l.turn then 1 else 0) + durable ls

-- this many acknowledgements came after others
pub record HasAcked (count : ℕ) (old new : List Ack) : Type 0 where
  pub more : List Ack
  pub acks_are : new ≡ old ++ more
  pub count_is : length more ≡ count

-- an acknowledgement: the device's calls at that moment, and the accepted commands that are on it
abbrev pub ack : ℕ → ℕ → Ack
ack calls count = record { calls = calls; count = count }

-- what is seen of a run: the bytes that were written, where they are known, and what was
-- acknowledged
pub record Output : Type 0 where
  pub written : Known
  pub acks : List Ack

abbrev pub output : Known → List Ack → Output
output written acks = record { written = written; acks = acks }

-- what is written of the replies
abbrev pub text : List Exchange → List ℕ
text xs = flat_map (λ x. said_line x.line.client x.said) xs

-- the lines that were executed
abbrev pub executed : List Exchange → List Spoken
executed xs = map (λ x. x.line) xs

-- ---- where a run stands

-- a tree, and how many commands were accepted
pub record Point : Type 0 where
  pub tree : Tree
  pub count : ℕ

abbrev pub point : Tree → ℕ → Point
point t n = record { tree = t; count = n }

-- the tree, how many commands were accepted, and the view: the nodes that keep the tree, with how
-- the last clone or rename went, and the numbers of slots and of the log. Also all points that were
-- passed: that of the beginning, and one after each accepted command; how many calls of the device
-- there were; what was acknowledged, in order: one acknowledgement at each line that made all
-- durable; and of each open handle the path at which it was opened, with the commands that were
-- accepted since
pub record State : Type 0 where
  pub tree : Tree
  pub count : ℕ
  pub view : View
  pub passed : List Point
  pub calls : ℕ
  pub acks : List Ack
  pub kept : Kept

-- the state of a tree, a count and a view, at the beginning, after this many calls of the device: no
-- handle is open
abbrev pub state_at : Tree → ℕ → View → ℕ → State
state_at t n view calls = record {
  tree = t;
  count = n;
  view = view;
  passed = point t n ∷ [];
  calls = calls;
  acks = [];
  kept = no_handles;
}

-- the state's own point
abbrev pub point_of : State → Point
point_of s = point s.tree s.count

-- the state with another view, after this many calls of the device
abbrev pub with_view : State → View → ℕ → State
with_view s view calls = record s { view = view; calls = calls }

-- once all was made durable, after this many calls of the device: its count is acknowledged
abbrev pub synced_state : State → ℕ → State
synced_state s calls = record s {
  view = synced s.view;
  calls = calls;
  acks = s.acks ++ ack calls s.count ∷ [];
}

-- the points after a command, which led to this one
abbrev pub passed_by : List Point → Command → Reply → Point → List Point
passed_by passed c r p = if writes c && is_done r then passed ++ p ∷ [] else passed

-- the state after a command, with a view, after this many calls of the device
abbrev pub state_of_step : State → Command → View → ℕ → State
state_of_step s c view calls = record {
  tree = (step s.tree c).0;
  count = s.count + accepted c (step s.tree c).1;
  view = view;
  passed = passed_by s.passed c (step s.tree c).1
      (point (step s.tree c).0 (s.count + accepted c (step s.tree c).1));
  calls = calls;
  acks = s.acks;
  kept = s.kept;
}

-- ---- what a line does

-- a writing command that is accepted moves the view, with its record, and every other reply leaves
-- it
abbrev pub Moves : Tree → Command → Reply → View → View → Type 0
Moves t c r old new = MatchBool (writes c && is_done r) (IsAccepted t c old new) (new ≡ old)

-- a command within its limits takes the model's step
pub record Steps (s : State) (c : Command) (r : Reply) (after : State) : Type 0 where
  pub limits : IsCommand c
  pub said_is : r ≡ (step s.tree c).1
  pub after_is : after ≡ state_of_step s c after.view after.calls
  pub moved : Moves s.tree c (step s.tree c).1 s.view after.view

-- too few slots are free for a command that the tree accepts; tree and count stay
pub record Fills (s : State) (c : Command) (free need : ℕ) (after : State) : Type 0 where
  pub limits : IsCommand c
  pub accepted : IsNone (refusal_of s.tree c)
  pub after_is : after ≡ with_view s after.view after.calls
  pub full : IsCommandFull c s.view after.view free need

-- a command's reply and the state after it
abbrev pub Answers : State → Command → LineReply → State → Type 0
Answers s c (reply.Command r) after = Steps s c r after
Answers s c (reply.Unread refusal) after = ⊥
Answers s c (reply.Walk visits height) after = ⊥
Answers s c reply.Done after = ⊥
Answers s c (reply.Free free slots) after = ⊥
Answers s c (reply.Full free need) after = Fills s c free need after
Answers s c reply.Stopped after = ⊥

-- the view is moved so or, where too few slots are free, so; tree and count stay
abbrev pub Serves : (View → View → Type 0) → (ℕ → ℕ → View → View → Type 0) → State → LineReply
    → State → Type 0
Serves moves fills s (reply.Command r) after = ⊥
Serves moves fills s (reply.Unread refusal) after = ⊥
Serves moves fills s (reply.Walk visits height) after = ⊥
Serves moves fills s reply.Done after =
    moves s.view after.view × (after ≡ with_view s after.view after.calls)
Serves moves fills s (reply.Free free slots) after = ⊥
Serves moves fills s (reply.Full free need) after =
    fills free need s.view after.view × (after ≡ with_view s after.view after.calls)
Serves moves fills s reply.Stopped after = ⊥

-- a checkpoint that is refused leaves the view
abbrev pub FillsCheckpoint : ℕ → ℕ → View → View → Type 0
FillsCheckpoint free need old new = IsCheckpointFull old free need × (new ≡ old)

-- reclaiming that is refused leaves the changes that were made
abbrev pub FillsReclaim : ℕ → ℕ → View → View → Type 0
FillsReclaim free need old new = IsReclaimFull old free need new

-- what is said of a walk
abbrev pub told : WalkTaken → LineReply
told walk = reply.Walk walk.visits walk.height

-- what is said of the slots
abbrev pub told_free : View → LineReply
told_free v = reply.Free (free_slots v) v.slots

-- a line's reply and the state after it follow from the state before it
abbrev pub Follows : State → LineMeaning → LineReply → State → Type 0
Follows s (Ok (Run c)) said after = Answers s c said after
Follows s (Ok Walk) said after = (said ≡ told s.view.tree.walk) × (after ≡ s)
Follows s (Ok Df) said after = (said ≡ told_free s.view) × (after ≡ s)
Follows s (Ok Sync) said after = (said ≡ reply.Done) × (after ≡ synced_state s after.calls)
Follows s (Ok Checkpoint) said after = Serves Saves FillsCheckpoint s said after
Follows s (Ok Reclaim) said after = Serves IsReclaim FillsReclaim s said after
Follows s (Ok Stop) said after = (said ≡ reply.Stopped) × (after ≡ synced_state s after.calls)
Follows s (Err refusal) said after = (said ≡ reply.Unread refusal) × (after ≡ s)

-- ---- what a turn does

-- the state with other handles
abbrev pub keeping : Kept → State → State
keeping kept s = record s { kept = kept }

-- what the turns of a client stand on: commands and the other lines of a script, and the handles
abbrev pub doing : Doing State
doing = record {
  answers = Answers;
  serves = λ s line. Follows s (Ok line);
  kept = λ s. s.kept;
  keeping = keeping;
}

-- the line of a script that is executed on the volume for what is asked, if one is
abbrev pub line_for : Ask → Option Line
line_for (ask.Do command) = Some (Run command)
line_for (ask.Service line) = Some line
line_for ask.Closed = None
line_for (ask.No denial) = None

abbrev pub line_for_turn : Table → TurnMeaning → Option Line
line_for_turn table (Ok t) = line_for (asked table t)
line_for_turn table (Err refusal) = None

-- the same of a line, by its client's handles: a command for a handle is that at the handle's path
abbrev pub line_in : State → Spoken → Option Line
line_in s line = line_for_turn (table_in s.kept (client_or_none line.client)) line.turn

-- ---- transcripts

-- an executed line with its client, its reply, and the state after it
pub record Entry : Type 0 where
  pub line : Spoken
  pub said : TurnReply
  pub state : State

-- the entry follows from the state before it, no fewer calls of the device were made, and the nodes
-- of its view represent its tree
pub record Continues (s : State) (e : Entry) : Type 0 where
  pub follows : FollowsSpoken doing s e.line e.said e.state
  pub later : s.calls ≤ e.state.calls
  pub represents : Represents (keys_of e.state.view) e.state.tree

-- each entry follows from the state before it
abbrev pub IsTranscript : State → List Entry → Type 0
IsTranscript s [] = ⊤
IsTranscript s (e ∷ es) = Continues s e × IsTranscript e.state es

-- the line of an entry, with its reply
abbrev pub exchange_of : Entry → Exchange
exchange_of e = record { line = e.line; said = e.said }

-- the lines of a transcript, with their replies
abbrev pub exchanges_of : List Entry → List Exchange
exchanges_of es = map exchange_of es

-- the state after a transcript
abbrev pub state_after : State → List Entry → State
state_after s [] = s
state_after s (e ∷ es) = state_after e.state es

-- from a state on these lines got these replies, by one transcript; `at` holds of the state then
pub record HasTranscript (s : State) (xs : List Exchange) (at : State → Type 0) : Type 0 where
  pub entries : List Entry
  pub exchanges_are : exchanges_of entries ≡ xs
  pub transcript : IsTranscript s entries
  pub reached : at (state_after s entries)

-- ---- the lines of a script

-- a line of a script, as that of no client
abbrev pub alone : LineMeaning → Spoken
alone line = record { client = None; turn = plain line }

-- a command that no client gave
abbrev pub commanded : Command → Spoken
commanded c = alone (Ok (Run c))

-- what the lines that are complete, each with its newline, mean
abbrev pub meanings : Mode → List ℕ → List Spoken
meanings mode bytes = map (spoken mode) (whole_lines bytes)

-- the lines of a script, up to the first `stop`: nothing follows it
abbrev pub lines_to_run : Mode → List ℕ → List Spoken
lines_to_run mode script = up_to_stop (map (spoken mode) (lines_of script))

-- xs stands at the front of ys
abbrev pub IsFront : {A : Type 0} → List A → List A → Type 0
IsFront {A} xs ys = (rest : List A) × (ys ≡ xs ++ rest)

-- ---- lines of no client

-- the entry's line comes from no client, and is a line of a script
abbrev pub IsAlone : Entry → Type 0
IsAlone e = (line : LineMeaning) × (e.line ≡ alone line)

abbrev pub AreAlone : List Entry → Type 0
AreAlone es = AllByRecursion IsAlone es

-- its reply is one to such a line, and with its state follows as that of the line does
pub record FollowsAlone (s : State) (e : Entry) : Type 0 where
  pub line : LineMeaning
  pub said : LineReply
  pub line_is : e.line ≡ alone line
  pub said_is : e.said ≡ turn_reply.Line said
  pub follows : Follows s line said e.state

-- so do all, each from the state before it
abbrev pub FollowAlone : State → List Entry → Type 0
FollowAlone s [] = ⊤
FollowAlone s (e ∷ es) = FollowsAlone s e × FollowAlone e.state es

-- ---- what holds of each entry

-- a command that was executed keeps the limits of commands
abbrev pub IsLimited : Option Line → Type 0
IsLimited None = ⊤
IsLimited (Some (Run c)) = IsCommand c
IsLimited (Some Walk) = ⊤
IsLimited (Some Df) = ⊤
IsLimited (Some Sync) = ⊤
IsLimited (Some Checkpoint) = ⊤
IsLimited (Some Reclaim) = ⊤
IsLimited (Some Stop) = ⊤

-- an entry's state has a tree, and what its line asks for in the state before keeps the limits
pub record CanBe (s : State) (e : Entry) : Type 0 where
  pub tree : IsTree e.state.tree
  pub limits : IsLimited (line_in s e.line)

-- so do all, each from the state before it
abbrev pub AllCanBe : State → List Entry → Type 0
AllCanBe s [] = ⊤
AllCanBe s (e ∷ es) = CanBe s e × AllCanBe e.state es

-- ---- what each clone costs

-- what is sent is a graft
abbrev pub is_graft : Sending → Bool
is_graft Nothing = false
is_graft (Batch list) = false
is_graft (Move s d keep) = true

-- the command is a clone or a rename that comes to a graft: of more than a file of one block, or in
-- place of more
abbrev pub grafts : State → Command → Bool
grafts s c = is_graft (sending (keys_of s.view) s.tree c)

-- it is, and was accepted
abbrev pub is_made : State → Command → LineReply → Bool
is_made s c (reply.Command r) = grafts s c && is_done r
is_made s c (reply.Unread refusal) = false
is_made s c (reply.Walk visits height) = false
is_made s c reply.Done = false
is_made s c (reply.Free free slots) = false
is_made s c (reply.Full free need) = false
is_made s c reply.Stopped = false

-- the line is such a clone or rename, and was accepted
abbrev pub is_grafted_line : State → LineMeaning → LineReply → Bool
is_grafted_line s (Ok (Run c)) said = is_made s c said
is_grafted_line s (Ok Walk) said = false
is_grafted_line s (Ok Df) said = false
is_grafted_line s (Ok Sync) said = false
is_grafted_line s (Ok Checkpoint) said = false
is_grafted_line s (Ok Reclaim) said = false
is_grafted_line s (Ok Stop) said = false
is_grafted_line s (Err refusal) said = false

-- so is a line with its client: no command for a handle is one
abbrev pub is_grafted : State → Spoken → TurnReply → Bool
is_grafted s line (turn_reply.Line r) = passes (λ l. is_grafted_line s l r) line.turn
is_grafted s line (turn_reply.Opened number) = false
is_grafted s line turn_reply.Closed = false
is_grafted s line (turn_reply.No denial) = false

-- an accepted clone or rename that comes to a graft visited at most five nodes for each of the
-- height, and two more; every other line keeps the walk
abbrev pub IsCheap : State → Spoken → TurnReply → WalkTaken → Type 0
IsCheap s line said new =
    MatchBool (is_grafted s line said) (new.visits ≤ 5 * new.height + 2)
    (new ≡ s.view.tree.walk)

-- so does each entry, from the state before it
abbrev pub AreCheap : State → List Entry → Type 0
AreCheap s [] = ⊤
AreCheap s (e ∷ es) = IsCheap s e.line e.said e.state.view.tree.walk × AreCheap e.state es
