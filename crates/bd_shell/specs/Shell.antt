-- What the functions of the shell say of a shell, a line and a sink.
use Rattle.std.specs.Prelude.{◌≡◌, ◌⊎◌, ℕ, ◌<◌, ◌≤◌, Bool, true, false, List, [], ◌∷◌, ◌++◌, if◌then◌else◌, IsSomeAnd, ⊤}
use Rattle.std.specs.List.{list_any, AllByRecursion}
use Rattle.std.specs.Io.KnownBytes.{append_known}
use Rattle.std.specs.declared.option.Option.{Option}
use Rattle.std.specs.declared.option.Option.TheVariants.{Some}
use Rattle.std.specs.declared.result.Result.{Result}
use Rattle.std.specs.declared.result.Result.TheVariants.{Ok, Err}
use Rattle.bd_io.specs.Written.{WrotePart}
use Rattle.bd_model.specs.Tree.{Tree}
use Rattle.bd_represent.specs.Represents.{Represents}
use Rattle.bd_device.specs.Blocks.{Image}
use Rattle.bd_device.specs.declared.device.Device.{Ghosts}
use Rattle.bd_image.specs.ImageTree.{ImageStandsFor}
use Rattle.bd_script.specs.Lines.{LineMeaning, HasNoNewline, held, open_line, is_empty}
use Rattle.bd_script.specs.declared.replies.LineReply.{LineReply}
use Rattle.bd_script.specs.declared.replies.LineReply.TheVariants as reply
use Rattle.bd_sessions.specs.Handles.{no_handles}
use Rattle.bd_sessions.specs.Replies.{said_line, said_text}
use Rattle.bd_sessions.specs.Spoken.{Spoken, Mode, is_stop, spoken, up_to_stop}
use Rattle.bd_sessions.specs.Telling.{FollowsSpoken}
use Rattle.bd_sessions.specs.declared.replies.TurnReply.{TurnReply}
use Rattle.bd_view.specs.Views.{View, keys_of}
use Rattle.bd_volume.specs.declared.fault.Fault.{Fault as VolumeFault}
use Rattle.bd_volume.specs.declared.fault.Fault.TheVariants as volume
use Rattle.bd_volume.specs.declared.volume.Volume.{Volume}
use Rattle.bd_checkpoint.specs.Recovering.{FailsFirst, IsBadIn}
use Rattle.bd_volume.specs.Starts.{HasStarted}
use Rattle.bd_volume.specs.Volume.{StandsFor, view_of, count_of, device_of, stop_of}
use Rattle.bd_shell.specs.Fault.{Faults, faults}
use Rattle.bd_shell.specs.declared.fault.Fault.{Fault}
use Rattle.bd_shell.specs.declared.fault.Fault.TheVariants.{Device, Damaged, Source, Memory, TooLong, Worn, Sink}
use Rattle.bd_shell.specs.declared.outcome.Ack.{Ack}
use Rattle.bd_shell.specs.declared.acknowledged.Acknowledged.{Acknowledged}
use Rattle.bd_shell.specs.declared.shell.Shell.{Shell}
use Rattle.bd_shell.specs.Crashes.{IsSafeSince}
use Rattle.bd_shell.specs.Transcript.{Known, Output, State, with_view, ack, Exchange, IsAnswered, HasAcked, MaySay, Follows, HasTranscript, doing, durable, text, executed, meanings, IsFront}
use Rattle.bd_shell.specs.Session.{HasNext, IsLeftBy, IsLeftIn, WornBy, WornIn, LeavesBy, Ends, Tells, IsCutShort}

-- a volume stands for a state, whose view is the volume's own
pub record VolumeAt {D : Type 0} (g : Ghosts D) (v : Volume D) (s : State) : Type 0 where
  pub stands : StandsFor g v s.tree s.count
  pub view_is : view_of g v ≡ s.view

-- the device of a volume with acknowledgements
abbrev pub device_below : {D : Type 0} → Acknowledged D → D
device_below v = device_of v.volume

-- the number of the device's call that stopped it
abbrev pub stop_below : {D : Type 0} → Acknowledged D → Option ℕ
stop_below v = stop_of v.volume

-- what was acknowledged of it
abbrev pub acks_below : {D : Type 0} → Acknowledged D → List Ack
acks_below v = v.acks.items

-- one more acknowledgement than before: of the device's calls, and of the commands that the volume
-- has accepted
abbrev pub Acknowledges : {D : Type 0} → Ghosts D → Acknowledged D → Acknowledged D → Type 0
Acknowledges g old new = acks_below new
    ≡ acks_below old ++ ack (g.call_count (device_below new)) (count_of new.volume) ∷ []

-- it stands for a state, and what a crash leaves does for a point that was passed, since a device
-- was so; its acknowledgements hold, and they and the device's calls are the state's
pub record KeptAt {D : Type 0} (g : Ghosts D) (first : D) (since : ℕ) (v : Acknowledged D)
    (s : State) : Type 0 where
  pub at : VolumeAt g v.volume s
  pub safe : IsSafeSince g first since (device_below v) (acks_below v) s

-- it stands for a state in which no handle is open, since its lines come from no client
pub record TurnsAt {D : Type 0} (g : Ghosts D) (first : D) (since : ℕ) (v : Acknowledged D)
    (s : State) : Type 0 where
  pub volume : KeptAt g first since v s
  pub handles : s.kept ≡ no_handles

-- so does a shell's
abbrev pub ShellAt : {D : Type 0} → Ghosts D → D → ℕ → Shell D → State → Type 0
ShellAt g first since shell s = TurnsAt g first since shell.kept s

-- what is seen of a shell's volume
abbrev pub view_in : {D : Type 0} → Ghosts D → Shell D → View
view_in g shell = view_of g shell.kept.volume

-- what was acknowledged
abbrev pub acks_in : {D : Type 0} → Shell D → List Ack
acks_in shell = acks_below shell.kept

-- what is held of the next line
abbrev pub held_of : {D : Type 0} → Shell D → List ℕ
held_of shell = shell.line.items

-- its device
abbrev pub device_in : {D : Type 0} → Shell D → D
device_in shell = device_below shell.kept

-- the number of the device's call that stopped its volume
abbrev pub stop_in : {D : Type 0} → Shell D → Option ℕ
stop_in shell = stop_below shell.kept

-- how often a device and a sink have failed
abbrev pub counts_of : {D : Type 0} → Ghosts D → D → ℕ → Faults
counts_of g d sink = faults (g.fault_count d) 0 sink

-- no write and no barrier failed before this fault, unless it is the device's
abbrev pub FailsNoWriteAt : {D : Type 0} → Ghosts D → D → D → Fault → Type 0
FailsNoWriteAt g old new Device = ⊤
FailsNoWriteAt g old new (Damaged block) = g.write_fault_count new ≡ g.write_fault_count old
FailsNoWriteAt g old new Source = g.write_fault_count new ≡ g.write_fault_count old
FailsNoWriteAt g old new Memory = g.write_fault_count new ≡ g.write_fault_count old
FailsNoWriteAt g old new TooLong = g.write_fault_count new ≡ g.write_fault_count old
FailsNoWriteAt g old new (Worn which) = g.write_fault_count new ≡ g.write_fault_count old
FailsNoWriteAt g old new Sink = g.write_fault_count new ≡ g.write_fault_count old

-- none failed at Ok, and at an error only where it is the device's
abbrev pub FailsNoWrite : {D T : Type 0} → Ghosts D → D → D → Result T Fault → Type 0
FailsNoWrite g old new (Ok x) = g.write_fault_count new ≡ g.write_fault_count old
FailsNoWrite g old new (Err e) = FailsNoWriteAt g old new e

-- damage is of a block that is why an image stands for no tree, as far as that is known
abbrev pub NamesBadAt : Option Image → Fault → Type 0
NamesBadAt known Device = ⊤
NamesBadAt known (Damaged block) = IsBadIn known block
NamesBadAt known Source = ⊤
NamesBadAt known Memory = ⊤
NamesBadAt known TooLong = ⊤
NamesBadAt known (Worn which) = ⊤
NamesBadAt known Sink = ⊤

abbrev pub NamesBad : {T : Type 0} → Option Image → Result T Fault → Type 0
NamesBad known (Ok x) = ⊤
NamesBad known (Err e) = NamesBadAt known e

-- what reads give is known, and is an image that stands for this tree after so many commands
abbrev pub CanStart : Tree → ℕ → Option Image → Type 0
CanStart t n contents = IsSomeAnd contents (ImageStandsFor t n)

-- a start that failed called no device, or since the return of its barrier a crash leaves what stands
-- for the tree, unless that barrier failed
abbrev pub MayStart : {D : Type 0} → Ghosts D → D → D → Type 0
MayStart g old new =
    (g.call_count new ≡ g.call_count old)
    ⊎ (0 < g.block_count old → ¬ FailsFirst g old new → (t : Tree) (n : ℕ)
    → CanStart t n (g.contents old) → HasStarted g old new t n)

-- the reply ends the run
abbrev pub is_stopped : LineReply → Bool
is_stopped (reply.Command r) = false
is_stopped (reply.Unread refusal) = false
is_stopped (reply.Walk visits height) = false
is_stopped reply.Done = false
is_stopped (reply.Free free slots) = false
is_stopped (reply.Full free need) = false
is_stopped reply.Stopped = true

-- the last line of a script, where it isn't empty
abbrev pub last_lines : Mode → List ℕ → List Spoken
last_lines mode line = if is_empty line then [] else spoken mode line ∷ []

-- what is held of a line that a script has begun: no newline, and no more bytes than tell what it
-- means
abbrev pub IsHeld : List ℕ → Type 0
IsHeld line = held (open_line line) ≡ line

-- some bytes: a line without its newline, the newline, and what follows it
pub record CutsAt (bytes line rest : List ℕ) : Type 0 where
  pub bytes_are : bytes ≡ line ++ 10 ∷ rest
  pub plain : HasNoNewline line

-- ---- one line

-- a line's reply follows from a state, and `at` holds of the state after it, with no fewer calls of
-- the device, whose tree the nodes of its view represent
pub record Replies (s : State) (line : LineMeaning) (said : LineReply) (at : State → Type 0)
    : Type 0 where
  pub after : State
  pub follows : Follows s line said after
  pub later : s.calls ≤ after.calls
  pub represents : Represents (keys_of after.view) after.tree
  pub reached : at after

-- so it does of a line with its client
pub record RepliesTo (s : State) (line : Spoken) (said : TurnReply) (at : State → Type 0)
    : Type 0 where
  pub after : State
  pub follows : FollowsSpoken doing s line said after
  pub later : s.calls ≤ after.calls
  pub represents : Represents (keys_of after.view) after.tree
  pub reached : at after

-- a line was executed and its reply written, and it was acknowledged where it makes all durable
pub record ExecutesOne (first last : State → Type 0) (line : Spoken) (old new : Output)
    : Type 0 where
  pub said : TurnReply
  pub answer : MaySay line said
  pub one_line : HasNoNewline (said_text line.client said)
  pub written : new.written ≡ append_known old.written (said_line line.client said)
  pub acked : HasAcked (durable (line ∷ [])) old.acks new.acks
  pub replies : (s : State) → first s → RepliesTo s line said last

-- ---- faults, with what each leaves; the causes of all stand in one table

-- the faults of a volume that wasn't stopped
abbrev pub ComesNow : VolumeFault → Type 0
ComesNow volume.Device = ⊤
ComesNow (volume.Damaged block) = ⊤
ComesNow (volume.Worn which) = ⊤
ComesNow volume.NoMemory = ⊤
ComesNow (volume.Full free need) = ⊤
ComesNow (volume.Stopped call) = ⊥

-- what a fault of the volume is for its line: want of slots is a reply, and each other one the
-- run's fault
abbrev pub IsOutcome : VolumeFault → Result LineReply Fault → Type 0
IsOutcome volume.Device outcome = outcome ≡ Err Device
IsOutcome (volume.Damaged block) outcome = outcome ≡ Err (Damaged block)
IsOutcome (volume.Worn which) outcome = outcome ≡ Err (Worn which)
IsOutcome volume.NoMemory outcome = outcome ≡ Err Memory
IsOutcome (volume.Full free need) outcome = outcome ≡ Ok (reply.Full free need)
IsOutcome (volume.Stopped call) outcome = ⊥

-- a counter was worn, and `at` holds of what is left, after this many calls of the device
pub record Wore (worn_by : View → Type 0) (s : State) (at : State → Type 0) : Type 0 where
  pub left : View
  pub worn : worn_by left
  pub calls : ℕ
  pub later : s.calls ≤ calls
  pub reached : at (with_view s left calls)

-- what a line's fault before its reply leaves of a state; damage comes from none
abbrev pub LineFails : Fault → State → LineMeaning → (State → Type 0) → Type 0
LineFails Device s line at = LeavesBy (IsLeftBy line s) s at
LineFails (Damaged block) s line at = ⊥
LineFails Source s line at = ⊥
LineFails Memory s line at = LeavesBy (IsLeftBy line s) s at
LineFails TooLong s line at = ⊥
LineFails (Worn which) s line at = Wore (WornBy which s line) s at
LineFails Sink s line at = ⊥

-- so it does of a line with its client
abbrev pub TurnFails : Fault → State → Spoken → (State → Type 0) → Type 0
TurnFails Device s line at = LeavesBy (IsLeftIn line s) s at
TurnFails (Damaged block) s line at = ⊥
TurnFails Source s line at = ⊥
TurnFails Memory s line at = LeavesBy (IsLeftIn line s) s at
TurnFails TooLong s line at = ⊥
TurnFails (Worn which) s line at = Wore (WornIn which s line) s at
TurnFails Sink s line at = ⊥

-- the faults that a line has before its reply
abbrev pub IsLineFault : Fault → Type 0
IsLineFault Device = ⊤
IsLineFault (Damaged block) = ⊤
IsLineFault Source = ⊥
IsLineFault Memory = ⊤
IsLineFault TooLong = ⊥
IsLineFault (Worn which) = ⊤
IsLineFault Sink = ⊥

-- a fault came before a line's reply, and nothing was written or acknowledged
pub record FailsBefore (e : Fault) (first last : State → Type 0) (line : Spoken)
    (old new : Output) : Type 0 where
  pub unwritten : new.written ≡ old.written
  pub unacked : new.acks ≡ old.acks
  pub leaves : (s : State) → first s → TurnFails e s line last

-- an executed line of whose reply only a part was written
pub record IsCut (first last : State → Type 0) (line : Spoken) (old new : Output)
    : Type 0 where
  pub said : TurnReply
  pub answer : MaySay line said
  pub one_line : HasNoNewline (said_text line.client said)
  pub part : WrotePart (said_line line.client said) old.written new.written
  pub acked : HasAcked (durable (line ∷ [])) old.acks new.acks
  pub replies : (s : State) → first s → RepliesTo s line said last

-- a fault of a line: before its reply, or within it
abbrev pub RunFails : Fault → (State → Type 0) → (State → Type 0) → Spoken → Output → Output
    → Type 0
RunFails Device first last line old new = FailsBefore Device first last line old new
RunFails (Damaged block) first last line old new =
    FailsBefore (Damaged block) first last line old new
RunFails Source first last line old new = ⊥
RunFails Memory first last line old new = FailsBefore Memory first last line old new
RunFails TooLong first last line old new = ⊥
RunFails (Worn which) first last line old new = FailsBefore (Worn which) first last line old new
RunFails Sink first last line old new = IsCut first last line old new

-- some complete lines were executed, of what was begun and of a front of a piece, none of them a
-- `stop`, and bytes are left of the piece
pub record HasMore (mode : Mode) (begun piece : List ℕ) (xs : List Exchange) : Type 0 where
  pub front : List ℕ
  pub rest : List ℕ
  pub piece_is : piece ≡ front ++ rest
  pub lines_are : executed xs ≡ meanings mode (begun ++ front)
  pub no_stop : list_any is_stop (meanings mode (begun ++ front)) ≡ false
  pub some : is_empty rest ≡ false

-- the lines that a piece completes, up to a `stop`
abbrev pub completed : Mode → List ℕ → List ℕ → List Spoken
completed mode begun piece = up_to_stop (meanings mode (begun ++ piece))

-- how the lines executed before a fault stand to those that a piece completes
abbrev pub Halts : Mode → Fault → List ℕ → List ℕ → List Exchange → Type 0
Halts mode Device begun piece xs = HasMore mode begun piece xs
Halts mode (Damaged block) begun piece xs = HasMore mode begun piece xs
Halts mode Source begun piece xs = ⊥
Halts mode Memory begun piece xs = HasMore mode begun piece xs
Halts mode TooLong begun piece xs = ⊥
Halts mode (Worn which) begun piece xs =
    (next : Spoken) × HasNext next (executed xs) (completed mode begun piece)
Halts mode Sink begun piece xs = IsFront (executed xs) (completed mode begun piece)

-- what was written of the replies before a fault
abbrev pub RepliesUpTo : Fault → List Exchange → Known → Known → Type 0
RepliesUpTo Device xs old new = new ≡ append_known old (text xs)
RepliesUpTo (Damaged block) xs old new = new ≡ append_known old (text xs)
RepliesUpTo Source xs old new = new ≡ append_known old (text xs)
RepliesUpTo Memory xs old new = new ≡ append_known old (text xs)
RepliesUpTo TooLong xs old new = new ≡ append_known old (text xs)
RepliesUpTo (Worn which) xs old new = new ≡ append_known old (text xs)
RepliesUpTo Sink xs old new = IsCutShort xs old new

-- the state after the lines of a piece before a fault
pub record HaltsIn (mode : Mode) (e : Fault) (begun piece : List ℕ) (xs : List Exchange)
    (at : State → Type 0) (s : State) : Type 0 where
  pub told : Tells (Some e) s (executed xs) (completed mode begun piece)
  pub reached : Ends (Some e) s at

-- a fault came while the lines that a piece completes were executed
pub record BreaksOff (mode : Mode) (e : Fault) (first last : State → Type 0)
    (begun piece : List ℕ) (old new : Output) : Type 0 where
  pub exchanges : List Exchange
  pub answered : AllByRecursion IsAnswered exchanges
  pub halts : Halts mode e begun piece exchanges
  pub replied : RepliesUpTo e exchanges old.written new.written
  pub acked : HasAcked (durable (executed exchanges)) old.acks new.acks
  pub runs : (s : State) → first s
      → HasTranscript s exchanges (HaltsIn mode e begun piece exchanges last)
