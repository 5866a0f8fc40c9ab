-- What an export asks of a volume and writes of the replies, and how it ends.
use Rattle.std.specs.Prelude.{◌≡◌, ◌⊎◌, ℕ, Bool, true, false, List, [], ◌∷◌, ◌++◌, not, IsSome}
use Rattle.std.specs.List.{AllByRecursion}
use Rattle.std.specs.Io.KnownBytes.{append_known}
use Rattle.std.specs.declared.option.Option.{Option}
use Rattle.std.specs.declared.option.Option.TheVariants.{None, Some}
use Rattle.std.specs.declared.result.Result.{Result}
use Rattle.std.specs.declared.result.Result.TheVariants.{Ok, Err}
use Rattle.std.specs.FinMap.{get}
use Rattle.bd_io.specs.Written.{WrotePart}
use Rattle.bd_command.specs.declared.Command.{Command}
use Rattle.bd_command.specs.declared.refusal.Refusal.TheVariants.{NotFound}
use Rattle.bd_command.specs.declared.reply.Reply.{Reply}
use Rattle.bd_model.specs.Tree.{Tree}
use Rattle.bd_script.specs.declared.replies.LineReply.TheVariants.{Command as Replied, Full as NoRoom}
use Rattle.bd_sessions.specs.Spoken.{Spoken}
use Rattle.bd_sessions.specs.declared.replies.TurnReply.TheVariants.{Line as Said}
use Rattle.bd_stream.specs.Importing.{Path}
use Rattle.bd_stream.specs.Exporting.{Export, begin, asked, answered}
use Rattle.bd_stream.specs.Answering.{why_not}
use Rattle.bd_stream.specs.Exports.{IsLongNext}
use Rattle.bd_stream.specs.Streams.{stream_of}
use Rattle.bd_stream.specs.declared.fault.ExportFault.TheVariants as why
use Rattle.bd_shell.specs.declared.fault.Fault.{Fault}
use Rattle.bd_shell.specs.declared.fault.Fault.TheVariants.{Device, Damaged, Source, Memory, TooLong, Worn, Sink}
use Rattle.bd_shell.specs.Transcript.{Known, State, Exchange, IsAnswered, HasTranscript, commanded, executed}
use Rattle.bd_shell.specs.Session.{Ends, Tells, end_of}
use Rattle.bd_shell.specs.Shell.{IsLineFault, RepliesTo, TurnFails}
use Rattle.bd_transfer.specs.declared.exporting.ExportEnd.{ExportEnd}
use Rattle.bd_transfer.specs.declared.exporting.ExportEnd.TheVariants.{Whole, Absent, LongPath, Full}

-- ---- questions and replies

-- a command with its reply
abbrev pub replied : Command → Reply → Exchange
replied c r = record { line = commanded c; said = Said (Replied r) }

-- a command to which slots were short
abbrev pub short : Command → ℕ → ℕ → Exchange
short c free need = record { line = commanded c; said = Said (NoRoom free need) }

-- what an export asked got this reply
pub record Question (s : Export) (x : Exchange) (r : Reply) : Type 0 where
  pub command : Command
  pub asks : asked s ≡ Some command
  pub exchange : x ≡ replied command r

-- questions and their replies, one after the other, lead an export on to another one, and these
-- bytes are the ones to write
abbrev pub Interviews : Export → List Exchange → Export → List ℕ → Type 0
Interviews s [] last out = (last ≡ s) × (out ≡ [])
Interviews s (x ∷ xs) last out = (r : Reply) × (rest : List ℕ) × Question s x r
    × (out ≡ (answered s r).1 ++ rest) × Interviews (answered s r).0 xs last rest

-- ---- how an export ends

-- what it leaves to be asked, where it ends so after its last reply; slots are short where a question
-- was answered so
abbrev pub IsEnd : ExportEnd → Export → Type 0
IsEnd Whole s = (asked s ≡ None) × (why_not s.stage ≡ None)
IsEnd Absent s = why_not s.stage ≡ Some (why.Refused NotFound)
IsEnd LongPath s = why_not s.stage ≡ Some why.LongPath
IsEnd Full s = ⊥

-- so it ends, if it ends
abbrev pub IsEndIf : Option ExportEnd → Export → Type 0
IsEndIf None s = why_not s.stage ≡ None
IsEndIf (Some e) s = IsEnd e s

-- a question was answered that slots are short
pub record IsShort (s : Export) (front xs : List Exchange) (out : List ℕ) (old new : Known)
    : Type 0 where
  pub command : Command
  pub asks : asked s ≡ Some command
  pub free : ℕ
  pub need : ℕ
  pub exchanges : xs ≡ front ++ short command free need ∷ []
  pub written : new ≡ append_known old out

-- all replies were answers, and all was written
pub record IsWritten (front xs : List Exchange) (out : List ℕ) (old new : Known) : Type 0 where
  pub exchanges : xs ≡ front
  pub written : new ≡ append_known old out

-- the same where something is to be asked next
pub record IsBefore (s : Export) (front xs : List Exchange) (out : List ℕ) (old new : Known)
    : Type 0 where
  pub command : Command
  pub asks : asked s ≡ Some command
  pub all : IsWritten front xs out old new

-- what was executed and written where it ends without a fault
abbrev pub EndsSo : ExportEnd → Export → List Exchange → List Exchange → List ℕ → Known → Known
    → Type 0
EndsSo Whole s front xs out old new = IsEnd Whole s × IsWritten front xs out old new
EndsSo Absent s front xs out old new = IsEnd Absent s × IsWritten front xs out old new
EndsSo LongPath s front xs out old new = IsEnd LongPath s × IsWritten front xs out old new
EndsSo Full s front xs out old new = IsShort s front xs out old new

-- for a last question there was no memory, or for taking its reply
pub record IsUntaken (s : Export) (front xs : List Exchange) (out : List ℕ) (old new : Known)
    : Type 0 where
  pub exchanges : (xs ≡ front)
      ⊎ ((x : Exchange) × (r : Reply) × Question s x r × (xs ≡ front ++ x ∷ []))
  pub written : new ≡ append_known old out

-- of what a last reply gave only a part was written
pub record IsCut (top : Path) (front : List Exchange) (s : Export) (old new : Known)
    : Type 0 where
  pub before : List Exchange
  pub last : Exchange
  pub exchanges : front ≡ before ++ last ∷ []
  pub middle : Export
  pub out : List ℕ
  pub interview : Interviews (begin top) before middle out
  pub reply : Reply
  pub question : Question middle last reply
  pub after : s ≡ (answered middle reply).0
  pub part : WrotePart (answered middle reply).1 (append_known old out) new

-- what was executed and written at each end, where the replies to `front` were taken, and are to
-- write `out`: a fault comes before a reply, or at the end after all of them, when all is made
-- durable or the sink doesn't pass on what was written
abbrev pub Came : Result ExportEnd Fault → Path → Export → List Exchange → List Exchange → List ℕ
    → Known → Known → Type 0
Came (Ok e) top s front xs out old new = EndsSo e s front xs out old new
Came (Err Device) top s front xs out old new =
    IsBefore s front xs out old new ⊎ EndsSo Whole s front xs out old new
Came (Err (Damaged block)) top s front xs out old new = IsBefore s front xs out old new
Came (Err Source) top s front xs out old new = ⊥
Came (Err Memory) top s front xs out old new = IsUntaken s front xs out old new
Came (Err TooLong) top s front xs out old new = ⊥
Came (Err (Worn which)) top s front xs out old new = IsBefore s front xs out old new
Came (Err Sink) top s front xs out old new = ((xs ≡ front) × IsCut top front s old new)
    ⊎ ((e : ExportEnd) × EndsSo e s front xs out old new)

-- the lists of what may be asked: what was, and a next command
abbrev pub IsAskedFor : Export → List Exchange → List Spoken → Type 0
IsAskedFor s front lines = (next : Command) × (asked s ≡ Some next)
    × (lines ≡ executed front ++ commanded next ∷ [])

-- what is told of the state after the last reply: a counter is worn by the next question, and
-- damage never comes
pub record EndsAsking (end : Option Fault) (s : Export) (front xs : List Exchange)
    (last : State → Type 0) (at : State) : Type 0 where
  pub told : (lines : List Spoken) → IsAskedFor s front lines → Tells end at (executed xs) lines
  pub reached : Ends end at last

-- an export of what is at a path and below it: what it asked, with the replies, and what it wrote;
-- from each state at which it may begin they have one transcript
pub record Asks (result : Result ExportEnd Fault) (top : Path) (first last : State → Type 0)
    (old new : Known) : Type 0 where
  pub exchanges : List Exchange
  pub answered : AllByRecursion IsAnswered exchanges
  pub front : List Exchange
  pub export : Export
  pub out : List ℕ
  pub interview : Interviews (begin top) front export out
  pub came : Came result top export front exchanges out old new
  pub runs : (s : State) → first s
      → HasTranscript s exchanges (EndsAsking (end_of result) export front exchanges last)

-- ---- the end

-- the stream is complete
abbrev pub is_whole : ExportEnd → Bool
is_whole Whole = true
is_whole Absent = false
is_whole LongPath = false
is_whole Full = false

-- only at the end of a whole stream all is made durable
abbrev pub leaves : Result ExportEnd Fault → Bool
leaves (Ok e) = not (is_whole e)
leaves (Err e) = true

-- what comes after the last reply: the end stays what it is, or the sink doesn't pass on what was
-- written, or a whole stream's end isn't made durable
abbrev pub Finishes : Result ExportEnd Fault → ExportEnd → (State → Type 0) → (State → Type 0)
    → Type 0
Finishes (Ok e) end first last = (e ≡ end) × ((s : State) → first s → last s)
Finishes (Err e) end first last =
    ((e ≡ Sink) ⊎ ((end ≡ Whole) × ((e ≡ Device) ⊎ (e ≡ Memory))))
    × ((s : State) → first s → Ends (Some e) s last)

-- ---- what is written of a tree

-- the stream up to the entry whose path is too long
pub record WritesUpTo (t : Tree) (top : Path) (old new : Known) : Type 0 where
  pub there : IsSome (get t top)
  pub out : List ℕ
  pub long : IsLongNext t top (stream_of t top) out
  pub written : new ≡ append_known old out

-- what an export has written of a tree at each end: the whole stream of what is at the path and
-- below it; nothing, where nothing is there; or what comes before an entry whose path is too long
abbrev pub WritesSo : ExportEnd → Tree → Path → Known → Known → Type 0
WritesSo Whole t top old new = IsSome (get t top) × (new ≡ append_known old (stream_of t top))
WritesSo Absent t top old new = (get t top ≡ None) × (new ≡ old)
WritesSo LongPath t top old new = WritesUpTo t top old new
WritesSo Full t top old new = ⊥

-- ---- one question

-- a question was executed and got this reply
pub record HasReply (s : Export) (r : Reply) (first last : State → Type 0) : Type 0 where
  pub command : Command
  pub asks : asked s ≡ Some command
  pub answered : IsAnswered (replied command r)
  pub runs : (t : State) → first t
      → RepliesTo t (commanded command) (Said (Replied r)) last

-- its reply was taken, and what it gives was written
pub record TakesReply (end : Option ExportEnd) (s now : Export) (first last : State → Type 0)
    (old new : Known) : Type 0 where
  pub reply : Reply
  pub has : HasReply s reply first last
  pub after : now ≡ (answered s reply).0
  pub ends : IsEndIf end now
  pub written : new ≡ append_known old (answered s reply).1

-- the same, and only a part was written
pub record TakesPart (s now : Export) (first last : State → Type 0) (old new : Known)
    : Type 0 where
  pub reply : Reply
  pub has : HasReply s reply first last
  pub after : now ≡ (answered s reply).0
  pub part : WrotePart (answered s reply).1 old new

-- it was answered that slots are short
pub record HasShort (s : Export) (first last : State → Type 0) : Type 0 where
  pub command : Command
  pub asks : asked s ≡ Some command
  pub free : ℕ
  pub need : ℕ
  pub answered : IsAnswered (short command free need)
  pub runs : (t : State) → first t
      → RepliesTo t (commanded command) (Said (NoRoom free need)) last

-- a fault came before its reply
pub record FailsQuestion (e : Fault) (s : Export) (first last : State → Type 0) : Type 0 where
  pub command : Command
  pub asks : asked s ≡ Some command
  pub kind : IsLineFault e
  pub leaves : (t : State) → first t → TurnFails e t (commanded command) last

-- nothing was taken or written of it
abbrev pub IsSame : Export → Export → Known → Known → Type 0
IsSame s now old new = (now ≡ s) × (new ≡ old)

-- how a question went
abbrev pub AsksOne : Result (Option ExportEnd) Fault → Export → Export → (State → Type 0)
    → (State → Type 0) → Known → Known → Type 0
AsksOne (Ok end) s now first last old new = TakesReply end s now first last old new
    ⊎ ((end ≡ Some Full) × HasShort s first last × IsSame s now old new)
AsksOne (Err e) s now first last old new =
    (FailsQuestion e s first last × IsSame s now old new)
    ⊎ ((e ≡ Memory) × ((r : Reply) × HasReply s r first last) × IsSame s now old new)
    ⊎ ((e ≡ Sink) × TakesPart s now first last old new)

-- ---- an answer

-- the reply was taken, and what it gives was added
pub record Answered (s now : Export) (had has : List ℕ) (reply : Reply) (end : Option ExportEnd)
    : Type 0 where
  pub state : now ≡ (answered s reply).0
  pub written : has ≡ had ++ (answered s reply).1
  pub ends : IsEndIf end now

-- the reply wasn't taken for want of memory, or of what it gives only a part was written
abbrev pub AnswersPart : Fault → Export → Export → Reply → Known → Known → Type 0
AnswersPart e s now reply old new = ((e ≡ Memory) × IsSame s now old new)
    ⊎ ((e ≡ Sink) × (now ≡ (answered s reply).0) × WrotePart (answered s reply).1 old new)
