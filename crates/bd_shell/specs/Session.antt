-- What a session does with the lines of a script, and how it ends.
use Rattle.std.specs.Prelude.{◌≡◌, ◌⊎◌, ℕ, ◌+◌, ◌^◌, ◌≤◌, Bool, true, false, List, [], ◌∷◌, ◌++◌, length, take, if◌then◌else◌, IfOk, IfSome, IsNone, IsSome, ⊤}
use Rattle.std.specs.List.{list_any, AllByRecursion}
use Rattle.std.specs.Io.KnownBytes.{append_known, prepend_known, IsAtEnd}
use Rattle.std.specs.declared.option.Option.{Option}
use Rattle.std.specs.declared.option.Option.TheVariants.{None, Some}
use Rattle.std.specs.declared.result.Result.{Result}
use Rattle.std.specs.declared.result.Result.TheVariants.{Ok, Err}
use Rattle.std.specs.declared.ops.ControlFlow.{ControlFlow}
use Rattle.std.specs.declared.ops.ControlFlow.TheVariants.{Continue, Break}
use Rattle.bd_limits.specs.Limits.{script_limit}
use Rattle.bd_io.specs.Takes.{Takes}
use Rattle.bd_io.specs.Written.{WrotePart}
use Rattle.bd_command.specs.declared.Command.{Command}
use Rattle.bd_message.specs.declared.fault.Counter.{Counter}
use Rattle.bd_message.specs.declared.fault.Counter.TheVariants.{Epoch}
use Rattle.bd_model.specs.Step.{refusal_of}
use Rattle.bd_script.specs.Lines.{LineMeaning}
use Rattle.bd_script.specs.declared.line.Line.{Line}
use Rattle.bd_script.specs.declared.line.Line.TheVariants.{Run, Walk, Df, Sync, Checkpoint, Reclaim, Stop}
use Rattle.bd_sessions.specs.Replies.{said_line}
use Rattle.bd_sessions.specs.Spoken.{Spoken, Mode, is_stop}
use Rattle.bd_view.specs.Views.{View, free_slots, save_slots}
use Rattle.bd_view.specs.Moves.{HasStepped}
use Rattle.bd_volume.specs.Wears.{Wears, HasBegunReclaiming, WearsReclaiming}
use Rattle.bd_shell.specs.declared.fault.Fault.{Fault}
use Rattle.bd_shell.specs.declared.fault.Fault.TheVariants.{Device, Damaged, Source, Memory, TooLong, Worn, Sink}
use Rattle.bd_shell.specs.Taken.{Took}
use Rattle.bd_shell.specs.Transcript.{Known, Output, State, with_view, synced_state, Exchange, IsAnswered, HasAcked, HasTranscript, durable, line_in, text, executed, meanings, lines_to_run, IsFront}

-- how a session ends: by a fault, or with the script
abbrev pub end_of : {T : Type 0} → Result T Fault → Option Fault
end_of (Ok x) = None
end_of (Err e) = Some e

-- the run ends
abbrev pub breaks : ControlFlow (Unit {0}) (Unit {0}) → Bool
breaks (Continue c) = false
breaks (Break b) = true

-- ---- some lines

-- these lines were executed and their replies written, whatever the volume stands for, and each
-- that makes all durable was acknowledged; from each state at which `first` holds they have a
-- transcript, after which `last` holds
pub record Executes (first last : State → Type 0) (lines : List Spoken) (old new : Output)
    : Type 0 where
  pub exchanges : List Exchange
  pub answered : AllByRecursion IsAnswered exchanges
  pub lines_are : executed exchanges ≡ lines
  pub written : new.written ≡ append_known old.written (text exchanges)
  pub acked : HasAcked (durable lines) old.acks new.acks
  pub runs : (s : State) → first s → HasTranscript s exchanges last

-- of these lines some were executed, from the first on, and a next one was there
pub record HasNext (next : Spoken) (done lines : List Spoken) : Type 0 where
  pub rest : List Spoken
  pub lines_are : lines ≡ done ++ next ∷ rest

-- ---- what a fault of a line leaves

-- a command that the tree refuses leaves the view, and another one flush steps and checkpoints,
-- at most 65,536 steps
pub record IsLeftByCommand (c : Command) (s : State) (left : View) : Type 0 where
  pub stepped : HasStepped c s.view left
  pub refused : IsSome (refusal_of s.tree c) → left ≡ s.view

-- what a fault of a line leaves of the view
abbrev pub IsLeftBy : LineMeaning → State → View → Type 0
IsLeftBy (Ok (Run c)) s left = IsLeftByCommand c s left
IsLeftBy (Ok Walk) s left = left ≡ s.view
IsLeftBy (Ok Df) s left = left ≡ s.view
IsLeftBy (Ok Sync) s left = left ≡ s.view
IsLeftBy (Ok Checkpoint) s left = left ≡ s.view
IsLeftBy (Ok Reclaim) s left = HasBegunReclaiming s.view left
IsLeftBy (Ok Stop) s left = left ≡ s.view
IsLeftBy (Err refusal) s left = left ≡ s.view

-- a fault leaves what one of the line that was executed does; where none was, it leaves the view
abbrev pub IsLeftFor : Option Line → State → View → Type 0
IsLeftFor None s left = left ≡ s.view
IsLeftFor (Some line) s left = IsLeftBy (Ok line) s left

-- so it does by what a line asks for
abbrev pub IsLeftIn : Spoken → State → View → Type 0
IsLeftIn line s left = IsLeftFor (line_in s line) s left

-- a fault leaves tree and count, and this of the view, after this many calls of the device; `at`
-- holds of the state then
pub record LeavesBy (by : View → Type 0) (s : State) (at : State → Type 0) : Type 0 where
  pub left : View
  pub left_by : by left
  pub calls : ℕ
  pub later : s.calls ≤ calls
  pub reached : at (with_view s left calls)

-- so does a fault of some line
abbrev pub Leaves : State → (State → Type 0) → Type 0
Leaves s at = (line : Spoken) × LeavesBy (IsLeftIn line s) s at

-- ---- worn counters

-- the tree accepts a writing command; steps of it lead from the state's view to the one that is
-- left, and a counter has no room for what is next
pub record WornByCommand (which : Counter) (s : State) (c : Command) (left : View) : Type 0 where
  pub accepted : IsNone (refusal_of s.tree c)
  pub wears : Wears which s.count c s.view left

-- slots are free for a checkpoint, and the epoch has no room for it
pub record WornByCheckpoint (which : Counter) (s : State) (left : View) : Type 0 where
  pub counter_is : which ≡ Epoch
  pub room : save_slots s.view ≤ free_slots s.view
  pub worn : 2 ^ 64 ≤ s.view.epoch + 1
  pub left_is : left ≡ s.view

-- the line leads from the state's view to the one that is left, and a counter has no room for what
-- is next
abbrev pub WornBy : Counter → State → LineMeaning → View → Type 0
WornBy which s (Ok (Run c)) left = WornByCommand which s c left
WornBy which s (Ok Walk) left = ⊥
WornBy which s (Ok Df) left = ⊥
WornBy which s (Ok Sync) left = ⊥
WornBy which s (Ok Checkpoint) left = WornByCheckpoint which s left
WornBy which s (Ok Reclaim) left = WearsReclaiming which s.view left
WornBy which s (Ok Stop) left = ⊥
WornBy which s (Err refusal) left = ⊥

-- no counter is worn where no line was executed
abbrev pub WornFor : Counter → State → Option Line → View → Type 0
WornFor which s None left = ⊥
WornFor which s (Some line) left = WornBy which s (Ok line) left

-- what a line asks for wears the counter
abbrev pub WornIn : Counter → State → Spoken → View → Type 0
WornIn which s line left = WornFor which s (line_in s line) left

-- of these lines a next one wore the counter
pub record WornByNext (which : Counter) (s : State) (done lines : List Spoken) : Type 0 where
  pub next : Spoken
  pub has : HasNext next done lines
  pub left : View
  pub worn : WornIn which s next left

-- ---- what an end leaves of the lines

-- whether a `stop` was executed
abbrev pub has_stop : List Exchange → Bool
has_stop xs = list_any is_stop (executed xs)

-- nothing was executed, or a next line was there
abbrev pub IsAtLine : List Exchange → List Spoken → Type 0
IsAtLine xs lines = (xs ≡ []) ⊎ ((next : Spoken) × HasNext next (executed xs) lines)

-- how the executed lines stand to those of some bytes
abbrev pub Among : Mode → Option Fault → List ℕ → List Exchange → Type 0
Among mode None bytes xs = executed xs ≡ lines_to_run mode bytes
Among mode (Some Device) bytes xs = IsFront (executed xs) (lines_to_run mode bytes)
Among mode (Some (Damaged block)) bytes xs = IsAtLine xs (lines_to_run mode bytes)
Among mode (Some Source) bytes xs = IsFront (executed xs) (lines_to_run mode bytes)
Among mode (Some Memory) bytes xs = IsFront (executed xs) (lines_to_run mode bytes)
Among mode (Some TooLong) bytes xs = IsFront (executed xs) (lines_to_run mode bytes)
Among mode (Some (Worn which)) bytes xs = IsAtLine xs (lines_to_run mode bytes)
Among mode (Some Sink) bytes xs = IsFront (executed xs) (lines_to_run mode bytes)

-- all lines that are complete in these bytes were executed, and none of them is `stop`
pub record AllComplete (mode : Mode) (bytes : List ℕ) (xs : List Exchange) : Type 0 where
  pub lines_are : executed xs ≡ meanings mode bytes
  pub no_stop : list_any is_stop (executed xs) ≡ false

-- the lines that are complete in these bytes were executed before all others, and none of them is
-- `stop`
pub record BeginsWith (mode : Mode) (bytes : List ℕ) (xs : List Exchange) : Type 0 where
  pub rest : List Spoken
  pub lines_are : executed xs ≡ meanings mode bytes ++ rest
  pub no_stop : list_any is_stop (meanings mode bytes) ≡ false

-- what was taken of the script when a session ends
abbrev pub TakenAt : Mode → Option Fault → List ℕ → List Exchange → Type 0
TakenAt mode None taken xs = length taken ≤ script_limit
TakenAt mode (Some Device) taken xs = length taken ≤ script_limit
TakenAt mode (Some (Damaged block)) taken xs = length taken ≤ script_limit
TakenAt mode (Some Source) taken xs = (length taken ≤ script_limit) × AllComplete mode taken xs
TakenAt mode (Some Memory) taken xs = length taken ≤ script_limit
TakenAt mode (Some TooLong) taken xs =
    (length taken ≡ script_limit + 1) × AllComplete mode (take script_limit taken) xs
TakenAt mode (Some (Worn which)) taken xs = length taken ≤ script_limit
TakenAt mode (Some Sink) taken xs = length taken ≤ script_limit

-- a session that ends well and without a `stop` read its script to the end: nothing is left of a
-- known one, and the last take gave nothing
abbrev pub ReadOut : Option Fault → List Exchange → List ℕ → Known → Type 0
ReadOut None xs final rest = has_stop xs ≡ false → IsAtEnd rest × (final ≡ [])
ReadOut (Some e) xs final rest = ⊤

-- ---- what an end leaves of the replies

-- all replies but the last were written, and of that one a part
pub record IsCutShort (xs : List Exchange) (old new : Known) : Type 0 where
  pub front : List Exchange
  pub last : Exchange
  pub exchanges_are : xs ≡ front ++ last ∷ []
  pub part : WrotePart (said_line last.line.client last.said) (append_known old (text front)) new

-- a reply was cut short, and those of the lines that are complete in these bytes were written before
pub record IsCutAfter (mode : Mode) (bytes : List ℕ) (xs : List Exchange) (old new : Known)
    : Type 0 where
  pub cut : IsCutShort xs old new
  pub begins : BeginsWith mode bytes cut.front

-- all replies were written, and the sink didn't pass them on: before a take, when all lines that are
-- complete in what was taken were executed, or at the end
pub record IsKeptBack (mode : Mode) (taken : List ℕ) (xs : List Exchange) (old new : Known)
    : Type 0 where
  pub written : new ≡ append_known old (text xs)
  pub lines_are : AllComplete mode taken xs ⊎ (executed xs ≡ lines_to_run mode taken)

-- what was written of the replies when a session ends, which took `front` before its last take, and
-- `taken` in all
abbrev pub Replied :
    Mode → Option Fault → List ℕ → List ℕ → List Exchange → Known → Known → Type 0
Replied mode None front taken xs old new = new ≡ append_known old (text xs)
Replied mode (Some Device) front taken xs old new = new ≡ append_known old (text xs)
Replied mode (Some (Damaged block)) front taken xs old new = new ≡ append_known old (text xs)
Replied mode (Some Source) front taken xs old new = new ≡ append_known old (text xs)
Replied mode (Some Memory) front taken xs old new = new ≡ append_known old (text xs)
Replied mode (Some TooLong) front taken xs old new = new ≡ append_known old (text xs)
Replied mode (Some (Worn which)) front taken xs old new = new ≡ append_known old (text xs)
Replied mode (Some Sink) front taken xs old new =
    IsCutAfter mode front xs old new ⊎ IsKeptBack mode taken xs old new

-- ---- what an end tells of the state

-- what is told of the state before a fault's line: damage never comes, and a counter is worn by a
-- next one of these lines
abbrev pub Tells : Option Fault → State → List Spoken → List Spoken → Type 0
Tells None s done lines = ⊤
Tells (Some Device) s done lines = ⊤
Tells (Some (Damaged block)) s done lines = ⊥
Tells (Some Source) s done lines = ⊤
Tells (Some Memory) s done lines = ⊤
Tells (Some TooLong) s done lines = ⊤
Tells (Some (Worn which)) s done lines = WornByNext which s done lines
Tells (Some Sink) s done lines = ⊤

-- `at` holds of the state after the executed lines, or of what a fault of a next line leaves of it
abbrev pub Ends : Option Fault → State → (State → Type 0) → Type 0
Ends None s at = at s
Ends (Some Device) s at = Leaves s at
Ends (Some (Damaged block)) s at = ⊥
Ends (Some Source) s at = at s
Ends (Some Memory) s at = Leaves s at
Ends (Some TooLong) s at = at s
Ends (Some (Worn which)) s at = Leaves s at
Ends (Some Sink) s at = at s

-- ---- the end of a script

-- at its end all is made durable, after this many calls of the device, which a `stop` did already;
-- at a fault nothing is
abbrev pub closed : Option Fault → Bool → ℕ → State → State
closed None stopped calls s = if stopped then s else synced_state s calls
closed (Some e) stopped calls s = s

-- `at` holds of what a state becomes after this many calls of the device, no fewer than in it
pub record Later (becomes : ℕ → State) (at : State → Type 0) (s : State) : Type 0 where
  pub calls : ℕ
  pub later : s.calls ≤ calls
  pub reached : at (becomes calls)

-- `at` holds of the state then
abbrev pub ClosedAt : Option Fault → (State → Type 0) → Bool → State → Type 0
ClosedAt end at stopped s = Later (λ calls. closed end stopped calls s) at s

-- how many acknowledgements come with the end: one without a fault and without a `stop`
abbrev pub acks_at_end : Option Fault → Bool → ℕ
acks_at_end None stopped = if stopped then 0 else 1
acks_at_end (Some e) stopped = 0

-- none yet
abbrev pub no_acks : Bool → ℕ
no_acks stopped = 0

-- ---- a whole session

-- the state after the lines of a session, by those of what was taken and of the script; `last`
-- holds then, by whether a `stop` is among them
pub record EndsIn (mode : Mode) (end : Option Fault) (xs : List Exchange) (taken : List ℕ)
    (script : Known) (last : Bool → State → Type 0) (s : State) : Type 0 where
  pub told : Tells end s (executed xs) (lines_to_run mode taken)
  pub told_script : IfSome script (λ bytes. Tells end s (executed xs) (lines_to_run mode bytes))
  pub reached : Ends end s (last (has_stop xs))

-- a session with a script, of which `script` is left of the source before and `rest` after, and how
-- it was asked for: its lines with their replies, among the lines that were taken and those of the
-- script, and an acknowledgement for each that makes all durable, with this many more at the end, by
-- whether a `stop` is among them; from each state at which it may begin they have one transcript
pub record Session (mode : Mode) (end : Option Fault) (first : State → Type 0)
    (last : Bool → State → Type 0) (more : Bool → ℕ) (script rest : Known)
    (before now : Option Takes) (old new : Output) : Type 0 where
  pub exchanges : List Exchange
  pub answered : AllByRecursion IsAnswered exchanges
  pub front : List ℕ
  pub final : List ℕ
  pub taken : List ℕ
  pub taken_is : taken ≡ front ++ final
  pub script_is : script ≡ prepend_known taken rest
  pub took : Took front final before now
  pub begins : BeginsWith mode front exchanges
  pub among_taken : Among mode end taken exchanges
  pub among_script : IfSome script (λ bytes. Among mode end bytes exchanges)
  pub taken_at : TakenAt mode end taken exchanges
  pub read_out : ReadOut end exchanges final rest
  pub replied : Replied mode end front taken exchanges old.written new.written
  pub acked :
      HasAcked (durable (executed exchanges) + more (has_stop exchanges)) old.acks new.acks
  pub runs : (s : State) → first s
      → HasTranscript s exchanges (EndsIn mode end exchanges taken script last)

-- a session before all is made durable at its end; how it goes on tells whether a `stop` was
-- executed
pub record RunsPieces (mode : Mode) (result : Result (ControlFlow (Unit {0}) (Unit {0})) Fault)
    (first last : State → Type 0) (script rest : Known) (before now : Option Takes)
    (old new : Output) : Type 0 where
  pub session :
      Session mode (end_of result) first (λ _. last) no_acks script rest before now old new
  pub flow : IfOk result (λ flow. breaks flow ≡ has_stop session.exchanges)
