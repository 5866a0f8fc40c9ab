-- What an import takes of a source, and what it executes of the commands that a stream gives.
use Rattle.std.specs.Prelude.{◌≡◌, ◌⊎◌, ℕ, ◌+◌, ◌-◌, ◌^◌, ◌<◌, ◌≤◌, min, Bool, true, false, not, List, [], ◌∷◌, ◌++◌, length, map, take}
use Rattle.std.specs.List.{AllByRecursion}
use Rattle.std.specs.Io.KnownBytes.{prepend_known, IsAtEnd}
use Rattle.std.specs.declared.option.Option.{Option}
use Rattle.std.specs.declared.option.Option.TheVariants.{None, Some}
use Rattle.std.specs.declared.result.Result.{Result}
use Rattle.std.specs.declared.result.Result.TheVariants.{Ok, Err}
use Rattle.bd_limits.specs.Limits.{piece_limit}
use Rattle.bd_io.specs.Takes.{Takes}
use Rattle.bd_io.specs.declared.failed.Failed.{Failed}
use Rattle.bd_command.specs.declared.Command.{Command}
use Rattle.bd_command.specs.declared.reply.Reply.TheVariants.{Done, Bytes, Dir, File, Names, Refused as No}
use Rattle.bd_script.specs.declared.replies.LineReply.{LineReply}
use Rattle.bd_script.specs.declared.replies.LineReply.TheVariants as reply
use Rattle.bd_sessions.specs.Spoken.{Spoken}
use Rattle.bd_sessions.specs.declared.replies.TurnReply.TheVariants.{Line as Said}
use Rattle.bd_stream.specs.Feeding.{fault_in, has_ended}
use Rattle.bd_stream.specs.Importing.{Path, State as Stream, fed, start}
use Rattle.bd_stream.specs.Streams.{stream_limit}
use Rattle.bd_stream.specs.declared.fault.ImportFault.TheVariants as why
use Rattle.bd_stream.specs.declared.machine.Phase.{Phase}
use Rattle.bd_shell.specs.declared.fault.Fault.{Fault}
use Rattle.bd_shell.specs.declared.fault.Fault.TheVariants.{Device, Damaged, Source, Memory, TooLong, Worn, Sink}
use Rattle.bd_shell.specs.Transcript.{Known, State, Exchange, IsAnswered, HasTranscript, IsFront, commanded, executed}
use Rattle.bd_shell.specs.Session.{Ends, Tells, end_of}
use Rattle.bd_shell.specs.Shell.{IsLineFault, RepliesTo, TurnFails}
use Rattle.bd_shell.specs.Taken.{Took}
use Rattle.bd_transfer.specs.declared.importing.Fed.{Fed}
use Rattle.bd_transfer.specs.declared.importing.Fed.TheVariants.{More, Ended}
use Rattle.bd_transfer.specs.declared.importing.ImportEnd.{ImportEnd}
use Rattle.bd_transfer.specs.declared.importing.ImportEnd.TheVariants.{Whole, BadStream, LongPath, Refused, Full}
use Rattle.bd_transfer.specs.declared.taking.Given.{Given}
use Rattle.bd_transfer.specs.declared.taking.Given.TheVariants.{Piece, End, Beyond}

-- ---- what a source gives

-- a piece within the limit, the end, or a byte past the limit, of what was left
abbrev pub IsGiven : Given → ℕ → List ℕ → Known → Known → Type 0
IsGiven (Piece size) taken piece old new =
    (0 < size) × (size ≤ piece_limit) × (taken + size ≤ stream_limit)
    × (old ≡ prepend_known (take size piece) new)
IsGiven End taken piece old new = IsAtEnd old × (new ≡ old)
IsGiven Beyond taken piece old new =
    (taken ≡ stream_limit) × (old ≡ prepend_known (take 1 piece) new)

-- the bytes that a take gave
abbrev pub given_by : Result Given Failed → List ℕ → List ℕ
given_by (Ok (Piece size)) piece = take size piece
given_by (Ok End) piece = []
given_by (Ok Beyond) piece = take 1 piece
given_by (Err e) piece = []

-- ---- one command

-- a command with what was said to it
abbrev pub got : Command → LineReply → Exchange
got c said = record { line = commanded c; said = Said said }

-- how an import ends by what is said to a command: by a refusal, or where slots are short
abbrev pub end_by : LineReply → Option ImportEnd
end_by (reply.Command Done) = None
end_by (reply.Command (Bytes bytes)) = None
end_by (reply.Command (Dir mode)) = None
end_by (reply.Command (File len mode)) = None
end_by (reply.Command (Names listing)) = None
end_by (reply.Command (No refusal)) = Some (Refused refusal)
end_by (reply.Unread refusal) = None
end_by (reply.Walk visits height) = None
end_by reply.Done = None
end_by (reply.Free free slots) = None
end_by (reply.Full free need) = Some (Full free need)
end_by reply.Stopped = None

-- a command was executed, and how an import ends by its reply, if it does
pub record GivesReply (end : Option ImportEnd) (c : Command) (first last : State → Type 0)
    : Type 0 where
  pub said : LineReply
  pub answered : IsAnswered (got c said)
  pub ends : end ≡ end_by said
  pub runs : (t : State) → first t → RepliesTo t (commanded c) (Said said) last

-- how one command went
abbrev pub GivesOne : Result (Option ImportEnd) Fault → Command → (State → Type 0)
    → (State → Type 0) → Type 0
GivesOne (Ok end) c first last = GivesReply end c first last
GivesOne (Err e) c first last =
    IsLineFault e × ((t : State) → first t → TurnFails e t (commanded c) last)

-- ---- some commands

-- a command after whose reply an import goes on
pub record Passed (x : Exchange) : Type 0 where
  pub said : LineReply
  pub said_is : x.said ≡ Said said
  pub goes_on : end_by said ≡ None

abbrev pub AllPassed : List Exchange → Type 0
AllPassed xs = AllByRecursion Passed xs

-- all but the last one are such, and that one ends the import so
pub record LastGot (end : ImportEnd) (xs : List Exchange) : Type 0 where
  pub front : List Exchange
  pub last : Exchange
  pub exchanges : xs ≡ front ++ last ∷ []
  pub passed : AllPassed front
  pub said : LineReply
  pub said_is : last.said ≡ Said said
  pub ends : end_by said ≡ Some end

-- commands of a list were executed: all, or up to one that ends the import, or up to a fault
abbrev pub HaveGone : Result (Option ImportEnd) Fault → List Command → List Exchange → Type 0
HaveGone (Ok None) cs xs = (executed xs ≡ map commanded cs) × AllPassed xs
HaveGone (Ok (Some e)) cs xs = IsFront (executed xs) (map commanded cs) × LastGot e xs
HaveGone (Err e) cs xs = IsLineFault e × IsFront (executed xs) (map commanded cs) × AllPassed xs

-- what is told of the state after some commands of a list: damage never comes, and a counter is
-- worn by the next one
pub record EndsGiving (end : Option Fault) (lines : List Spoken) (xs : List Exchange)
    (last : State → Type 0) (at : State) : Type 0 where
  pub told : Tells end at (executed xs) lines
  pub reached : Ends end at last

-- how a list of commands went
pub record GivesAll (result : Result (Option ImportEnd) Fault) (cs : List Command)
    (first last : State → Type 0) : Type 0 where
  pub exchanges : List Exchange
  pub answered : AllByRecursion IsAnswered exchanges
  pub gone : HaveGone result cs exchanges
  pub runs : (s : State) → first s → HasTranscript s exchanges
      (EndsGiving (end_of result) (map commanded cs) exchanges last)

-- ---- a stream

-- what a stream's bytes give, as what is executed
abbrev pub given : Path → List ℕ → List Spoken
given target bytes = map commanded (fed (start target) bytes).1

-- where an importer is after these bytes
abbrev pub phase_after : Path → List ℕ → Phase
phase_after target bytes = (fed (start target) bytes).0.phase

-- all that the bytes give was executed and accepted
pub record AllGone (target : Path) (bytes : List ℕ) (xs : List Exchange) : Type 0 where
  pub lines_are : executed xs ≡ given target bytes
  pub passed : AllPassed xs

-- a part of it was
pub record SomeGone (target : Path) (bytes : List ℕ) (xs : List Exchange) : Type 0 where
  pub lines_are : IsFront (executed xs) (given target bytes)
  pub passed : AllPassed xs

-- a part of it was, and the last command ends the import
pub record LastGone (end : ImportEnd) (target : Path) (bytes : List ℕ) (xs : List Exchange)
    : Type 0 where
  pub lines_are : IsFront (executed xs) (given target bytes)
  pub last : LastGot end xs

-- bytes that are no stream: no more may come, or they have come to their end before it
abbrev pub IsNoStream : Path → List ℕ → Known → Type 0
IsNoStream target bytes rest = (fault_in (phase_after target bytes) ≡ Some why.BadStream)
    ⊎ ((has_ended (phase_after target bytes) ≡ false) × IsAtEnd rest)

-- the count of what was executed, which stands still at the last value of a u64
abbrev pub counted : List Exchange → ℕ
counted xs = min (length xs) (2 ^ 64 - 1)

-- what was executed of the bytes that were fed at each end, where `taken` were taken of a script of
-- which `rest` is left
abbrev pub Arrived : Result ImportEnd Fault → Path → List ℕ → List ℕ → Known → List Exchange
    → Type 0
Arrived (Ok (Whole count)) target bytes taken rest xs = AllGone target bytes xs
    × (has_ended (phase_after target bytes) ≡ true) × (count ≡ counted xs)
    × (taken ≡ bytes) × IsAtEnd rest
Arrived (Ok BadStream) target bytes taken rest xs =
    AllGone target bytes xs × IsNoStream target bytes rest × (taken ≡ bytes)
Arrived (Ok LongPath) target bytes taken rest xs = AllGone target bytes xs
    × (fault_in (phase_after target bytes) ≡ Some why.LongPath) × (taken ≡ bytes)
Arrived (Ok (Refused r)) target bytes taken rest xs =
    LastGone (Refused r) target bytes xs × (taken ≡ bytes)
Arrived (Ok (Full free need)) target bytes taken rest xs =
    LastGone (Full free need) target bytes xs × (taken ≡ bytes)
Arrived (Err Device) target bytes taken rest xs =
    SomeGone target bytes xs × (taken ≡ bytes)
Arrived (Err (Damaged block)) target bytes taken rest xs =
    SomeGone target bytes xs × (taken ≡ bytes)
Arrived (Err Source) target bytes taken rest xs = AllGone target bytes xs × (taken ≡ bytes)
Arrived (Err Memory) target bytes taken rest xs =
    SomeGone target bytes xs × IsFront bytes taken
Arrived (Err TooLong) target bytes taken rest xs = AllGone target bytes xs
    × (length taken ≡ stream_limit + 1) × (bytes ≡ take stream_limit taken)
Arrived (Err (Worn which)) target bytes taken rest xs =
    SomeGone target bytes xs × (taken ≡ bytes)
Arrived (Err Sink) target bytes taken rest xs = ⊥

-- an import of a stream, of which `script` is left of the source before and `rest` after, and how
-- it was asked for: what it took and fed, and what was executed; from each state at which it may
-- begin that has one transcript
pub record Imports (result : Result ImportEnd Fault) (target : Path) (first last : State → Type 0)
    (script rest : Known) (before now : Option Takes) : Type 0 where
  pub exchanges : List Exchange
  pub answered : AllByRecursion IsAnswered exchanges
  pub bytes : List ℕ
  pub front : List ℕ
  pub final : List ℕ
  pub taken : List ℕ
  pub taken_is : taken ≡ front ++ final
  pub few : length bytes ≤ stream_limit
  pub script_is : script ≡ prepend_known taken rest
  pub took : Took front final before now
  pub arrived : Arrived result target bytes taken rest exchanges
  pub runs : (s : State) → first s → HasTranscript s exchanges
      (EndsGiving (end_of result) (given target bytes) exchanges last)

-- ---- a piece

-- how an import ends by the phase after a piece, if it does
abbrev pub IsStopAt : Option ImportEnd → Phase → Type 0
IsStopAt None phase = fault_in phase ≡ None
IsStopAt (Some (Whole count)) phase = ⊥
IsStopAt (Some BadStream) phase = fault_in phase ≡ Some why.BadStream
IsStopAt (Some LongPath) phase = fault_in phase ≡ Some why.LongPath
IsStopAt (Some (Refused r)) phase = ⊥
IsStopAt (Some (Full free need)) phase = ⊥

-- how an import goes on after a piece, whose commands were so many
abbrev pub fed_by : Option ImportEnd → ℕ → Fed
fed_by None count = More count
fed_by (Some e) count = Ended e

-- what was executed of a piece's commands where an import ends so
abbrev pub StopsSo : ImportEnd → List Command → Stream → List Exchange → Type 0
StopsSo e cs now xs = (IsStopAt (Some e) now.phase × HaveGone (Ok None) cs xs) ⊎ HaveGone (Ok (Some e)) cs xs

-- how a piece went: all of it was fed, or a fault came
abbrev pub HasFed : Result Fed Fault → Stream → Stream → List ℕ → List Exchange → Type 0
HasFed (Ok (More count)) s now piece xs = (now ≡ (fed s piece).0) × (fault_in now.phase ≡ None)
    × HaveGone (Ok None) (fed s piece).1 xs × (count ≡ length (fed s piece).1)
HasFed (Ok (Ended e)) s now piece xs =
    (now ≡ (fed s piece).0) × StopsSo e (fed s piece).1 now xs
HasFed (Err e) s now piece xs = HaveGone (Err e) (fed s piece).1 xs

pub record FeedsPiece (result : Result Fed Fault) (s now : Stream) (piece : List ℕ)
    (first last : State → Type 0) : Type 0 where
  pub exchanges : List Exchange
  pub answered : AllByRecursion IsAnswered exchanges
  pub went : HasFed result s now piece exchanges
  pub runs : (u : State) → first u → HasTranscript u exchanges
      (EndsGiving (end_of result) (map commanded (fed s piece).1) exchanges last)

-- ---- the end

-- the stream is whole
abbrev pub is_made : ImportEnd → Bool
is_made (Whole count) = true
is_made BadStream = false
is_made LongPath = false
is_made (Refused r) = false
is_made (Full free need) = false

-- only at the end of a whole stream all is made durable
abbrev pub keeps : Result ImportEnd Fault → Bool
keeps (Ok e) = not (is_made e)
keeps (Err e) = true

-- what comes after the last command: the end stays what it is, or a whole stream's end isn't made
-- durable
abbrev pub Concludes : Result ImportEnd Fault → ImportEnd → (State → Type 0) → (State → Type 0)
    → Type 0
Concludes (Ok e) end first last = (e ≡ end) × ((s : State) → first s → last s)
Concludes (Err e) end first last = (is_made end ≡ true) × ((e ≡ Device) ⊎ (e ≡ Memory))
    × ((s : State) → first s → Ends (Some e) s last)
