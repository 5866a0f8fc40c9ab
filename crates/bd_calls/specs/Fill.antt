-- What filling an image says in place of its replies.
use Rattle.std.specs.Prelude.{◌≡◌, ◌⊎◌, ℕ, List, [], ◌∷◌, ◌++◌, ⊤}
use Rattle.std.specs.List.{flat_map}
use Rattle.std.specs.Io.KnownBytes.{append_known}
use Rattle.std.specs.declared.option.Option.{Option}
use Rattle.std.specs.declared.option.Option.TheVariants.{None, Some}
use Rattle.std.specs.declared.result.Result.{Result}
use Rattle.std.specs.declared.result.Result.TheVariants.{Ok, Err}
use Rattle.bd_io.specs.Cause.{Rose}
use Rattle.bd_io.specs.Written.{WrotePart}
use Rattle.bd_script.specs.declared.replies.LineReply.{LineReply}
use Rattle.bd_sessions.specs.declared.replies.TurnReply.{TurnReply}
use Rattle.bd_sessions.specs.declared.replies.TurnReply.TheVariants as turn_reply
use Rattle.bd_shell.specs.declared.fault.Fault.{Fault}
use Rattle.bd_shell.specs.declared.fault.Fault.TheVariants.{Device, Damaged, Source, Memory, TooLong, Worn, Sink}
use Rattle.bd_shell.specs.Fault.{status_of, fault_line}
use Rattle.bd_shell.specs.Transcript.{Known, Exchange}

-- the reply to a line of a script
abbrev pub line_said : TurnReply → List LineReply
line_said (turn_reply.Line r) = r ∷ []
line_said (turn_reply.Opened number) = []
line_said turn_reply.Closed = []
line_said (turn_reply.No denial) = []

-- the replies to the lines that were executed, each of which is a line of a script
abbrev pub said_in : List Exchange → List LineReply
said_in xs = flat_map (λ x. line_said x.said) xs

-- the lines of a generated script may end by this fault: its source fails for want of memory alone,
-- it isn't too long, and the sink that counts its replies doesn't fail
abbrev pub EndsLines : Fault → Type 0
EndsLines Device = ⊤
EndsLines (Damaged block) = ⊤
EndsLines Source = ⊥
EndsLines Memory = ⊤
EndsLines TooLong = ⊥
EndsLines (Worn which) = ⊤
EndsLines Sink = ⊥

-- so they end, or with the script
abbrev pub CanEndLines : Option Fault → Type 0
CanEndLines None = ⊤
CanEndLines (Some e) = EndsLines e

-- a fault of a generated script's source is want of memory
abbrev pub named : Fault → Fault
named Device = Device
named (Damaged block) = Damaged block
named Source = Memory
named Memory = Memory
named TooLong = TooLong
named (Worn which) = Worn which
named Sink = Sink

abbrev pub result_named : {T : Type 0} → Result T Fault → Result T Fault
result_named (Ok x) = Ok x
result_named (Err e) = Err (named e)

-- the status where the sink fails at the summary
abbrev pub cut_status : Option Fault → ℕ
cut_status None = status_of Sink
cut_status (Some e) = status_of e

-- all of a line is written, or a part where the sink's count rose
abbrev pub WritesSome : List ℕ → Known → Known → ℕ → ℕ → Type 0
WritesSome line old new before now =
    (new ≡ append_known old line) ⊎ (WrotePart line old new × Rose before now)

-- a line was written: all of it, and the call ends well with this status; or as far as the sink's
-- own fault let it be
abbrev pub TellsLine : ℕ → ℕ → List ℕ → Known → Known → ℕ → ℕ → Type 0
TellsLine well status said old new before now =
    ((status ≡ well) × (new ≡ append_known old said) × (now ≡ before))
    ⊎ ((status ≡ status_of Sink) × WritesSome said old new before now × Rose before now)

-- the summary is written, and after it the line of the fault that ended the lines, where one did;
-- else the sink's own fault may end the call
abbrev pub TellsSummary : Option Fault → ℕ → List ℕ → Known → Known → ℕ → ℕ → Type 0
TellsSummary None status said old new before now = TellsLine 0 status said old new before now
TellsSummary (Some e) status said old new before now =
    (status ≡ status_of e) × WritesSome (said ++ fault_line e) old new before now
