-- How what was read of a client's line stands to its meaning.
use Rattle.std.specs.Prelude.{◌≡◌, ◌<◌, ℕ, IsTrue, is_ok, IfOk, IsSome}
use Rattle.std.specs.declared.option.Option.{Option}
use Rattle.std.specs.declared.option.Option.TheVariants.{None, Some}
use Rattle.std.specs.declared.result.Result.{Result}
use Rattle.std.specs.declared.result.Result.TheVariants.{Ok, Err}
use Rattle.bd_script.specs.Reading.{IsReadAs}
use Rattle.bd_script.specs.declared.line.LineFault.{LineFault}
use Rattle.bd_sessions.specs.Handles.{client_limit}
use Rattle.bd_sessions.specs.Turns.{TurnMeaning, IsTurn}
use Rattle.bd_sessions.specs.declared.turn.Turn.{Turn}
use Rattle.bd_sessions.specs.declared.turn.TurnFault.{TurnFault}
use Rattle.bd_sessions.specs.declared.turn.TurnFault.TheVariants.{NoClient, Refused, NoMemory}

-- a turn is read as what its text means, and within its limits
abbrev pub IsTextRead : Result Turn LineFault → TurnMeaning → Type 0
IsTextRead result meaning = IsReadAs result meaning × IfOk result IsTurn

-- a client's line is read as what it means; only what isn't refused can be short of memory
abbrev pub IsTurnRead : Result (ℕ × Turn) TurnFault → Option ℕ → TurnMeaning → Type 0
IsTurnRead (Ok read) client meaning =
    (client ≡ Some read.0) × (read.0 < client_limit) × (meaning ≡ Ok read.1) × IsTurn read.1
IsTurnRead (Err NoClient) client meaning = client ≡ None
IsTurnRead (Err (Refused number refusal)) client meaning =
    (client ≡ Some number) × (meaning ≡ Err refusal)
IsTurnRead (Err NoMemory) client meaning = IsSome client × IsTrue (is_ok meaning)
