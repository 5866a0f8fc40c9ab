-- Lines as what was spoken: by which client, and what it means.
use Rattle.std.specs.Prelude.{ℕ, Bool, false, List, [], ◌∷◌, if◌then◌else◌}
use Rattle.std.specs.declared.option.Option.{Option}
use Rattle.std.specs.declared.option.Option.TheVariants.{None, Some}
use Rattle.std.specs.declared.result.Result.TheVariants.{Ok, Err}
use Rattle.bd_command.specs.declared.refusal.Refusal.TheVariants.{BadLine}
use Rattle.bd_script.specs.Lines as lines
use Rattle.bd_script.specs.Lines.{line_of}
use Rattle.bd_sessions.specs.declared.turn.Turn.TheVariants.{Plain, Open, Read, Write, Stat, Close}
use Rattle.bd_sessions.specs.Handles.{client_limit}
use Rattle.bd_sessions.specs.Turns.{TurnMeaning, plain, client_of, turn_of}

-- what a line asks for, and the client that asks; none in a script of one client
pub record Spoken : Type 0 where
  pub client : Option ℕ
  pub turn : TurnMeaning

-- how the lines of a script are read: as lines of one client, or each with its client's number
pub data Mode : Type 0 where
  Single : Mode
  Tagged : Mode

-- a line that begins with a client's number, or has none
abbrev pub tagged : Option ℕ → TurnMeaning → Spoken
tagged None turn = record { client = None; turn = Err BadLine }
tagged (Some client) turn = record { client = Some client; turn = turn }

-- what a line says
abbrev pub spoken : Mode → List ℕ → Spoken
spoken Single line = record { client = None; turn = plain (line_of line) }
spoken Tagged line = tagged (client_of line) (turn_of line)

-- the turn ends the run
abbrev pub is_stop_turn : TurnMeaning → Bool
is_stop_turn (Ok (Plain line)) = lines.is_stop (Ok line)
is_stop_turn (Ok (Open path)) = false
is_stop_turn (Ok (Read handle off len)) = false
is_stop_turn (Ok (Write handle off bytes)) = false
is_stop_turn (Ok (Stat handle)) = false
is_stop_turn (Ok (Close handle)) = false
is_stop_turn (Err refusal) = false

-- the line is a `stop`, of any client
abbrev pub is_stop : Spoken → Bool
is_stop line = is_stop_turn line.turn

-- the lines up to the first `stop`, and that one
abbrev pub up_to_stop : List Spoken → List Spoken
up_to_stop [] = []
up_to_stop (l ∷ ls) = l ∷ (if is_stop l then [] else up_to_stop ls)

-- the number of the client; without one the first that no client has
abbrev pub client_or_none : Option ℕ → ℕ
client_or_none None = client_limit
client_or_none (Some client) = client
