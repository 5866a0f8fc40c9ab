-- What the laws of handles speak of: what of all that is said concerns the handles of one client.
use Rattle.std.specs.Prelude.{ℕ, List, [], ◌∷◌, map, slice_set, ◌==◌, if◌then◌else◌, ⊤, IsTrue}
use Rattle.std.specs.FinMap.{get}
use Rattle.std.specs.declared.option.Option.{Option}
use Rattle.std.specs.declared.option.Option.TheVariants.{None, Some}
use Rattle.bd_command.specs.declared.Command.{Command}
use Rattle.bd_model.specs.Tree.{Path, Tree}
use Rattle.bd_model.specs.Step.{has_file}
use Rattle.bd_script.specs.declared.replies.LineReply.{LineReply}
use Rattle.bd_sessions.specs.declared.turn.Turn.{Turn}
use Rattle.bd_sessions.specs.declared.turn.Turn.TheVariants.{Plain, Open, Read, Write, Stat, Close}
use Rattle.bd_sessions.specs.Handles.{Row, stands_for, one_more, is_accepted}
use Rattle.bd_sessions.specs.Telling.{open_said, opened_row}

-- a path is nowhere, or a file is there
abbrev pub HasFileIfThere : Tree → Option Path → Type 0
HasFileIfThere t None = ⊤
HasFileIfThere t (Some path) = IsTrue (has_file (get t path))

-- what concerns the handles of a client: a command that was accepted, whoever asked for it; its own
-- open of a path, with the tree's reply; its own close
pub data Heard : Type 0 where
  Accepted : (c : Command) → Heard
  Opens : (path : Path) (line : LineReply) → Heard
  Closes : (number : ℕ) → Heard

-- a client's row after one of them
abbrev pub own_row : Heard → Row → Row
own_row (Accepted c) row = map (one_more c) row
own_row (Opens path line) row = opened_row path (open_said path line (map stands_for row)) row
own_row (Closes number) row = slice_set row number None

-- a client's row after all of them, one after the other
abbrev pub own_after : List Heard → Row → Row
own_after [] row = row
own_after (h ∷ hs) row = own_after hs (own_row h row)

-- what concerns the handles of all clients of a command that was replied to in this way
abbrev pub accepted_by : Command → LineReply → List Heard
accepted_by c line = if is_accepted c line then Accepted c ∷ [] else []

-- what concerns a client's handles of a turn whose command was replied to in this way
abbrev pub heard_by : ℕ → ℕ → Turn → Command → LineReply → List Heard
heard_by client speaker (Plain l) c line = accepted_by c line
heard_by client speaker (Open path) c line =
    if client == speaker then Opens path line ∷ [] else []
heard_by client speaker (Read handle off len) c line = accepted_by c line
heard_by client speaker (Write handle off bytes) c line = accepted_by c line
heard_by client speaker (Stat handle) c line = accepted_by c line
heard_by client speaker (Close handle) c line = accepted_by c line

-- what concerns a client's handles of a turn that closed a handle
abbrev pub closes_by : ℕ → ℕ → Turn → List Heard
closes_by client speaker (Plain l) = []
closes_by client speaker (Open path) = []
closes_by client speaker (Read handle off len) = []
closes_by client speaker (Write handle off bytes) = []
closes_by client speaker (Stat handle) = []
closes_by client speaker (Close handle) = if client == speaker then Closes handle ∷ [] else []
