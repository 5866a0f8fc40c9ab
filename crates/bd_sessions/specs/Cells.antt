-- What the cells of the handles' numbers hold.
use Rattle.std.specs.Prelude.{◌<◌, List, map, ⊤}
use Rattle.std.specs.declared.option.Option.{Option}
use Rattle.std.specs.declared.option.Option.TheVariants.{None, Some}
use Rattle.bd_sessions.specs.declared.cell.Cell.{Cell}
use Rattle.bd_sessions.specs.declared.cell.Change.{Change}
use Rattle.bd_sessions.specs.declared.cell.Change.TheVariants.{Stays, Moves, Loses}
use Rattle.bd_sessions.specs.declared.handle.Handle.{Handle}
use Rattle.bd_sessions.specs.declared.handle.Handle.TheVariants.{Free, At, Gone}
use Rattle.bd_sessions.specs.declared.waiting.Waiting.{Waiting}
use Rattle.bd_sessions.specs.declared.waiting.Waiting.TheVariants.{Nothing, Same, Changes, Opening}
use Rattle.bd_sessions.specs.Handles.{Table, client_limit}
use Rattle.bd_sessions.specs.Sessions.{Held, Waits, Runs, Opens}

-- what a number stands for once it was changed
abbrev pub changed_handle : Change → Handle → Handle
changed_handle Stays now = now
changed_handle (Moves path) now = At path
changed_handle Loses now = Gone

-- the cell of a number that isn't open
abbrev pub free_cell : Cell
free_cell = record { handle = Free; change = Stays }

-- what the number of a cell stands for
abbrev pub now_of : Cell → Handle
now_of cell = cell.handle

-- what it stands for once its change was made
abbrev pub next_of : Cell → Handle
next_of cell = changed_handle cell.change cell.handle

-- what the numbers of a client's cells stand for
abbrev pub now_in : List Cell → Table
now_in cells = map now_of cells

-- what they stand for once their changes were made
abbrev pub next_in : List Cell → Table
next_in cells = map next_of cells

-- what waits for a reply
abbrev pub waits_in : Waiting → List (List Cell) → Option Waits
waits_in Nothing cells = None
waits_in Same cells = Some (Runs (map now_in cells))
waits_in Changes cells = Some (Runs (map next_in cells))
waits_in (Opening client path) cells = Some (Opens client path)

-- what cells hold, and what waits
abbrev pub held_in : List (List Cell) → Waiting → Held
held_in cells waiting = record { tables = map now_in cells; waits = waits_in waiting cells }

-- a client that opens a handle is one
abbrev pub IsWaiting : Waiting → Type 0
IsWaiting Nothing = ⊤
IsWaiting Same = ⊤
IsWaiting Changes = ⊤
IsWaiting (Opening client path) = client < client_limit
