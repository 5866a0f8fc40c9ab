use Rattle.bd_view.proofs.Logs.{room_is, place_is}
use Rattle.bd_view.proofs.laws.logs_have_the_same_numbers.Goals as goal

pub returns-clause-room : goal.returns-clause-room
returns-clause-room c = room_is

pub returns-clause-place : goal.returns-clause-place
returns-clause-place c = place_is
