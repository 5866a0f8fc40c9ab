use Rattle.bd_node.proofs.Closing.{stay_above}
use Rattle.bd_node.proofs.laws.changes_with_room_stay_below.Goals as goal

pub returns : goal.returns
returns c = stay_above
