use Rattle.bd_tally.proofs.IdLemmas.{counted_sound}
use Rattle.bd_tally.proofs.laws.counted_nodes_are_sound.Goals as goal

pub returns : goal.returns
returns c = counted_sound
