use Rattle.bd_tally.proofs.IdLemmas.{sound_counted}
use Rattle.bd_tally.proofs.laws.sound_nodes_are_counted.Goals as goal

pub returns : goal.returns
returns c = sound_counted
