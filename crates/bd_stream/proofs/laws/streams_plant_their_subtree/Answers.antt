use Rattle.bd_stream.proofs.PlantLemmas.{planting_accepted, planting_plants}
use Rattle.bd_stream.proofs.laws.streams_plant_their_subtree.Goals as goal

pub returns-clause-accepted : goal.returns-clause-accepted
returns-clause-accepted c = planting_accepted

pub returns-clause-planted : goal.returns-clause-planted
returns-clause-planted c = planting_plants
