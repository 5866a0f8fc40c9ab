use Rattle.bd_node.proofs.Closing.{begun, dropped, ended}
use Rattle.bd_node.proofs.laws.closed_nodes_become_sound.Goals as goal

pub returns-clause-begun : goal.returns-clause-begun
returns-clause-begun c = begun

pub returns-clause-dropped : goal.returns-clause-dropped
returns-clause-dropped c = dropped

pub returns-clause-ended : goal.returns-clause-ended
returns-clause-ended c = ended
