use Rattle.bd_node.proofs.Counting.{counts_stepped, counts_dropped}
use Rattle.bd_node.proofs.laws.counts_follow_the_nodes.Goals as goal

pub returns-clause-stepped : goal.returns-clause-stepped
returns-clause-stepped c = counts_stepped

pub returns-clause-dropped : goal.returns-clause-dropped
returns-clause-dropped c = counts_dropped
