use Rattle.bd_node.proofs.Compacting.{loose_shape, compacted_shape, compacted_level, compacted_meaning, compacted_size, compacted_times}
use Rattle.bd_inner.proofs.laws.compacted_nodes.Goals as goal

pub returns-clause-loose : goal.returns-clause-loose
returns-clause-loose c = loose_shape

pub returns-clause-shape : goal.returns-clause-shape
returns-clause-shape c = compacted_shape

pub returns-clause-level : goal.returns-clause-level
returns-clause-level c = compacted_level

pub returns-clause-meaning : goal.returns-clause-meaning
returns-clause-meaning c = compacted_meaning

pub returns-clause-size : goal.returns-clause-size
returns-clause-size c = compacted_size

pub returns-clause-names : goal.returns-clause-names
returns-clause-names c = compacted_times
