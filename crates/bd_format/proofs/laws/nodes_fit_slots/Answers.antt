use Rattle.bd_format.proofs.Fitting.{length-leaf, length-inner, length-node}
use Rattle.bd_format.proofs.laws.nodes_fit_slots.Goals as goal

pub returns-clause-leaf : goal.returns-clause-leaf
returns-clause-leaf c = length-leaf

pub returns-clause-inner : goal.returns-clause-inner
returns-clause-inner c = length-inner c.encodings_fit_sizes.ensures

pub returns-clause-slot : goal.returns-clause-slot
returns-clause-slot c = length-node c.encodings_fit_sizes.ensures
