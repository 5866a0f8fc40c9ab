use Rattle.bd_node.proofs.index.regrown.Goals as goal

pub extended-requires-clause-index : goal.extended-requires-clause-index
extended-requires-clause-index c = c.requires.index c.in-Some.index c.in-Some.is
