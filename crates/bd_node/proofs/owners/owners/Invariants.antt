use Rattle.bd_node.specs.Owners.{AreOwnedTo}
use Rattle.bd_node.proofs.owners.owners.Given as goal

abbrev pub invariant-loop-at : goal.invariant-loop-at
invariant-loop-at l = AreOwnedTo l.owners.items l.edges l.items l.points l.at l.first
