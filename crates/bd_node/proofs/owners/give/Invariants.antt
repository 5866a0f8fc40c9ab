use Rattle.bd_node.proofs.Owning.{IsGiving}
use Rattle.bd_node.proofs.owners.give.Given as goal

abbrev pub invariant-loop-at : goal.invariant-loop-at
invariant-loop-at l = IsGiving l.fn.owners.items l.owners.items l.points l.from l.at l.to l.number
