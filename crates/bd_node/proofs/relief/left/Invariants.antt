use Rattle.bd_node.proofs.Going.{IsLeft}
use Rattle.bd_node.proofs.relief.left.Given as goal

abbrev pub invariant-loop-at : goal.invariant-loop-at
invariant-loop-at l = IsLeft l.edges l.place l.from l.buffer l.at l.mask.items
