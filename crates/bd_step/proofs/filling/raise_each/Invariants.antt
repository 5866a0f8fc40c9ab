use Rattle.bd_step.proofs.PendingAll.{AreRaisedTo}
use Rattle.bd_step.proofs.filling.raise_each.Given as goal

abbrev pub invariant-loop-at : goal.invariant-loop-at
invariant-loop-at l = AreRaisedTo l.place l.message l.edges l.fn.sizes.items l.sizes.items l.at
