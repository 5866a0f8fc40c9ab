use Rattle.std.specs.Option.{option_copied}
use Rattle.bd_node.specs.Spans.{AreMarked}
use Rattle.bd_node.proofs.spans.mark_points.Given as goal

abbrev pub invariant-loop-at : goal.invariant-loop-at
invariant-loop-at l = AreMarked l.mask.items l.items l.lo (option_copied l.fn.hi) l.points l.at
