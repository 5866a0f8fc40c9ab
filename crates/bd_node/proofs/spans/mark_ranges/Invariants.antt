use Rattle.std.specs.Option.{option_copied}
use Rattle.bd_node.proofs.Marking.{AreBothMarked}
use Rattle.bd_node.proofs.spans.mark_ranges.Given as goal

abbrev pub invariant-loop-at : goal.invariant-loop-at
invariant-loop-at l = AreBothMarked l.mask.items l.items l.lo (option_copied l.fn.hi) l.index.points.items l.ranges l.at
