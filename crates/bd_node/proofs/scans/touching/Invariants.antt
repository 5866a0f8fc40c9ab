use Rattle.std.proofs.Common.{take}
use Rattle.std.specs.Option.{option_copied}
use Rattle.bd_node.specs.Spans.{AreTouching}
use Rattle.bd_node.proofs.scans.touching.Given as goal

abbrev pub invariant-loop-message : goal.invariant-loop-message
invariant-loop-message l = AreTouching l.mask.items (take l.message-index l.items) l.lo (option_copied l.fn.hi)
