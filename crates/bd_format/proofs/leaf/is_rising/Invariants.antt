use Rattle.std.proofs.Common.{drop}
use Rattle.bd_node.specs.Shape.{IsRising}
use Rattle.bd_format.proofs.Rising.{IsChain}
use Rattle.bd_format.proofs.leaf.is_rising.Given as goal

-- all rise exactly where the last key is below those that are left, one after the other
abbrev pub invariant-loop-entry : goal.invariant-loop-entry
invariant-loop-entry l = (IsChain l.last (drop l.entry-index l.rest) → IsRising l.fn.entries) × (IsRising l.fn.entries → IsChain l.last (drop l.entry-index l.rest))
