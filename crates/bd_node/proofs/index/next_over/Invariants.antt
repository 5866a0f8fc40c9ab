use Rattle.std.proofs.Common.{◌≡◌, ℕ, ◌<◌, ◌≤◌, get_or, false}
use Rattle.bd_node.specs.Index.{touches_at}
use Rattle.bd_node.proofs.index.next_over.Given as goal

abbrev pub invariant-loop-at : goal.invariant-loop-at
invariant-loop-at l = (q : ℕ) → q < l.at → l.fn.from ≤ get_or l.ranges q 0 → touches_at l.items (get_or l.ranges q 0) l.key ≡ false
