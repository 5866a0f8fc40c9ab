use Rattle.std.proofs.Common.{◌≡◌, ℕ, ◌<◌, ◌≤◌, length, get_or, false}
use Rattle.bd_node.specs.Index.{touches_at}
use Rattle.bd_node.proofs.index.newest_over.Given as goal

abbrev pub invariant-loop-at : goal.invariant-loop-at
invariant-loop-at l = record {
  within : l.at ≤ length l.ranges;
  none : (q : ℕ) → l.at ≤ q → q < length l.ranges → touches_at l.items (get_or l.ranges q 0) l.key ≡ false;
}

abbrev pub decreases-loop-at : goal.decreases-loop-at
decreases-loop-at l = l.at
