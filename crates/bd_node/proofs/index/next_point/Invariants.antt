use Rattle.std.proofs.Common.{◌≡◌, ℕ, ◌<◌, ◌≤◌, length, get_or, true}
use Rattle.bd_node.specs.Index.{is_before}
use Rattle.bd_node.proofs.index.next_point.Given as goal

abbrev pub invariant-loop-at : goal.invariant-loop-at
invariant-loop-at l = (q : ℕ) → q < l.at → l.from ≤ get_or l.points q 0 → is_before l.items (get_or l.points q 0) (l.key, length l.items) ≡ true
