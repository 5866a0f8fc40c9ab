use Rattle.std.proofs.Common.{◌≡◌, ℕ, ◌<◌, ◌≤◌, false}
use Rattle.bd_node.specs.Index.{is_range_at}
use Rattle.bd_node.proofs.scans.next_range.Given as goal

abbrev pub invariant-loop-place : goal.invariant-loop-place
invariant-loop-place l = (i : ℕ) → l.fn.from ≤ i → i < l.place → is_range_at l.items i ≡ false
