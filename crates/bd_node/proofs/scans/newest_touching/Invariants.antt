use Rattle.std.proofs.Common.{◌≡◌, ℕ, ◌<◌, ◌≤◌, length, false}
use Rattle.bd_node.specs.Index.{touches_at}
use Rattle.bd_node.proofs.scans.newest_touching.Given as goal

abbrev pub invariant-loop-place : goal.invariant-loop-place
invariant-loop-place l = record {
  within : l.place ≤ length l.items;
  none : (i : ℕ) → l.place ≤ i → i < length l.items → touches_at l.items i l.key ≡ false;
}

abbrev pub decreases-loop-place : goal.decreases-loop-place
decreases-loop-place l = l.place
