use Rattle.std.proofs.Common.{◌≡◌, ◌*◌, ◌≤◌, length}
use Rattle.bd_cover.proofs.Trimmed.{left_before}
use Rattle.bd_cover.proofs.trimming.left_at.Given as goal

abbrev pub invariant-loop-edge : goal.invariant-loop-edge
invariant-loop-edge l = record {
  low : l.edge-index ≤ length l.edge-items;
  few : l.left ≤ l.edge-index * 4097;
  sum : l.left ≡ left_before l.node l.edge-items l.edge-index;
}
