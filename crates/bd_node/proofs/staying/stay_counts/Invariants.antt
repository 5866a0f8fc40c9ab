use Rattle.std.proofs.Common.{◌≡◌, ℕ, ◌<◌, length, get_or}
use Rattle.bd_node.specs.Keeping.{stay_count}
use Rattle.bd_node.proofs.staying.stay_counts.Given as goal

abbrev pub invariant-loop-stays : goal.invariant-loop-stays
invariant-loop-stays l = record {
  long : length l.counts.items ≡ l.stays-index;
  now : l.count ≡ stay_count l.mask l.stays-index;
  each : (i : ℕ) → i < l.stays-index → get_or l.counts.items i 0 ≡ stay_count l.mask i;
}
