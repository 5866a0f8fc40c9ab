use Rattle.std.proofs.Common.{ℕ, ◌≢◌, ◌<◌, get_or}
use Rattle.bd_slots.proofs.layout.are_slots.Given as goal

abbrev pub invariant-loop-index : goal.invariant-loop-index
invariant-loop-index l = record {
  below : (k : ℕ) (d : ℕ) → k < l.index → get_or l.at k d < l.slots;
  different : (i j : ℕ) (d : ℕ) → i < j → j < l.index → get_or l.at i d ≢ get_or l.at j d;
}
