use Rattle.std.proofs.Common.{ℕ, ◌≤◌, ◌<◌, ◌-◌, ◌*◌, take, drop}
use Rattle.bd_wire.specs.Text.{AreZeros}
use Rattle.bd_tails.proofs.tails.used_blocks.Given as goal

abbrev pub invariant-loop-zeros : goal.invariant-loop-zeros
invariant-loop-zeros l = (j : ℕ) → 16 - l.zeros ≤ j → j < 16 → AreZeros (take 4096 (drop (j * 4096) l.bytes))
