use Rattle.std.proofs.Common.{length}
use Rattle.bd_recall.specs.Kept.{findings, KeepsFewer}
use Rattle.bd_recall.proofs.recalled.Recalled.forget_each.Given as goal

abbrev pub invariant-loop-prefix : goal.invariant-loop-prefix
invariant-loop-prefix l = KeepsFewer (findings l.fn.self) (findings l.self)

abbrev pub decreases-loop-prefix : goal.decreases-loop-prefix
decreases-loop-prefix l = length (findings l.self)
