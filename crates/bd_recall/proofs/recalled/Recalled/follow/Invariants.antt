use Rattle.std.proofs.Common.{drop}
use Rattle.bd_recall.specs.Kept.{findings}
use Rattle.bd_recall.proofs.Keeping.{Follows}
use Rattle.bd_recall.proofs.recalled.Recalled.follow.Given as goal

abbrev pub invariant-loop-message : goal.invariant-loop-message
invariant-loop-message l = Follows (findings l.fn.self) l.list (drop l.message-index l.list) (findings l.self)
