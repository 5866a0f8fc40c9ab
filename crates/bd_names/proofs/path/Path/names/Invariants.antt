use Rattle.std.proofs.Common.{◌≡◌, take}
use Rattle.bd_names.proofs.path.Path.names.Given as goal

abbrev pub invariant-loop-i : goal.invariant-loop-i
invariant-loop-i l = l.names.items ≡ take l.i l.self
