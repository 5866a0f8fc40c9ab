use Rattle.std.proofs.Common.{◌≡◌, take}
use Rattle.bd_names.specs.Names.{key_of}
use Rattle.bd_names.proofs.path.Path.key.Given as goal

abbrev pub invariant-loop-i : goal.invariant-loop-i
invariant-loop-i l = l.key.items ≡ key_of (take l.i l.self)
