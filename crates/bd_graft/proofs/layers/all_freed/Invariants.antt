use Rattle.std.proofs.Common.{◌≡◌, ◌++◌, drop}
use Rattle.bd_graft.specs.Layers.{all_freed}
use Rattle.bd_graft.proofs.layers.all_freed.Given as goal

abbrev pub invariant-loop-message : goal.invariant-loop-message
invariant-loop-message l = l.made.items ++ all_freed l.prefix (drop l.message-index l.list) ≡ all_freed l.prefix l.list
