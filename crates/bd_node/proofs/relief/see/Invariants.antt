use Rattle.std.proofs.Common.{◌≡◌, take}
use Rattle.bd_node.specs.Pushes.{with_seen}
use Rattle.bd_node.proofs.relief.see.Given as goal

abbrev pub invariant-loop-place : goal.invariant-loop-place
invariant-loop-place l = l.list.items ≡ with_seen (take l.place l.seens) l.fn.edges
