use Rattle.std.proofs.Common.{◌≡◌, take}
use Rattle.bd_node.specs.Keeping.{staying}
use Rattle.bd_node.proofs.staying.staying.Given as goal

abbrev pub invariant-loop-place : goal.invariant-loop-place
invariant-loop-place l = l.list.items ≡ staying (take l.place l.mask) (take l.place l.items)
