use Rattle.std.proofs.Common.{◌≡◌, take}
use Rattle.bd_node.specs.Keeping.{moved}
use Rattle.bd_node.proofs.staying.moved.Given as goal

abbrev pub invariant-loop-place : goal.invariant-loop-place
invariant-loop-place l = l.list.items ≡ moved l.mask (take l.place-index l.places)
