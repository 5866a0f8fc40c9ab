use Rattle.std.proofs.Common.{◌≡◌, map}
use Rattle.bd_memnodes.proofs.plan.shared.Given as goal

abbrev pub invariant-loop-node : goal.invariant-loop-node
invariant-loop-node l = map (λ node. node.value) l.list.items ≡ l.yielded
