use Rattle.bd_node.specs.Touching.{NoneTouches}
use Rattle.bd_node.proofs.scans.next_touching.Given as goal

abbrev pub invariant-loop-place : goal.invariant-loop-place
invariant-loop-place l = NoneTouches l.items l.fn.from l.place l.key
