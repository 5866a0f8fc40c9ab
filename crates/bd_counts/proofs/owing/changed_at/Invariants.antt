use Rattle.std.proofs.Common.{◌≡◌, drop}
use Rattle.bd_node.specs.Steps.{changed_at}
use Rattle.bd_counts.proofs.owing.changed_at.Given as goal

-- the changes so far are of other nodes
abbrev pub invariant-loop-change : goal.invariant-loop-change
invariant-loop-change l = changed_at (drop l.change-index l.changes) l.id ≡ changed_at l.changes l.id
