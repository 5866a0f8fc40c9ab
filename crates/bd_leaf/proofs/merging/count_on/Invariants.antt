use Rattle.std.proofs.Common.{◌≡◌, ◌≤◌, take}
use Rattle.std.specs.List.{AllByRecursion}
use Rattle.bd_message.specs.declared.message.Message.{Message}
use Rattle.bd_node.specs.Index.{own_key}
use Rattle.bd_leaf.specs.Points.{messages_of}
use Rattle.bd_leaf.proofs.merging.count_on.Given as goal

-- the points so far are at the key
abbrev pub invariant-loop-place : goal.invariant-loop-place
invariant-loop-place l =
    record {
      some : 1 ≤ l.place;
      own : AllByRecursion (λ (m : Message). own_key m ≡ l.key) (take l.place (messages_of l.points));
    }
