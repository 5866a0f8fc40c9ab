use Rattle.std.proofs.Common.{◌≡◌, ◌+◌, drop}
use Rattle.std.specs.List.{AllByRecursion, sum_by}
use Rattle.bd_message.specs.Messages.{IsMessage, size}
use Rattle.bd_node.proofs.messages.Messages.size.Given as goal

-- the size so far, and that of the messages to come
abbrev pub invariant-loop-message : goal.invariant-loop-message
invariant-loop-message l = record {
  each : AllByRecursion IsMessage (drop l.message-index l.message-items);
  sum : l.total + sum_by size (drop l.message-index l.message-items) ≡ sum_by size l.message-items;
}
