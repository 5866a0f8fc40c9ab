use Rattle.std.proofs.Common.{drop}
use Rattle.std.specs.List.{AllByRecursion}
use Rattle.bd_message.specs.declared.message.Message.{Message}
use Rattle.bd_node.specs.Nodes.{message_names}
use Rattle.bd_pager.specs.Places.{spots_in, IsLowerIn}
use Rattle.bd_pager.proofs.naming.messages_name_lower.Given as goal

-- it holds of all if it holds of those that are left
abbrev pub invariant-loop-message : goal.invariant-loop-message
invariant-loop-message l =
    AllByRecursion (λ (message : Message). AllByRecursion (IsLowerIn (spots_in l.spots) l.level) (message_names message)) (drop l.message-index l.messages)
    → AllByRecursion (λ (message : Message). AllByRecursion (IsLowerIn (spots_in l.spots) l.level) (message_names message)) l.messages
