use Rattle.std.proofs.Common.{◌≡◌, ◌++◌, drop}
use Rattle.std.specs.List.{flat_map}
use Rattle.bd_node.specs.Nodes.{message_names}
use Rattle.bd_counts.proofs.naming.push_messages.Given as goal

-- the names so far, and those to come
abbrev pub invariant-loop-message : goal.invariant-loop-message
invariant-loop-message l =
    l.list.items ++ flat_map message_names (drop l.message-index l.messages) ≡ l.fn.list.items ++ flat_map message_names l.messages
