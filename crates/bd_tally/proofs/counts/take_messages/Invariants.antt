use Rattle.std.proofs.Common.{◌≡◌, take, flat_map}
use Rattle.bd_node.specs.Nodes.{message_names}
use Rattle.bd_tally.specs.Counts.{counts_after}
use Rattle.bd_tally.proofs.counts.take_messages.Given as goal

-- the counts after the names in the messages so far
abbrev pub invariant-loop-message : goal.invariant-loop-message
invariant-loop-message l = l.counts ≡ counts_after (flat_map message_names (take l.message-index l.messages)) l.fn.counts
