use Rattle.std.proofs.Common.{drop}
use Rattle.std.specs.Prelude.{flat_map}
use Rattle.bd_node.specs.Nodes.{message_names}
use Rattle.bd_memnodes.proofs.Loops.{IsTaking}
use Rattle.bd_memnodes.proofs.kept.Kept.take_back_messages.Given as goal

-- the messages so far were taken
abbrev pub invariant-loop-message : goal.invariant-loop-message
invariant-loop-message l =
    IsTaking (flat_map message_names l.messages) (flat_map message_names (drop l.message-index l.messages)) l.fn.self l.self
