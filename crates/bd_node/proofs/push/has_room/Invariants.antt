use Rattle.std.proofs.Common.{◌≡◌, ◌+◌, take}
use Rattle.std.specs.List.{sum_by}
use Rattle.bd_limits.specs.Limits.{buffer_limit}
use Rattle.bd_message.specs.Messages.{size}
use Rattle.bd_node.proofs.push.has_room.Given as goal

abbrev pub invariant-loop-message : goal.invariant-loop-message
invariant-loop-message l = l.used + sum_by size (take l.message-index l.list) + l.room ≡ buffer_limit
