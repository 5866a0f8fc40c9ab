use Rattle.std.proofs.Common.{◌≡◌, ◌+◌, ◌≤◌, drop}
use Rattle.std.specs.List.{AllByRecursion, sum_by}
use Rattle.bd_limits.specs.Limits.{buffer_limit}
use Rattle.bd_message.specs.Messages.{IsMessage, size}
use Rattle.bd_step.specs.Settling.{size_under}
use Rattle.bd_step.proofs.settling.bytes_under.Given as goal

-- what counts so far, and that of the messages to come
abbrev pub invariant-loop-message : goal.invariant-loop-message
invariant-loop-message l = record {
  each : AllByRecursion IsMessage (drop l.message-index l.list);
  room : l.total + sum_by size (drop l.message-index l.list) ≤ buffer_limit;
  sum : l.total + sum_by (size_under l.prefix) (drop l.message-index l.list) ≡ sum_by (size_under l.prefix) l.list;
}
