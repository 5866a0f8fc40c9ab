use Rattle.std.proofs.Common.{drop}
use Rattle.std.specs.List.{AllByRecursion}
use Rattle.bd_message.specs.Messages.{IsMessage}
use Rattle.bd_format.proofs.inner.are_messages.Given as goal

-- it holds of all if it holds of those that are left
abbrev pub invariant-loop-message : goal.invariant-loop-message
invariant-loop-message l = AllByRecursion IsMessage (drop l.message-index l.buffer) → AllByRecursion IsMessage l.buffer
