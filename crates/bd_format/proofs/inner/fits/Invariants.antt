use Rattle.std.proofs.Common.{◌≡◌, ◌+◌, drop}
use Rattle.std.specs.List.{sum_by}
use Rattle.bd_limits.specs.Limits.{buffer_limit}
use Rattle.bd_message.specs.Messages.{size}
use Rattle.bd_format.proofs.inner.fits.Given as goal

-- what is left of the limit, and the messages that are left
abbrev pub invariant-loop-message : goal.invariant-loop-message
invariant-loop-message l = sum_by size l.buffer + l.left ≡ buffer_limit + sum_by size (drop l.message-index l.buffer)
