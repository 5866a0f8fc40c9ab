use Rattle.std.proofs.Common.{take}
use Rattle.bd_leaf.specs.Points.{IsResolved, messages_of}
use Rattle.bd_leaf.proofs.points.points_of.Given as goal

-- the points of the messages so far
abbrev pub invariant-loop-message : goal.invariant-loop-message
invariant-loop-message l = IsResolved l.entries (take l.message-index l.list) (messages_of l.points.items)
