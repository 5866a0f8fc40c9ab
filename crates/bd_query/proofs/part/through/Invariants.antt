use Rattle.std.proofs.Common.{◌-◌, length}
use Rattle.bd_query.proofs.Parts.{IsThrough}
use Rattle.bd_query.proofs.part.through.Given as goal

abbrev pub invariant-loop-next : goal.invariant-loop-next
invariant-loop-next l = IsThrough l.buffer l.key l.fn.seen l.place l.fn.first l.part

abbrev pub decreases-loop-next : goal.decreases-loop-next
decreases-loop-next l = length l.buffer - l.place
