use Rattle.std.proofs.Common.{length}
use Rattle.bd_pager.proofs.DraftLemmas.{ArePicked}
use Rattle.bd_pager.proofs.draft.pick_free.Given as goal

abbrev pub invariant-loop-slot : goal.invariant-loop-slot
invariant-loop-slot l = ArePicked l.free (length l.fn.at) l.slot l.picked l.at
