use Rattle.std.proofs.Common.{take}
use Rattle.bd_pager.specs.Places.{spots_in}
use Rattle.bd_pager.proofs.StepLoops.{AreDropped}
use Rattle.bd_pager.proofs.stepping.drop_all.Given as goal

-- the nodes of the ids so far are gone
abbrev pub invariant-loop-id : goal.invariant-loop-id
invariant-loop-id l = AreDropped (take l.id-index l.gone) l.gone (spots_in l.fn.spots) l.fn.usage (spots_in l.spots) l.usage
