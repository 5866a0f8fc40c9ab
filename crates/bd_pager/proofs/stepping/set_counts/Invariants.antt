use Rattle.bd_pager.specs.Places.{spots_in}
use Rattle.bd_pager.proofs.StepLoops.{IsSetting}
use Rattle.bd_pager.proofs.stepping.set_counts.Given as goal

-- the counts that are left lead to where all of them lead
abbrev pub invariant-loop-id : goal.invariant-loop-id
invariant-loop-id l = IsSetting l.fn.counts.entries l.id-iterator (spots_in l.fn.spots) (spots_in l.spots)
