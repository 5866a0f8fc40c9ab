use Rattle.bd_pager.specs.Places.{spots_in}
use Rattle.bd_pager.proofs.StepLoops.{count_more}
use Rattle.bd_pager.proofs.stepping.set_counts.Goals as goal

pub loop-id-preserved : goal.loop-id-preserved
loop-id-preserved c =
    count_more c.args.counts.entries c.loop-id.id-iterator c.next.new.self (c.in-Some.id, c.in-Some.count) (spots_in c.args.spots.now) (spots_in c.loop-id.spots) (spots_in c.set_count.new.spots)
    c.in-Some.ensures.steps c.set_count.ensures c.loop-id.invariant
