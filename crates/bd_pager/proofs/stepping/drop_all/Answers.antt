use Rattle.bd_pager.specs.Places.{spots_in}
use Rattle.bd_pager.proofs.StepLoops.{dropped_then}
use Rattle.bd_pager.proofs.stepping.drop_all.Goals as goal

pub loop-id-preserved : goal.loop-id-preserved
loop-id-preserved c =
    dropped_then c.args.gone.now c.loop-id.id-index (spots_in c.args.spots.now) (spots_in c.loop-id.spots) (spots_in c.drop_one.new.spots) c.args.usage.now c.loop-id.usage c.drop_one.new.usage
    c.loop-id-test.true c.drop_one.ensures.spots c.drop_one.ensures.usage c.loop-id.invariant
