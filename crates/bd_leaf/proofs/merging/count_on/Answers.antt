use Rattle.std.proofs.Common.{arith}
use Rattle.bd_leaf.proofs.Merges.{own_more, own_ended, own_all, not_is_true, not_is_false}
use Rattle.bd_leaf.proofs.merging.count_on.Goals as goal

pub returns-then-ne : goal.returns-then-ne
returns-then-ne c =
    own_ended c.args.points.now c.args.key.now c.key.result.now c.loop-place.place c.index-points-place.result c.loop-place.invariant.some c.loop-place.invariant.own c.loop-place-test.true c.index-points-place.is c.key.ensures (not_is_true _ _ c.ne.ensures c.if-ne.true)

pub loop-place-preserved : goal.loop-place-preserved
loop-place-preserved c = record {
  some = omega arith;
  own = own_more c.args.points.now c.args.key.now c.key.result.now c.loop-place.place c.index-points-place.result c.loop-place.invariant.own c.loop-place-test.true c.index-points-place.is c.key.ensures (not_is_false _ _ c.ne.ensures c.if-ne.false);
}

pub returns : goal.returns
returns c = own_all c.args.points.now c.args.key.now c.loop-place.place c.requires.some c.loop-place-test.false c.loop-place.invariant.own
