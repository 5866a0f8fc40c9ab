use Rattle.bd_leaf.proofs.Merges.{before_at, on_part, low_more, at_more, underway_more}
use Rattle.bd_leaf.proofs.merging.merged.Goals as goal

pub merge_at-requires-clause-before : goal.merge_at-requires-clause-before
merge_at-requires-clause-before c = before_at c.loop-at.new.items c.args.points.now c.loop-at.at c.index-points-at.result c.key-key.result.now c.loop-at.invariant.underway.before c.loop-at-test.true c.index-points-at.is c.key-key.ensures

pub merge_at-requires-clause-own : goal.merge_at-requires-clause-own
merge_at-requires-clause-own c = on_part c.args.points.now c.loop-at.at c.count_on.result c.key-key.result.now c.loop-at.invariant.underway.each c.count_on.ensures

pub loop-at-preserved : goal.loop-at-preserved
loop-at-preserved c = record {
  within = low_more c.args.entries.now c.loop-at.new.items c.merge_at.new.new.items c.loop-at.low c.in_ok-low.field-0 c.key-key.result.now _ c.loop-at.invariant.within c.in_ok-low.ensures;
  short = at_more c.args.points.now c.loop-at.at c.count_on.result c.key-key.result.now c.loop-at.invariant.short c.count_on.ensures;
  underway = underway_more c.args.entries.now c.loop-at.new.items c.merge_at.new.new.items c.args.points.now c.loop-at.low c.in_ok-low.field-0 c.loop-at.at c.count_on.result c.key-key.result.now c.loop-at.invariant.underway c.count_on.ensures c.in_ok-low.ensures;
}
