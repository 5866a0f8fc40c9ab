use Rattle.bd_leaf.proofs.Merges.{point_at}
use Rattle.bd_leaf.proofs.merging.value_after.Goals as goal

pub changed-requires : goal.changed-requires
changed-requires c = point_at c.args.own.now c.loop-point.point-index c.point-item.result c.requires c.loop-point-test.true c.point-item.is
