use Rattle.std.proofs.Common.{arith}
use Rattle.bd_flush.proofs.GoingDown.{waits_move}
use Rattle.bd_flush.proofs.NewWays.{of_lifted, of_waiting, of_plain, of_small, of_fits, is_new_leaf}
use Rattle.bd_flush.proofs.planting.new_leaf.Goals as goal

pub batch_for-requires-clause-lifted : goal.batch_for-requires-clause-lifted
batch_for-requires-clause-lifted c = of_lifted c.args.node.now c.args.place c.args.next c.in_ok-edge.edge (record { shape = c.requires.shape; within = c.requires.within; waiting = c.requires.waiting; way = c.in_ok-edge.ensures })

pub batch_for-requires-clause-waiting : goal.batch_for-requires-clause-waiting
batch_for-requires-clause-waiting c =
    waits_move c.args.node.now c.args.place c.in_ok-edge.edge
    (of_waiting c.args.node.now c.args.place c.args.next c.in_ok-edge.edge (record { shape = c.requires.shape; within = c.requires.within; waiting = c.requires.waiting; way = c.in_ok-edge.ensures }))

pub receive-requires-clause-plain : goal.receive-requires-clause-plain
receive-requires-clause-plain c = of_plain c.args.node.now c.args.place c.args.next c.in_ok-edge.edge c.in_ok-batch.batch c.as_slice.result.now (record { shape = c.requires.shape; within = c.requires.within; waiting = c.requires.waiting; way = c.in_ok-edge.ensures }) c.in_ok-batch.ensures c.as_slice.ensures

pub seen_by-requires : goal.seen_by-requires
seen_by-requires c = of_small c.args.node.now c.args.place c.args.next c.in_ok-edge.edge c.in_ok-batch.batch (record { shape = c.requires.shape; within = c.requires.within; waiting = c.requires.waiting; way = c.in_ok-edge.ensures }) c.in_ok-batch.ensures

pub with_edge-requires-clause-fits : goal.with_edge-requires-clause-fits
with_edge-requires-clause-fits c = of_fits c.args.node.now c.args.place c.args.next c.in_ok-edge.edge c.in_ok-seen_by.field-0 c.in_ok-batch.batch (record { shape = c.requires.shape; within = c.requires.within; waiting = c.requires.waiting; way = c.in_ok-edge.ensures }) c.in_ok-batch.ensures c.requires.next (omega arith) c.in_ok-seen_by.ensures

pub returns : goal.returns
returns c = is_new_leaf c.args.node.now c.args.place c.args.next c.in_ok-edge.edge c.in_ok-seen_by.field-0 c.in_ok-batch.batch c.as_slice.result.now c.in_ok-entries.entries c.in_ok-above.above (record { shape = c.requires.shape; within = c.requires.within; waiting = c.requires.waiting; way = c.in_ok-edge.ensures }) c.in_ok-batch.ensures c.as_slice.ensures c.in_ok-entries.ensures c.in_ok-seen_by.ensures c.in_ok-above.ensures
