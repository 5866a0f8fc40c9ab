use Rattle.std.proofs.Common.{List, length, ◌+◌, ap, refl, arith}
use Rattle.bd_message.specs.declared.message.Message.{Message}
use Rattle.bd_cover.proofs.Falls.{one_name}
use Rattle.bd_cover.proofs.Trimmed.{few_waiting, left_more, seen_few}
use Rattle.bd_cover.proofs.trimming.left_at.Goals as goal

pub left_for-left-requires-clause-seen : goal.left_for-left-requires-clause-seen
left_for-left-requires-clause-seen c =
    omega (arith, ap (λ (l : List Message). length l) c.buffer-count.ensures, seen_few c.args.node.now c.edges-edge-items.result.now c.loop-edge.edge-index c.edge-item.result c.requires c.edges-edge-items.ensures c.loop-edge-test.true c.edge-item.is)

pub left_for-left-requires-clause-few : goal.left_for-left-requires-clause-few
left_for-left-requires-clause-few c = omega (arith, ap (λ (l : List Message). length l) c.buffer-count.ensures, few_waiting c.args.node.now c.requires)

pub loop-edge-preserved : goal.loop-edge-preserved
loop-edge-preserved c = record {
  low = omega (arith, c.loop-edge-test.true);
  few = omega (arith, c.loop-edge.invariant.few, c.left_for-left.ensures, one_name c.edge-item.result.child, ap (λ (l : List Message). length l) c.buffer-count.ensures, few_waiting c.args.node.now c.requires);
  sum = left_more c.args.node.now c.edges-edge-items.result.now c.loop-edge.edge-index c.edge-item.result (length c.buffer-count.result.now) c.left_for-left.result c.loop-edge.left (c.loop-edge.left + c.left_for-left.result) c.loop-edge-test.true c.edge-item.is (ap (λ (l : List Message). length l) c.buffer-count.ensures)
      (omega (arith, ap (λ (l : List Message). length l) c.buffer-count.ensures, seen_few c.args.node.now c.edges-edge-items.result.now c.loop-edge.edge-index c.edge-item.result c.requires c.edges-edge-items.ensures c.loop-edge-test.true c.edge-item.is))
      c.left_for-left.ensures c.loop-edge.invariant.sum refl;
}
