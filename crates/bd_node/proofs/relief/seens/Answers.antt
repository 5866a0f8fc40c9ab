use Rattle.std.proofs.Common.{◌≡◌, ◌≤◌, length, Some, arith}
use Rattle.std.specs.Prelude.{slice_get}
use Rattle.bd_node.specs.declared.node.Edge.{Edge}
use Rattle.bd_node.specs.Keeping.{stay_count}
use Rattle.bd_node.proofs.Going.{edge_read, count_read, seen_more, stay_count-low}
use Rattle.bd_node.proofs.relief.seens.Goals as goal

pub overflow_cast-index : goal.overflow_cast-index
overflow_cast-index c =
    let e : Edge = c.edge-item.result in
    let here : slice_get c.args.edges.now c.loop-edge.edge-index ≡ Some e = edge_read c.args.edges.now c.loop-edge.edge-index e c.loop-edge-test.true c.edge-item.is in
    let low : e.seen ≤ length c.args.mask.now = c.requires c.loop-edge.edge-index e here in
    let is : c.index.result.now ≡ stay_count c.args.mask.now e.seen = count_read c.in_ok-counts.counts.items c.args.mask.now e.seen c.index.result.now c.in_ok-counts.ensures.long low (c.in_ok-counts.ensures.each e.seen low) c.index.ensures in
    omega (arith, stay_count-low c.args.mask.now e.seen)

pub loop-edge-preserved : goal.loop-edge-preserved
loop-edge-preserved c =
    let e : Edge = c.edge-item.result in
    let here : slice_get c.args.edges.now c.loop-edge.edge-index ≡ Some e = edge_read c.args.edges.now c.loop-edge.edge-index e c.loop-edge-test.true c.edge-item.is in
    let low : e.seen ≤ length c.args.mask.now = c.requires c.loop-edge.edge-index e here in
    let is : c.index.result.now ≡ stay_count c.args.mask.now e.seen = count_read c.in_ok-counts.counts.items c.args.mask.now e.seen c.index.result.now c.in_ok-counts.ensures.long low (c.in_ok-counts.ensures.each e.seen low) c.index.ensures in
    seen_more c.args.mask.now c.args.edges.now c.loop-edge.edge-index e c.index.result.now c.loop-edge.seens.items c.push.new.self.items c.loop-edge-test.true c.edge-item.is is c.loop-edge.invariant c.in_ok-push.ensures.items
