use Rattle.std.proofs.Common.{take, flat_map}
use Rattle.bd_node.specs.Nodes.{edge_names}
use Rattle.bd_tally.proofs.CountLemmas.{after_first, after_more, after_all, rising_now}
use Rattle.bd_tally.proofs.counts.take_edges.Goals as goal

pub loop-edge-init : goal.loop-edge-init
loop-edge-init c = after_first edge_names c.args.edges.now c.args.counts.now

pub take_some-requires : goal.take_some-requires
take_some-requires c = rising_now (flat_map edge_names (take c.loop-edge.edge-index c.args.edges.now)) c.args.counts.now c.loop-edge.counts c.requires c.loop-edge.invariant

pub loop-edge-preserved : goal.loop-edge-preserved
loop-edge-preserved c =
    after_more edge_names c.args.edges.now c.loop-edge.edge-index c.edge-item.result c.args.counts.now c.loop-edge.counts c.take_some.new.counts
    c.loop-edge-test.true c.edge-item.is c.loop-edge.invariant c.take_some.ensures

pub returns : goal.returns
returns c = after_all edge_names c.args.edges.now c.loop-edge.edge-index c.args.counts.now c.loop-edge.counts c.loop-edge-test.false c.loop-edge.invariant
