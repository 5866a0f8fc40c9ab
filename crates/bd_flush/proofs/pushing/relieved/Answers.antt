use Rattle.bd_node.proofs.Parts.{edge_here}
use Rattle.bd_flush.proofs.Batches.{seen_small, same_fits, on_relieved}
use Rattle.bd_flush.proofs.pushing.relieved.Goals as goal

pub seen_by-requires : goal.seen_by-requires
seen_by-requires c =
    seen_small c.args.node.now c.args.place c.index-edges-place.result c.edges.result.now c.args.count c.requires.shape c.edges.ensures c.requires.within c.index-edges-place.is c.requires.there

pub with_edge-requires-clause-fits : goal.with_edge-requires-clause-fits
with_edge-requires-clause-fits c =
    same_fits c.args.node.now c.args.place c.index-edges-place.result c.in_ok-edge.edge c.args.count c.requires.shape
    (edge_here c.edges.result.now c.args.node.now c.args.place c.index-edges-place.result c.edges.ensures c.requires.within c.index-edges-place.is) c.requires.there c.in_ok-edge.ensures

pub returns : goal.returns
returns c =
    on_relieved c.args.node.now c.args.place c.index-edges-place.result c.in_ok-edge.edge c.args.count c.with_edge.result
    (edge_here c.edges.result.now c.args.node.now c.args.place c.index-edges-place.result c.edges.ensures c.requires.within c.index-edges-place.is) c.in_ok-edge.ensures c.with_edge.ensures
