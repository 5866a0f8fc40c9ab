use Rattle.bd_node.proofs.Parts.{edge_here}
use Rattle.bd_flush.proofs.Batches.{seen_small, same_fits, on_parted}
use Rattle.bd_flush.proofs.pushing.leaf_parted.Goals as goal

pub seen_by-requires : goal.seen_by-requires
seen_by-requires c =
    seen_small c.args.node.now c.args.place c.index-edges-place.result c.edges.result.now c.args.count c.requires.shape c.edges.ensures c.requires.within c.index-edges-place.is c.requires.there

pub over_halves-requires-clause-fits : goal.over_halves-requires-clause-fits
over_halves-requires-clause-fits c =
    same_fits c.args.node.now c.args.place c.index-edges-place.result c.in_ok-edge.edge c.args.count c.requires.shape
    (edge_here c.edges.result.now c.args.node.now c.args.place c.index-edges-place.result c.edges.ensures c.requires.within c.index-edges-place.is) c.requires.there c.in_ok-edge.ensures

pub returns : goal.returns
returns c =
    on_parted c.args.node.now c.args.place c.args.count c.args.next c.index-edges-place.result c.in_ok-edge.edge c.args.new c.in_ok-halves.halves c.over_halves.result
    (edge_here c.edges.result.now c.args.node.now c.args.place c.index-edges-place.result c.edges.ensures c.requires.within c.index-edges-place.is) c.in_ok-edge.ensures c.in_ok-halves.ensures c.over_halves.ensures
