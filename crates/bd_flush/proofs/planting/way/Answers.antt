use Rattle.std.specs.Option.{option_copied}
use Rattle.bd_inner.proofs.Fitting.{own_shape}
use Rattle.bd_node.proofs.Parts.{edge_here}
use Rattle.bd_flush.proofs.Batches.{end_is}
use Rattle.bd_flush.proofs.NewWays.{way_rising, on_way}
use Rattle.bd_flush.proofs.planting.way.Goals as goal

pub edge_to-requires-clause-rising : goal.edge_to-requires-clause-rising
edge_to-requires-clause-rising c =
    way_rising c.args.node.now c.args.place c.index-edges-place.result (option_copied c.end_of.result) c.requires.shape
    (edge_here c.edges-edges.result.now c.args.node.now c.args.place c.index-edges-place.result c.edges-edges.ensures c.requires.within c.index-edges-place.is)
    (end_is c.args.node.now c.args.place c.edges-edges.result.now (option_copied c.end_of.result) c.edges-edges.ensures c.end_of.ensures)

pub edge_to-requires-clause-short : goal.edge_to-requires-clause-short
edge_to-requires-clause-short c =
    (own_shape c.args.node.now c.args.place c.index-edges-place.result c.requires.shape
    (edge_here c.edges-edges.result.now c.args.node.now c.args.place c.index-edges-place.result c.edges-edges.ensures c.requires.within c.index-edges-place.is)).pivot

pub returns : goal.returns
returns c =
    on_way c.args.node.now c.args.place c.args.child c.index-edges-place.result (option_copied c.end_of.result) c.edge_to.result
    (edge_here c.edges-edges.result.now c.args.node.now c.args.place c.index-edges-place.result c.edges-edges.ensures c.requires.within c.index-edges-place.is)
    (end_is c.args.node.now c.args.place c.edges-edges.result.now (option_copied c.end_of.result) c.edges-edges.ensures c.end_of.ensures) c.edge_to.ensures.edge c.edge_to.ensures.lift
