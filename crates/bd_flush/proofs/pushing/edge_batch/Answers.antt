use Rattle.bd_inner.proofs.Fitting.{edge_lifted}
use Rattle.bd_node.proofs.Parts.{edge_here}
use Rattle.bd_flush.proofs.Batches.{on_batch}
use Rattle.bd_flush.proofs.pushing.edge_batch.Goals as goal

pub batch_for-requires-clause-lifted : goal.batch_for-requires-clause-lifted
batch_for-requires-clause-lifted c =
    edge_lifted c.args.node.now c.args.place c.index-edges-place.result c.requires.shape
    (edge_here c.edges.result.now c.args.node.now c.args.place c.index-edges-place.result c.edges.ensures c.requires.within c.index-edges-place.is)

pub batch_for-requires-clause-waiting : goal.batch_for-requires-clause-waiting
batch_for-requires-clause-waiting c =
    c.requires.waiting c.index-edges-place.result
    (edge_here c.edges.result.now c.args.node.now c.args.place c.index-edges-place.result c.edges.ensures c.requires.within c.index-edges-place.is)

pub returns : goal.returns
returns c =
    on_batch c.args.node.now c.args.place c.index-edges-place.result c.batch_for.result
    (edge_here c.edges.result.now c.args.node.now c.args.place c.index-edges-place.result c.edges.ensures c.requires.within c.index-edges-place.is) c.batch_for.ensures
