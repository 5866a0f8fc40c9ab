use Rattle.std.proofs.Common.{length}
use Rattle.bd_format.proofs.Fitting.{buffer_few, edges_fit}
use Rattle.bd_format.proofs.write.put_inner.Goals as goal

pub put_head-requires-clause-messages : goal.put_head-requires-clause-messages
put_head-requires-clause-messages c = buffer_few c.args.level c.args.edges.now c.args.buffer.now c.requires.shape

pub put_edges-requires-clause-fits : goal.put_edges-requires-clause-fits
put_edges-requires-clause-fits c =
    edges_fit (length c.args.buffer.now) c.args.edges.now (buffer_few c.args.level c.args.edges.now c.args.buffer.now c.requires.shape) c.requires.shape.each
