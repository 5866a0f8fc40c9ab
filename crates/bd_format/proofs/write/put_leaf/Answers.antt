use Rattle.bd_format.proofs.Fitting.{leaf_few, entries_fit}
use Rattle.bd_format.proofs.write.put_leaf.Goals as goal

pub put_head-requires-clause-items : goal.put_head-requires-clause-items
put_head-requires-clause-items c = leaf_few c.args.entries.now c.requires.shape

pub put_entries-requires-clause-fits : goal.put_entries-requires-clause-fits
put_entries-requires-clause-fits c = entries_fit c.args.entries.now c.requires.shape.each
