use Rattle.bd_query.proofs.LeafLemmas.{found_first, missing_first}
use Rattle.bd_query.proofs.stretch.first_from.Goals as goal

pub returns-in-Ok : goal.returns-in-Ok
returns-in-Ok c = found_first c.args.entries.now c.args.key.now c.in-Ok.place c.requires c.in-Ok.ensures

pub returns-in-Ok-2 : goal.returns-in-Ok-2
returns-in-Ok-2 c = missing_first c.args.entries.now c.args.key.now c.in-Ok.place c.in-Ok.ensures
