use Rattle.bd_leaf.proofs.Covers.{start_ok, start_err}
use Rattle.bd_leaf.proofs.receiving.start_of.Goals as goal

pub returns-in-Ok : goal.returns-in-Ok
returns-in-Ok c = start_ok c.args.entries.now c.args.key.now c.in-Ok.place c.requires.rising c.in-Ok.ensures

pub returns-in-Ok-2 : goal.returns-in-Ok-2
returns-in-Ok-2 c = start_err c.args.entries.now c.args.key.now c.in-Ok.place c.in-Ok.ensures
