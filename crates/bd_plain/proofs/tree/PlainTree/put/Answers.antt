use Rattle.bd_plain.proofs.TreeViews.{put_stays, put_done}
use Rattle.bd_plain.proofs.tree.PlainTree.put.Goals as goal

pub invariant_of-self : goal.invariant_of-self
invariant_of-self c = put_stays c.put.result c.self.inside.entries.items c.put.new.entries.items c.args.placed.0 c.args.placed.1 c.put.ensures.ok c.put.ensures.err c.self.invariant

pub returns-clause-ok : goal.returns-clause-ok
returns-clause-ok c = rw (← c.self.view_is) (put_done c.put.result c.self.inside.entries.items c.put.new.entries.items c.args.placed.0 c.args.placed.1 c.put.ensures.ok c.self.invariant)
