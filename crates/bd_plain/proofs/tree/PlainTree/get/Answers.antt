use Rattle.bd_plain.proofs.TreeViews.{get_seen}
use Rattle.bd_plain.proofs.tree.PlainTree.get.Goals as goal

pub returns : goal.returns
returns c = rw (← c.self.view_is, get_seen c.self.inside.entries.items c.args.path.now c.self.invariant, ← c.deref.ensures.value) c.find.ensures
