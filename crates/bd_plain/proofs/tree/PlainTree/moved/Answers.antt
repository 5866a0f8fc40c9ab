use Rattle.bd_plain.proofs.TreeViews.{moved_seen}
use Rattle.bd_plain.proofs.tree.PlainTree.moved.Goals as goal

pub returns : goal.returns
returns c = rw (← c.self.view_is, moved_seen c.self.inside.entries.items c.args.a.now c.args.b.now c.self.invariant, ← c.deref.ensures.value) c.moved.ensures
