use Rattle.bd_plain.proofs.TreeViews.{children_seen}
use Rattle.bd_plain.proofs.tree.PlainTree.children.Goals as goal

pub returns : goal.returns
returns c = rw (← c.self.view_is, children_seen c.self.inside.entries.items c.args.path.now c.self.invariant, ← c.deref.ensures.value) c.children.ensures
