use Rattle.std.proofs.Common.{sym, ap, ◌∙◌, subst}
use Rattle.bd_model.specs.Step.{without}
use Rattle.bd_plain.proofs.TreeViews.{IsInOrder, seen, kept_seen, kept_in_order}
use Rattle.bd_plain.proofs.tree.PlainTree.remove_under.Goals as goal

pub invariant_of-self : goal.invariant_of-self
invariant_of-self c = subst IsInOrder (sym c.remove_under.ensures) (kept_in_order c.self.inside.entries.items c.args.path.now c.self.invariant)

pub returns : goal.returns
returns c = ap seen c.remove_under.ensures ∙ kept_seen c.self.inside.entries.items c.args.path.now c.self.invariant ∙ ap (without c.args.path.now) c.self.view_is
