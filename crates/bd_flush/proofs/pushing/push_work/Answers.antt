use Rattle.std.proofs.Common.{subst, sym, ap, ◌∙◌}
use Rattle.bd_node.specs.declared.node.Edge.{Edge}
use Rattle.bd_node.specs.declared.node.Node.{Node}
use Rattle.bd_node.specs.Nodes.{level_of}
use Rattle.bd_node.specs.Parts.{IsEdgeAt}
use Rattle.bd_flush.specs.Pushing.{CanMoveSome, IsWaitedFor}
use Rattle.bd_flush.proofs.pushing.push_work.Goals as goal

pub pushed_below-requires-clause-waiting : goal.pushed_below-requires-clause-waiting
pushed_below-requires-clause-waiting c =
    subst (λ (n : Node). (e : Edge) → IsEdgeAt n c.args.place e → CanMoveSome n c.args.place e) (sym c.deref-node.ensures) c.requires.waiting

pub pushed_below-requires-clause-plain : goal.pushed_below-requires-clause-plain
pushed_below-requires-clause-plain c = λ leaf.
    subst (λ (n : Node). (e : Edge) → IsEdgeAt n c.args.place e → IsWaitedFor n c.args.place e) (sym c.deref-node.ensures) (c.requires.plain (ap level_of (sym c.deref-below.ensures) ∙ leaf))
