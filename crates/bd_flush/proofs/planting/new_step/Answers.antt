use Rattle.std.proofs.Common.{subst, sym}
use Rattle.bd_node.specs.declared.node.Edge.{Edge}
use Rattle.bd_node.specs.declared.node.Node.{Node}
use Rattle.bd_node.specs.Parts.{IsEdgeAt}
use Rattle.bd_flush.specs.Pushing.{IsWaitedFor}
use Rattle.bd_flush.proofs.NewWays.{on_new_step}
use Rattle.bd_flush.proofs.planting.new_step.Goals as goal

pub new_leaf-requires-clause-waiting : goal.new_leaf-requires-clause-waiting
new_leaf-requires-clause-waiting c =
    subst (λ (n : Node). (e : Edge) → IsEdgeAt n c.args.place e → IsWaitedFor n c.args.place e) (sym c.deref-node.ensures) c.requires.waiting

pub returns : goal.returns
returns c =
    on_new_step c.args.root c.args.next c.args.parent.now c.args.place c.deref-node.result.now c.in_ok-above.above c.in_ok-above.entries c.leaf_step.result c.deref-node.ensures c.requires.within c.in_ok-above.ensures c.leaf_step.ensures
