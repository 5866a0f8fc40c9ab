use Rattle.std.proofs.Common.{refl, subst, sym, reverse}
use Rattle.bd_node.specs.declared.node.Node.{Node}
use Rattle.bd_flush.specs.Pushing.{IsPushedOver, AreLongParts}
use Rattle.bd_flush.specs.declared.children.Halving.{Halving}
use Rattle.bd_flush.proofs.Batches.{long_fits, long_shape}
use Rattle.bd_flush.proofs.PushPlans.{long_plan}
use Rattle.bd_flush.proofs.pushing.push_plan.Goals as goal

pub with_edge-requires-clause-fits : goal.with_edge-requires-clause-fits
with_edge-requires-clause-fits c =
    long_fits c.args.parent.now.node.value c.deref-node.result.now c.args.place c.args.child.now.node.value c.in-Long.edge c.in-Long.halves c.deref-node.ensures c.requires.shape
    (subst (λ (n : Node). AreLongParts n c.args.place c.args.child.now.node.value c.in-Long.edge c.in-Long.halves) (sym c.deref-node.ensures)
    (subst (λ (h : Halving). IsPushedOver c.args.parent.now.node.value c.args.place c.args.child.now.node.value c.args.next h) c.in-Long.is c.requires.halving))

pub plan_over-requires-clause-shape : goal.plan_over-requires-clause-shape
plan_over-requires-clause-shape c =
    long_shape c.args.parent.now.node.value c.deref-node.result.now c.args.place c.args.child.now.node.value c.in-Long.edge c.in-Long.halves c.in_ok-node-in-Long.node c.deref-node.ensures c.requires.shape
    (subst (λ (n : Node). AreLongParts n c.args.place c.args.child.now.node.value c.in-Long.edge c.in-Long.halves) (sym c.deref-node.ensures)
    (subst (λ (h : Halving). IsPushedOver c.args.parent.now.node.value c.args.place c.args.child.now.node.value c.args.next h) c.in-Long.is c.requires.halving))
    c.in_ok-node-in-Long.ensures

pub returns-in_ok-node-in-Long : goal.returns-in_ok-node-in-Long
returns-in_ok-node-in-Long c =
    long_plan c.args.root c.args.next (reverse c.args.above.now) c.args.parent.now c.args.place c.args.child.now c.in-Long.edge c.in-Long.halves c.in_ok-node-in-Long.node c.deref-node.result.now c.args.child.now.node.value c.plan_over.result c.deref-node.ensures refl
    (subst (λ (n : Node). AreLongParts n c.args.place c.args.child.now.node.value c.in-Long.edge c.in-Long.halves) (sym c.deref-node.ensures)
    (subst (λ (h : Halving). IsPushedOver c.args.parent.now.node.value c.args.place c.args.child.now.node.value c.args.next h) c.in-Long.is c.requires.halving))
    c.in_ok-node-in-Long.ensures c.plan_over.ensures
