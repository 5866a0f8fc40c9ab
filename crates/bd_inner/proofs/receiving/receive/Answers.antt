use Rattle.std.proofs.Common.{subst, ap, ◌∙◌, sym}
use Rattle.std.proofs.lemmas.Result.{IfOk-weaker}
use Rattle.bd_node.specs.declared.node.Node.{Node}
use Rattle.bd_node.specs.Nodes.{node_at}
use Rattle.bd_node.specs.Shape.{IsShape}
use Rattle.bd_node.proofs.Appending.{shape_appended, node_at-appended}
use Rattle.bd_inner.proofs.receiving.receive.Goals as goal

pub returns-clause-shape : goal.returns-clause-shape
returns-clause-shape c = IfOk-weaker c.followed_by.result _ _
    (λ n is. subst (λ (m : Node). IsShape m) (sym is) (shape_appended c.args.node.now c.args.list c.requires.shape c.requires.each c.requires.fits))
    c.followed_by.ensures

pub returns-clause-meaning : goal.returns-clause-meaning
returns-clause-meaning c = IfOk-weaker c.followed_by.result _ _
    (λ n is. λ below k. ap (λ (m : Node). node_at below m k) is ∙ node_at-appended below c.args.node.now c.args.list k c.requires.shape c.requires.inner)
    c.followed_by.ensures
