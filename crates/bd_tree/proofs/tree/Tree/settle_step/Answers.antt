use Rattle.bd_tree.proofs.Flushing.{same_tree}
use Rattle.bd_tree.proofs.tree.Tree.settle_step.Goals as goal

pub returns-clause-same : goal.returns-clause-same
returns-clause-same g c =
    rw (← c.self.view_is) (λ known sound.
    same_tree (g.S.NodeStore.nodes c.self.inside.store) (g.S.NodeStore.table c.self.inside.store) (g.S.NodeStore.nodes c.settle_step.new.store) (g.S.NodeStore.table c.settle_step.new.store) c.settle_step.result
    (record { step = λ done. (c.settle_step.ensures.step known sound done).made.flushed; table = λ not. (c.settle_step.ensures.rest not).table; same = λ not. (c.settle_step.ensures.rest not).kept known }))

pub returns-clause-cause : goal.returns-clause-cause
returns-clause-cause g c = rw (← c.self.view_is) c.settle_step.ensures.cause
