use Rattle.bd_tree.proofs.Flushing.{same_tree}
use Rattle.bd_tree.proofs.tree.Tree.flush_step.Goals as goal

pub returns-clause-same : goal.returns-clause-same
returns-clause-same g c =
    rw (← c.self.view_is) (λ known sound.
    same_tree (g.S.NodeStore.nodes c.self.inside.store) (g.S.NodeStore.table c.self.inside.store) (g.S.NodeStore.nodes c.flush_step.new.store) (g.S.NodeStore.table c.flush_step.new.store) c.flush_step.result
    (record { step = λ done. (c.flush_step.ensures.step known sound done).flushed; table = λ not. (c.flush_step.ensures.rest not).table; same = λ not. (c.flush_step.ensures.rest not).kept known }))

pub returns-clause-cause : goal.returns-clause-cause
returns-clause-cause g c = rw (← c.self.view_is) c.flush_step.ensures.cause
