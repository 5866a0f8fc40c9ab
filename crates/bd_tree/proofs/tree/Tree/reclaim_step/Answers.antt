use Rattle.bd_tree.proofs.Reclaiming.{same_after}
use Rattle.bd_tree.proofs.tree.Tree.reclaim_step.Goals as goal

pub returns-clause-same : goal.returns-clause-same
returns-clause-same g c =
    rw (← c.self.view_is) (λ known sound.
    same_after g.S.NodeStore c.self.inside.store c.reclaim_step.new.store c.reclaim_step.result known
    (c.reclaim_step.ensures.reclaimed known sound) c.reclaim_step.ensures.err)

pub returns-clause-cause : goal.returns-clause-cause
returns-clause-cause g c = rw (← c.self.view_is) c.reclaim_step.ensures.cause

pub returns-clause-falls : goal.returns-clause-falls
returns-clause-falls g c = rw (← c.self.view_is) c.reclaim_step.ensures.falls
