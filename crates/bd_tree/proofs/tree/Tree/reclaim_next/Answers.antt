use Rattle.bd_tree.proofs.tree.Tree.reclaim_next.Goals as goal

pub returns-clause-due : goal.returns-clause-due
returns-clause-due g c = rw (← c.self.view_is) c.reclaim_next.ensures.due
