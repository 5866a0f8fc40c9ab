use Rattle.bd_query.proofs.turns.+turn_at.Given as goal

abbrev pub decreases-turn_at : goal.decreases-turn_at
decreases-turn_at g l = (g.S.NodeStore.table l.store.now).level l.id
