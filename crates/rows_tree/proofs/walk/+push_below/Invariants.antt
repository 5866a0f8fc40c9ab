use Rattle.std.proofs.Common.{◌≡◌}
use Rattle.rows_tree.proofs.walk.+push_below.Given as goal

abbrev pub decreases-push_below : goal.decreases-push_below
decreases-push_below g l = (g.S.NodeStore.table l.store.now).level l.id

-- no read changes the table
abbrev pub invariant-loop-name : goal.invariant-loop-name
invariant-loop-name g l = g.S.NodeStore.table l.store ≡ g.S.NodeStore.table l.fn.store
