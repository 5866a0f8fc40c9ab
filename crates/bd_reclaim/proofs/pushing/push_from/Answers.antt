use Rattle.std.proofs.Common.{reverse, arith}
use Rattle.bd_step.proofs.Begins.{way_under}
use Rattle.bd_reclaim.proofs.Pushes.{cut_pending, on_flushed}
use Rattle.bd_reclaim.proofs.pushing.push_from.Goals as goal

pub make_from-requires-clause-pending : goal.make_from-requires-clause-pending
make_from-requires-clause-pending g c = cut_pending c.args.node.node.value c.args.place c.requires.cut

pub returns-clause-reclaimed : goal.returns-clause-reclaimed
returns-clause-reclaimed g c = λ known sound.
    on_flushed (g.S.NodeStore.nodes c.args.store.now) (g.S.NodeStore.table c.args.store.now) (g.S.NodeStore.nodes c.make_from.new.store) (g.S.NodeStore.table c.make_from.new.store) c.make_from.result (c.make_from.ensures.flushed known sound)

pub returns-clause-few_visits : goal.returns-clause-few_visits
returns-clause-few_visits g c =
    omega (arith, c.make_from.ensures.few_visits, way_under (g.S.NodeStore.table c.args.store.now) c.args.node.id (reverse c.args.above) c.requires.way)
