use Rattle.bd_copy.proofs.Copied.{can_shorten, few_long, visits_few, freed_lower, freed_has}
use Rattle.bd_copy.proofs.privatising.freed.Goals as goal

pub shorten-requires : goal.shorten-requires
shorten-requires g c = can_shorten (g.S.NodeStore.table c.args.store.now) c.args.node.now c.in_ok-clipped-in-Inner.clipped c.args.s.now c.requires.own c.in_ok-clipped-in-Inner.ensures

pub returns-in_err-shorten-in-Inner-clause-few_visits :
    goal.returns-in_err-shorten-in-Inner-clause-few_visits
returns-in_err-shorten-in-Inner-clause-few_visits g c =
    visits_few (g.S.NodeStore.visit_count c.args.store.now) (g.S.NodeStore.visit_count c.shorten.new.store) _ _ c.shorten.ensures.few_visits
    (few_long (g.S.NodeStore.table c.args.store.now) c.args.node.now c.in_ok-clipped-in-Inner.clipped c.args.s.now c.requires.own c.in_ok-clipped-in-Inner.ensures)

pub returns-in_ok-shorten-in-Inner-clause-lower : goal.returns-in_ok-shorten-in-Inner-clause-lower
returns-in_ok-shorten-in-Inner-clause-lower g c =
    freed_lower (g.S.NodeStore.table c.args.store.now) c.args.node.now c.in_ok-clipped-in-Inner.clipped c.in_ok-shorten-in-Inner.field-0 c.args.s.now c.in_ok-clipped-in-Inner.ensures c.in_ok-shorten-in-Inner.ensures.shortened

pub returns-in_ok-shorten-in-Inner-clause-has : goal.returns-in_ok-shorten-in-Inner-clause-has
returns-in_ok-shorten-in-Inner-clause-has g c = λ known sound.
    freed_has (g.S.NodeStore.nodes c.args.store.now) c.args.node.now c.in_ok-clipped-in-Inner.clipped c.in_ok-shorten-in-Inner.field-0 c.args.s.now c.in_ok-clipped-in-Inner.ensures
    (c.in_ok-shorten-in-Inner.ensures.same known sound)

pub returns-in_ok-shorten-in-Inner-clause-few_visits :
    goal.returns-in_ok-shorten-in-Inner-clause-few_visits
returns-in_ok-shorten-in-Inner-clause-few_visits g c =
    visits_few (g.S.NodeStore.visit_count c.args.store.now) (g.S.NodeStore.visit_count c.shorten.new.store) _ _ c.shorten.ensures.few_visits
    (few_long (g.S.NodeStore.table c.args.store.now) c.args.node.now c.in_ok-clipped-in-Inner.clipped c.args.s.now c.requires.own c.in_ok-clipped-in-Inner.ensures)
