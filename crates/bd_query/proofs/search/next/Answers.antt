use Rattle.bd_query.proofs.AskLemmas.{searched_whole, on_err}
use Rattle.bd_query.proofs.search.next.Goals as goal

pub returns-in_err-into_vec-in-Some-clause-err_ways : goal.returns-in_err-into_vec-in-Some-clause-err_ways
returns-in_err-into_vec-in-Some-clause-err_ways g c known sound =
    on_err c.from_residual-in_err-into_vec-in-Some.result (searched_whole (g.S.NodeStore.nodes c.args.store.now) c.args.root c.args.from.now (g.S.NodeStore.visit_count c.args.store.now) (g.S.NodeStore.visit_count c.scan.new.store) (c.in_ok-found.ensures.ways known sound))

pub returns-in_err-into_vec-in-Some-2-clause-err_ways : goal.returns-in_err-into_vec-in-Some-2-clause-err_ways
returns-in_err-into_vec-in-Some-2-clause-err_ways g c known sound =
    on_err c.from_residual-in_err-into_vec-in-Some-2.result (searched_whole (g.S.NodeStore.nodes c.args.store.now) c.args.root c.args.from.now (g.S.NodeStore.visit_count c.args.store.now) (g.S.NodeStore.visit_count c.scan.new.store) (c.in_ok-found.ensures.ways known sound))
