use Rattle.bd_query.specs.Asks.{asked_of}
use Rattle.bd_query.proofs.AskLemmas.{part_of_rest, on_err}
use Rattle.bd_query.proofs.ways.value_of.Goals as goal

pub returns-in_err-value-clause-err_way : goal.returns-in_err-value-clause-err_way
returns-in_err-value-clause-err_way g c = λ known sound.
    on_err c.from_residual-in_err-value.result (part_of_rest (g.S.NodeStore.nodes c.args.store.now) (asked_of c.args.part.base) (g.S.NodeStore.visit_count c.args.store.now) (g.S.NodeStore.visit_count c.found_at.new.store) (c.in_ok-found.ensures.way known sound))
