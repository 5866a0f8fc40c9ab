use Rattle.std.proofs.Common.{sym, subst}
use Rattle.bd_step.specs.declared.ways.FlushStep.{FlushStep}
use Rattle.bd_step.specs.Ways.{IsDue}
use Rattle.bd_step.proofs.Down.{to_carve, to_push}
use Rattle.bd_step.proofs.ways.push_or_carve.Goals as goal

pub returns-in-Some-clause-due : goal.returns-in-Some-clause-due
returns-in-Some-clause-due g c = λ room e target under.
    subst (λ (s : FlushStep). IsDue (g.S.NodeStore.table c.args.store.now) s) (sym c.at_edge.ensures)
    (to_carve (g.S.NodeStore.table c.args.store.now) c.args.parent c.args.place c.in-Some.index c.args.child c.in-Some.ensures.some c.requires.fetched room e target, under)

pub returns-in-None-clause-due : goal.returns-in-None-clause-due
returns-in-None-clause-due g c = λ room e target under.
    subst (λ (s : FlushStep). IsDue (g.S.NodeStore.table c.args.store.now) s) (sym c.at_edge-in-None.ensures)
    (to_push (g.S.NodeStore.table c.args.store.now) c.args.parent c.args.place c.args.child (c.held_goto.ensures.none c.in-None.is) c.requires.fetched room e target, under)
