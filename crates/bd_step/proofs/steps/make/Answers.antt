use Rattle.std.proofs.Common.{OnOk, sym, subst}
use Rattle.bd_step.specs.Steps.{IsFlushMade}
use Rattle.bd_step.specs.declared.ways.FlushStep.{FlushStep}
use Rattle.bd_step.specs.Ways.{IsDue, IsStanding, IsWayThere}
use Rattle.bd_step.proofs.Making.{root_found}
use Rattle.bd_step.proofs.steps.make.Goals as goal

pub split_root-requires-clause-there : goal.split_root-requires-clause-there
split_root-requires-clause-there g c = λ known sound.
    root_found (g.S.NodeStore.nodes c.args.store.now) (g.S.NodeStore.table c.args.store.now) c.in-SplitRoot.root c.deref.result.now c.deref.ensures
    (subst (λ (s : FlushStep). IsDue (g.S.NodeStore.table c.args.store.now) s) c.in-SplitRoot.is c.requires.due)
    (subst (λ (s : FlushStep). IsStanding (g.S.NodeStore.nodes c.args.store.now) (g.S.NodeStore.table c.args.store.now) s) c.in-SplitRoot.is (c.requires.here known sound))

pub work_at-requires-clause-way_here : goal.work_at-requires-clause-way_here
work_at-requires-clause-way_here g c = λ known sound.
    subst (λ (s : FlushStep). IsWayThere (g.S.NodeStore.nodes c.args.store.now) (g.S.NodeStore.table c.args.store.now) s) c.in-At.is (c.requires.way_here known sound)

pub returns-in-At-clause-made : goal.returns-in-At-clause-made
returns-in-At-clause-made g c = λ known sound.
    subst (λ (s : FlushStep). OnOk c.work_at.result (IsFlushMade (g.S.NodeStore.nodes c.args.store.now) (g.S.NodeStore.table c.args.store.now) s (g.S.NodeStore.nodes c.work_at.new.store) (g.S.NodeStore.table c.work_at.new.store))) (sym c.in-At.is) (c.work_at.ensures.made known sound)
