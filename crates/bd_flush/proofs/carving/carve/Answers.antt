use Rattle.bd_flush.specs.Carving.{IsCarveStep}
use Rattle.bd_path.proofs.Made.{on_made, worn_of}
use Rattle.bd_flush.proofs.CarveCommits.{may_carve, carve_in_place, on_carve_flushed, on_carve_table, carve_visits}
use Rattle.bd_flush.proofs.carving.carve.Goals as goal

pub commit-requires-clause-step : goal.commit-requires-clause-step
commit-requires-clause-step g c =
    may_carve (g.S.NodeStore.table c.args.store.now) c.args.parent.now c.args.place c.in_ok-step.step
    (record { table = c.root-root.ensures.table; index = c.args.index; can = c.requires.can; carve = c.in_ok-step.ensures })

pub commit-requires-clause-in_place : goal.commit-requires-clause-in_place
commit-requires-clause-in_place g c = λ known sound.
    carve_in_place (g.S.NodeStore.nodes c.args.store.now) (g.S.NodeStore.table c.args.store.now) c.args.parent.now c.args.place c.in_ok-step.step
    (record { table = c.root-root.ensures.table; index = c.args.index; can = c.requires.can; carve = c.in_ok-step.ensures }) sound (c.requires.own known sound)

pub returns-clause-flushed : goal.returns-clause-flushed
returns-clause-flushed g c = λ known sound.
    on_carve_flushed (g.S.NodeStore.nodes c.args.store.now) (g.S.NodeStore.table c.args.store.now) c.args.parent.now c.args.place c.in_ok-step.step (g.S.NodeStore.nodes c.commit.new.self) (g.S.NodeStore.table c.commit.new.self) c.commit.result
    (record { table = c.root-root.ensures.table; index = c.args.index; can = c.requires.can; carve = c.in_ok-step.ensures }) sound (c.requires.own known sound) c.commit.ensures.table (c.commit.ensures.committed known sound)

pub returns-clause-made : goal.returns-clause-made
returns-clause-made g c = λ known sound.
    on_made (IsCarveStep (g.S.NodeStore.table c.args.store.now) c.args.parent.now c.args.place) (g.S.NodeStore.nodes c.args.store.now) (g.S.NodeStore.table c.args.store.now) c.in_ok-step.step (g.S.NodeStore.nodes c.commit.new.self) (g.S.NodeStore.table c.commit.new.self) c.commit.result c.in_ok-step.ensures c.commit.ensures.table (c.commit.ensures.committed known sound)

pub returns-clause-table : goal.returns-clause-table
returns-clause-table g c =
    on_carve_table (g.S.NodeStore.table c.args.store.now) c.args.parent.now c.args.place c.in_ok-step.step (g.S.NodeStore.table c.commit.new.self) c.commit.result
    (record { table = c.root-root.ensures.table; index = c.args.index; can = c.requires.can; carve = c.in_ok-step.ensures }) c.commit.ensures.table

pub returns-clause-cause : goal.returns-clause-cause
returns-clause-cause g c =
    worn_of (g.S.NodeStore.fault_count c.args.store.now) (g.S.NodeStore.fault_count c.commit.new.self) (g.S.NodeStore.last_failed c.commit.new.self) (g.S.NodeStore.bad c.commit.new.self) (IsCarveStep (g.S.NodeStore.table c.args.store.now) c.args.parent.now c.args.place) ⊥ (g.S.NodeStore.table c.args.store.now) c.in_ok-step.step c.commit.result c.in_ok-step.ensures c.commit.ensures.cause

pub returns-clause-few_visits : goal.returns-clause-few_visits
returns-clause-few_visits g c =
    carve_visits (g.S.NodeStore.table c.args.store.now) c.args.parent.now c.args.place c.in_ok-step.step (g.S.NodeStore.visit_count c.args.store.now) (g.S.NodeStore.visit_count c.commit.new.self) c.commit.result
    (record { table = c.root-root.ensures.table; index = c.args.index; can = c.requires.can; carve = c.in_ok-step.ensures }) c.commit.ensures.visits c.commit.ensures.err_visits
