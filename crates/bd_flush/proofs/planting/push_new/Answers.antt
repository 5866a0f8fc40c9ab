use Rattle.std.proofs.Common.{arith}
use Rattle.bd_flush.specs.Pushing.{IsNewStep}
use Rattle.bd_path.proofs.Made.{on_made, worn_of}
use Rattle.bd_flush.proofs.LeafCommits.{is_to_push_new, may_push_new, new_in_place, on_new_flushed, on_new_table, on_new_visits}
use Rattle.bd_flush.proofs.planting.push_new.Goals as goal

pub commit-requires-clause-step : goal.commit-requires-clause-step
commit-requires-clause-step g c =
    may_push_new (g.S.NodeStore.table c.args.store.now) c.args.parent.now c.args.place c.in_ok-step.step
    (is_to_push_new (g.S.NodeStore.table c.args.store.now) c.args.parent.now c.args.place c.in_ok-step.step c.root-root.result c.next_id-next.result c.root-root.ensures.table c.requires.can c.root-root.ensures.value c.next_id-next.ensures.value (omega arith) c.in_ok-step.ensures)

pub commit-requires-clause-in_place : goal.commit-requires-clause-in_place
commit-requires-clause-in_place g c = λ known sound.
    new_in_place (g.S.NodeStore.nodes c.args.store.now) (g.S.NodeStore.table c.args.store.now) c.args.parent.now c.args.place c.in_ok-step.step
    (is_to_push_new (g.S.NodeStore.table c.args.store.now) c.args.parent.now c.args.place c.in_ok-step.step c.root-root.result c.next_id-next.result c.root-root.ensures.table c.requires.can c.root-root.ensures.value c.next_id-next.ensures.value (omega arith) c.in_ok-step.ensures) sound (c.requires.own known sound)

pub returns-clause-flushed : goal.returns-clause-flushed
returns-clause-flushed g c = λ known sound.
    on_new_flushed (g.S.NodeStore.nodes c.args.store.now) (g.S.NodeStore.table c.args.store.now) c.args.parent.now c.args.place c.in_ok-step.step (g.S.NodeStore.nodes c.commit.new.self) (g.S.NodeStore.table c.commit.new.self) c.commit.result
    (is_to_push_new (g.S.NodeStore.table c.args.store.now) c.args.parent.now c.args.place c.in_ok-step.step c.root-root.result c.next_id-next.result c.root-root.ensures.table c.requires.can c.root-root.ensures.value c.next_id-next.ensures.value (omega arith) c.in_ok-step.ensures) sound (c.requires.own known sound) c.commit.ensures.table (c.commit.ensures.committed known sound)

pub returns-clause-made : goal.returns-clause-made
returns-clause-made g c = λ known sound.
    on_made (IsNewStep (g.S.NodeStore.table c.args.store.now).root (g.S.NodeStore.table c.args.store.now).next c.args.parent.now c.args.place) (g.S.NodeStore.nodes c.args.store.now) (g.S.NodeStore.table c.args.store.now) c.in_ok-step.step (g.S.NodeStore.nodes c.commit.new.self) (g.S.NodeStore.table c.commit.new.self) c.commit.result (is_to_push_new (g.S.NodeStore.table c.args.store.now) c.args.parent.now c.args.place c.in_ok-step.step c.root-root.result c.next_id-next.result c.root-root.ensures.table c.requires.can c.root-root.ensures.value c.next_id-next.ensures.value (omega arith) c.in_ok-step.ensures).push c.commit.ensures.table (c.commit.ensures.committed known sound)

pub returns-clause-table : goal.returns-clause-table
returns-clause-table g c =
    on_new_table (g.S.NodeStore.table c.args.store.now) c.args.parent.now c.args.place c.in_ok-step.step (g.S.NodeStore.table c.commit.new.self) c.commit.result
    (is_to_push_new (g.S.NodeStore.table c.args.store.now) c.args.parent.now c.args.place c.in_ok-step.step c.root-root.result c.next_id-next.result c.root-root.ensures.table c.requires.can c.root-root.ensures.value c.next_id-next.ensures.value (omega arith) c.in_ok-step.ensures) c.commit.ensures.table

pub returns-clause-cause : goal.returns-clause-cause
returns-clause-cause g c =
    worn_of (g.S.NodeStore.fault_count c.args.store.now) (g.S.NodeStore.fault_count c.commit.new.self) (g.S.NodeStore.last_failed c.commit.new.self) (g.S.NodeStore.bad c.commit.new.self) (IsNewStep (g.S.NodeStore.table c.args.store.now).root (g.S.NodeStore.table c.args.store.now).next c.args.parent.now c.args.place) ⊥ (g.S.NodeStore.table c.args.store.now) c.in_ok-step.step c.commit.result (is_to_push_new (g.S.NodeStore.table c.args.store.now) c.args.parent.now c.args.place c.in_ok-step.step c.root-root.result c.next_id-next.result c.root-root.ensures.table c.requires.can c.root-root.ensures.value c.next_id-next.ensures.value (omega arith) c.in_ok-step.ensures).push c.commit.ensures.cause

pub returns-clause-visits : goal.returns-clause-visits
returns-clause-visits g c =
    on_new_visits (g.S.NodeStore.table c.args.store.now) c.args.parent.now c.args.place c.in_ok-step.step (g.S.NodeStore.visit_count c.args.store.now) (g.S.NodeStore.visit_count c.commit.new.self) c.commit.result
    (is_to_push_new (g.S.NodeStore.table c.args.store.now) c.args.parent.now c.args.place c.in_ok-step.step c.root-root.result c.next_id-next.result c.root-root.ensures.table c.requires.can c.root-root.ensures.value c.next_id-next.ensures.value (omega arith) c.in_ok-step.ensures) c.commit.ensures.visits
