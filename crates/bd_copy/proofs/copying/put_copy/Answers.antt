use Rattle.std.proofs.Common.{arith}
use Rattle.bd_copy.specs.Copying.{IsCopyStep}
use Rattle.bd_path.proofs.Made.{on_made, worn_of}
use Rattle.bd_copy.proofs.Copies.{is_to_put, may_put, put_in_place, on_put_flushed, on_put_table, on_put_visits}
use Rattle.bd_copy.proofs.copying.put_copy.Goals as goal

pub commit-requires-clause-step : goal.commit-requires-clause-step
commit-requires-clause-step g c =
    may_put (g.S.NodeStore.table c.args.store.now) c.args.parent.now c.args.place c.args.copy c.in_ok-step.step
    (is_to_put (g.S.NodeStore.table c.args.store.now) c.args.parent.now c.args.place c.args.copy c.in_ok-step.step c.root-root.result c.next_id-next.result c.root-root.ensures.table c.requires.can c.root-root.ensures.value c.next_id-next.ensures.value (omega arith) c.in_ok-step.ensures)

pub commit-requires-clause-in_place : goal.commit-requires-clause-in_place
commit-requires-clause-in_place g c = λ known sound.
    put_in_place (g.S.NodeStore.nodes c.args.store.now) (g.S.NodeStore.table c.args.store.now) c.args.parent.now c.args.place c.args.copy c.in_ok-step.step
    (is_to_put (g.S.NodeStore.table c.args.store.now) c.args.parent.now c.args.place c.args.copy c.in_ok-step.step c.root-root.result c.next_id-next.result c.root-root.ensures.table c.requires.can c.root-root.ensures.value c.next_id-next.ensures.value (omega arith) c.in_ok-step.ensures) sound (c.requires.own known sound) (c.requires.copied known sound)

pub returns-clause-flushed : goal.returns-clause-flushed
returns-clause-flushed g c = λ known sound.
    on_put_flushed (g.S.NodeStore.nodes c.args.store.now) (g.S.NodeStore.table c.args.store.now) c.args.parent.now c.args.place c.args.copy c.in_ok-step.step (g.S.NodeStore.nodes c.commit.new.self) (g.S.NodeStore.table c.commit.new.self) c.commit.result
    (is_to_put (g.S.NodeStore.table c.args.store.now) c.args.parent.now c.args.place c.args.copy c.in_ok-step.step c.root-root.result c.next_id-next.result c.root-root.ensures.table c.requires.can c.root-root.ensures.value c.next_id-next.ensures.value (omega arith) c.in_ok-step.ensures) sound (c.requires.own known sound) (c.requires.copied known sound) c.commit.ensures.table (c.commit.ensures.committed known sound)

pub returns-clause-made : goal.returns-clause-made
returns-clause-made g c = λ known sound.
    on_made (IsCopyStep (g.S.NodeStore.table c.args.store.now).root (g.S.NodeStore.table c.args.store.now).next c.args.parent.now c.args.place c.args.copy) (g.S.NodeStore.nodes c.args.store.now) (g.S.NodeStore.table c.args.store.now) c.in_ok-step.step (g.S.NodeStore.nodes c.commit.new.self) (g.S.NodeStore.table c.commit.new.self) c.commit.result (is_to_put (g.S.NodeStore.table c.args.store.now) c.args.parent.now c.args.place c.args.copy c.in_ok-step.step c.root-root.result c.next_id-next.result c.root-root.ensures.table c.requires.can c.root-root.ensures.value c.next_id-next.ensures.value (omega arith) c.in_ok-step.ensures).put c.commit.ensures.table (c.commit.ensures.committed known sound)

pub returns-clause-table : goal.returns-clause-table
returns-clause-table g c =
    on_put_table (g.S.NodeStore.table c.args.store.now) c.args.parent.now c.args.place c.args.copy c.in_ok-step.step (g.S.NodeStore.table c.commit.new.self) c.commit.result
    (is_to_put (g.S.NodeStore.table c.args.store.now) c.args.parent.now c.args.place c.args.copy c.in_ok-step.step c.root-root.result c.next_id-next.result c.root-root.ensures.table c.requires.can c.root-root.ensures.value c.next_id-next.ensures.value (omega arith) c.in_ok-step.ensures) c.commit.ensures.table

pub returns-clause-cause : goal.returns-clause-cause
returns-clause-cause g c =
    worn_of (g.S.NodeStore.fault_count c.args.store.now) (g.S.NodeStore.fault_count c.commit.new.self) (g.S.NodeStore.last_failed c.commit.new.self) (g.S.NodeStore.bad c.commit.new.self) (IsCopyStep (g.S.NodeStore.table c.args.store.now).root (g.S.NodeStore.table c.args.store.now).next c.args.parent.now c.args.place c.args.copy) ⊥ (g.S.NodeStore.table c.args.store.now) c.in_ok-step.step c.commit.result (is_to_put (g.S.NodeStore.table c.args.store.now) c.args.parent.now c.args.place c.args.copy c.in_ok-step.step c.root-root.result c.next_id-next.result c.root-root.ensures.table c.requires.can c.root-root.ensures.value c.next_id-next.ensures.value (omega arith) c.in_ok-step.ensures).put c.commit.ensures.cause

pub returns-clause-visits : goal.returns-clause-visits
returns-clause-visits g c =
    on_put_visits (g.S.NodeStore.table c.args.store.now) c.args.parent.now c.args.place c.args.copy c.in_ok-step.step (g.S.NodeStore.visit_count c.args.store.now) (g.S.NodeStore.visit_count c.commit.new.self) c.commit.result
    (is_to_put (g.S.NodeStore.table c.args.store.now) c.args.parent.now c.args.place c.args.copy c.in_ok-step.step c.root-root.result c.next_id-next.result c.root-root.ensures.table c.requires.can c.root-root.ensures.value c.next_id-next.ensures.value (omega arith) c.in_ok-step.ensures) c.commit.ensures.visits
