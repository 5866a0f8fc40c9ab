use Rattle.std.proofs.Common.{ℕ, ◌+◌, ◌∷◌, reverse}
use Rattle.bd_node.specs.declared.node.Step.{Step}
use Rattle.bd_node.specs.Nodes.{level_of}
use Rattle.bd_flush.specs.Between.{IsBetweenStep}
use Rattle.bd_path.specs.Raising.{CannotRise}
use Rattle.bd_path.proofs.Made.{on_made, worn_of, too_high}
use Rattle.bd_flush.proofs.PutBetween.{way_shapes, below_last, plan_found, plan_high, put_full, is_to_put, may_put, put_in_place, put_flushed, put_higher, put_risen}
use Rattle.bd_flush.proofs.between.put_between.Goals as goal

pub between_plan-requires-clause-shapes : goal.between_plan-requires-clause-shapes
between_plan-requires-clause-shapes g c =
    way_shapes (g.S.NodeStore.table c.args.store.now) c.args.child.now.id (c.args.parent.now ∷ reverse c.args.above.now) c.requires.way

pub between_plan-requires-clause-low : goal.between_plan-requires-clause-low
between_plan-requires-clause-low g c =
    below_last (g.S.NodeStore.table c.args.store.now) c.args.parent.now (reverse c.args.above.now) c.args.child.now c.requires.child c.requires.way

pub commit-requires-clause-step : goal.commit-requires-clause-step
commit-requires-clause-step g c =
    may_put (g.S.NodeStore.table c.args.store.now) (c.args.parent.now ∷ reverse c.args.above.now) c.args.child.now c.args.halves c.in-Ready.step (is_to_put (g.S.NodeStore.table c.args.store.now) c.args.parent.now (reverse c.args.above.now) c.args.child.now c.args.halves c.in-Ready.step c.root-root.ensures.table c.requires.child c.requires.way c.requires.halves (plan_found (λ (r i : ℕ) (s : Step). IsBetweenStep r i (c.args.parent.now ∷ reverse c.args.above.now) c.args.child.now c.args.halves s) c.root-root.result c.next_id-next.result (CannotRise (level_of c.args.child.now.node.value + 1) (c.args.parent.now ∷ reverse c.args.above.now)) c.in_ok-step.field-0 (g.S.NodeStore.table c.args.store.now) c.in-Ready.step c.in-Ready.is c.root-root.ensures.value c.next_id-next.ensures.value c.in_ok-step.ensures))

pub commit-requires-clause-in_place : goal.commit-requires-clause-in_place
commit-requires-clause-in_place g c = λ known sound.
    put_in_place (g.S.NodeStore.nodes c.args.store.now) (g.S.NodeStore.table c.args.store.now) (c.args.parent.now ∷ reverse c.args.above.now) c.args.child.now c.args.halves c.in-Ready.step (is_to_put (g.S.NodeStore.table c.args.store.now) c.args.parent.now (reverse c.args.above.now) c.args.child.now c.args.halves c.in-Ready.step c.root-root.ensures.table c.requires.child c.requires.way c.requires.halves (plan_found (λ (r i : ℕ) (s : Step). IsBetweenStep r i (c.args.parent.now ∷ reverse c.args.above.now) c.args.child.now c.args.halves s) c.root-root.result c.next_id-next.result (CannotRise (level_of c.args.child.now.node.value + 1) (c.args.parent.now ∷ reverse c.args.above.now)) c.in_ok-step.field-0 (g.S.NodeStore.table c.args.store.now) c.in-Ready.step c.in-Ready.is c.root-root.ensures.value c.next_id-next.ensures.value c.in_ok-step.ensures)) sound (c.requires.there known sound)

pub returns-clause-flushed : goal.returns-clause-flushed
returns-clause-flushed g c = λ known sound.
    put_flushed (g.S.NodeStore.nodes c.args.store.now) (g.S.NodeStore.table c.args.store.now) (c.args.parent.now ∷ reverse c.args.above.now) c.args.child.now c.args.halves c.in-Ready.step (g.S.NodeStore.nodes c.commit.new.self) (g.S.NodeStore.table c.commit.new.self) c.commit.result (is_to_put (g.S.NodeStore.table c.args.store.now) c.args.parent.now (reverse c.args.above.now) c.args.child.now c.args.halves c.in-Ready.step c.root-root.ensures.table c.requires.child c.requires.way c.requires.halves (plan_found (λ (r i : ℕ) (s : Step). IsBetweenStep r i (c.args.parent.now ∷ reverse c.args.above.now) c.args.child.now c.args.halves s) c.root-root.result c.next_id-next.result (CannotRise (level_of c.args.child.now.node.value + 1) (c.args.parent.now ∷ reverse c.args.above.now)) c.in_ok-step.field-0 (g.S.NodeStore.table c.args.store.now) c.in-Ready.step c.in-Ready.is c.root-root.ensures.value c.next_id-next.ensures.value c.in_ok-step.ensures)) sound (c.requires.there known sound) c.commit.ensures.table (c.commit.ensures.committed known sound)

pub returns-clause-made : goal.returns-clause-made
returns-clause-made g c = λ known sound.
    on_made (IsBetweenStep (g.S.NodeStore.table c.args.store.now).root (g.S.NodeStore.table c.args.store.now).next (c.args.parent.now ∷ reverse c.args.above.now) c.args.child.now c.args.halves) (g.S.NodeStore.nodes c.args.store.now) (g.S.NodeStore.table c.args.store.now) c.in-Ready.step (g.S.NodeStore.nodes c.commit.new.self) (g.S.NodeStore.table c.commit.new.self) c.commit.result (plan_found (λ (r i : ℕ) (s : Step). IsBetweenStep r i (c.args.parent.now ∷ reverse c.args.above.now) c.args.child.now c.args.halves s) c.root-root.result c.next_id-next.result (CannotRise (level_of c.args.child.now.node.value + 1) (c.args.parent.now ∷ reverse c.args.above.now)) c.in_ok-step.field-0 (g.S.NodeStore.table c.args.store.now) c.in-Ready.step c.in-Ready.is c.root-root.ensures.value c.next_id-next.ensures.value c.in_ok-step.ensures).0 c.commit.ensures.table (c.commit.ensures.committed known sound)

pub returns-clause-table : goal.returns-clause-table
returns-clause-table g c =
    put_higher (g.S.NodeStore.table c.args.store.now) (c.args.parent.now ∷ reverse c.args.above.now) c.args.child.now c.args.halves c.in-Ready.step (g.S.NodeStore.table c.commit.new.self) c.commit.result (is_to_put (g.S.NodeStore.table c.args.store.now) c.args.parent.now (reverse c.args.above.now) c.args.child.now c.args.halves c.in-Ready.step c.root-root.ensures.table c.requires.child c.requires.way c.requires.halves (plan_found (λ (r i : ℕ) (s : Step). IsBetweenStep r i (c.args.parent.now ∷ reverse c.args.above.now) c.args.child.now c.args.halves s) c.root-root.result c.next_id-next.result (CannotRise (level_of c.args.child.now.node.value + 1) (c.args.parent.now ∷ reverse c.args.above.now)) c.in_ok-step.field-0 (g.S.NodeStore.table c.args.store.now) c.in-Ready.step c.in-Ready.is c.root-root.ensures.value c.next_id-next.ensures.value c.in_ok-step.ensures)) c.commit.ensures.table

pub returns-clause-risen : goal.returns-clause-risen
returns-clause-risen g c =
    put_risen (g.S.NodeStore.table c.args.store.now) (c.args.parent.now ∷ reverse c.args.above.now) c.args.child.now c.args.halves c.in-Ready.step c.commit.result (is_to_put (g.S.NodeStore.table c.args.store.now) c.args.parent.now (reverse c.args.above.now) c.args.child.now c.args.halves c.in-Ready.step c.root-root.ensures.table c.requires.child c.requires.way c.requires.halves (plan_found (λ (r i : ℕ) (s : Step). IsBetweenStep r i (c.args.parent.now ∷ reverse c.args.above.now) c.args.child.now c.args.halves s) c.root-root.result c.next_id-next.result (CannotRise (level_of c.args.child.now.node.value + 1) (c.args.parent.now ∷ reverse c.args.above.now)) c.in_ok-step.field-0 (g.S.NodeStore.table c.args.store.now) c.in-Ready.step c.in-Ready.is c.root-root.ensures.value c.next_id-next.ensures.value c.in_ok-step.ensures))

pub returns-clause-cause : goal.returns-clause-cause
returns-clause-cause g c =
    worn_of (g.S.NodeStore.fault_count c.args.store.now) (g.S.NodeStore.fault_count c.commit.new.self) (g.S.NodeStore.last_failed c.commit.new.self) (g.S.NodeStore.bad c.commit.new.self) (IsBetweenStep (g.S.NodeStore.table c.args.store.now).root (g.S.NodeStore.table c.args.store.now).next (c.args.parent.now ∷ reverse c.args.above.now) c.args.child.now c.args.halves) (CannotRise (level_of c.args.child.now.node.value + 1) (c.args.parent.now ∷ reverse c.args.above.now)) (g.S.NodeStore.table c.args.store.now) c.in-Ready.step c.commit.result (plan_found (λ (r i : ℕ) (s : Step). IsBetweenStep r i (c.args.parent.now ∷ reverse c.args.above.now) c.args.child.now c.args.halves s) c.root-root.result c.next_id-next.result (CannotRise (level_of c.args.child.now.node.value + 1) (c.args.parent.now ∷ reverse c.args.above.now)) c.in_ok-step.field-0 (g.S.NodeStore.table c.args.store.now) c.in-Ready.step c.in-Ready.is c.root-root.ensures.value c.next_id-next.ensures.value c.in_ok-step.ensures).0 c.commit.ensures.cause

pub returns-in-NoLevel-clause-cause : goal.returns-in-NoLevel-clause-cause
returns-in-NoLevel-clause-cause g c =
    too_high (g.S.NodeStore.fault_count c.args.store.now) (g.S.NodeStore.last_failed c.args.store.now) (g.S.NodeStore.bad c.args.store.now) (IsBetweenStep (g.S.NodeStore.table c.args.store.now).root (g.S.NodeStore.table c.args.store.now).next (c.args.parent.now ∷ reverse c.args.above.now) c.args.child.now c.args.halves) (CannotRise (level_of c.args.child.now.node.value + 1) (c.args.parent.now ∷ reverse c.args.above.now)) (g.S.NodeStore.table c.args.store.now) (plan_high (λ (r i : ℕ) (s : Step). IsBetweenStep r i (c.args.parent.now ∷ reverse c.args.above.now) c.args.child.now c.args.halves s) c.root-root.result c.next_id-next.result (CannotRise (level_of c.args.child.now.node.value + 1) (c.args.parent.now ∷ reverse c.args.above.now)) c.in_ok-step.field-0 c.in-NoLevel.is c.in_ok-step.ensures)

pub returns-in-NoId-clause-cause : goal.returns-in-NoId-clause-cause
returns-in-NoId-clause-cause g c =
    put_full (g.S.NodeStore.fault_count c.args.store.now) (g.S.NodeStore.last_failed c.args.store.now) (g.S.NodeStore.bad c.args.store.now) (CannotRise (level_of c.args.child.now.node.value + 1) (c.args.parent.now ∷ reverse c.args.above.now)) (g.S.NodeStore.table c.args.store.now) (c.args.parent.now ∷ reverse c.args.above.now) c.args.child.now c.args.halves c.root-root.result c.next_id-next.result c.in_ok-step.field-0 c.in-NoId.is c.root-root.ensures.value c.next_id-next.ensures.value c.in_ok-step.ensures
