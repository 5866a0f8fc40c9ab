use Rattle.std.proofs.Common.{arith, reverse}
use Rattle.bd_node.proofs.Parts.{edge_within}
use Rattle.bd_flush.proofs.Betweens.{way_shapes}
use Rattle.bd_flush.specs.Pushing.{IsSomePush, IsLongPush, IsHighPush}
use Rattle.bd_path.proofs.Made.{on_made, worn_of}
use Rattle.bd_flush.proofs.PushPlans.{waiting_moves, waiting_plain, is_planned, planned_may, planned_in_place, on_planned_flushed, on_planned_table, on_planned_visits, some_push, no_id_cause, no_level_cause}
use Rattle.bd_flush.proofs.PushDowns.{is_down, may_push_down, can_push_down, on_down_flushed, on_down_made, on_down_table, never_worn}
use Rattle.bd_path.specs.Flushed.{IsHardlyHigher}
use Rattle.bd_flush.proofs.pushing.push.Goals as goal

pub push_work-requires-clause-above : goal.push_work-requires-clause-above
push_work-requires-clause-above g c = way_shapes (g.S.NodeStore.table c.args.store.now) c.args.parent.id (reverse c.args.above.now) c.requires.way

pub push_work-requires-clause-within : goal.push_work-requires-clause-within
push_work-requires-clause-within g c = edge_within c.args.parent.node.value c.args.place c.requires.can.edge c.requires.can.way.here

pub push_work-requires-clause-waiting : goal.push_work-requires-clause-waiting
push_work-requires-clause-waiting g c = waiting_moves (g.S.NodeStore.table c.args.store.now) c.args.parent c.args.place c.args.child c.requires.can

pub push_work-requires-clause-plain : goal.push_work-requires-clause-plain
push_work-requires-clause-plain g c = waiting_plain (g.S.NodeStore.table c.args.store.now) c.args.parent c.args.place c.args.child c.requires.can

pub commit-requires-clause-step : goal.commit-requires-clause-step
commit-requires-clause-step g c =
    planned_may (g.S.NodeStore.table c.args.store.now) (reverse c.args.above.now) c.args.parent c.args.place c.args.child c.in-Ready.step
    (is_planned (g.S.NodeStore.table c.args.store.now) (reverse c.args.above.now) c.args.parent c.args.place c.args.child c.in-Ready.step c.in_ok-push.field-0 c.in-Planned.plan c.root-root.result c.next_id-next.result c.root-root.ensures.table c.requires.can c.requires.way c.root-root.ensures.value c.next_id-next.ensures.value (omega arith) c.in-Planned.is c.in-Ready.is c.in_ok-push.ensures)

pub commit-requires-clause-in_place : goal.commit-requires-clause-in_place
commit-requires-clause-in_place g c = λ known sound.
    planned_in_place (g.S.NodeStore.nodes c.args.store.now) (g.S.NodeStore.table c.args.store.now) (reverse c.args.above.now) c.args.parent c.args.place c.args.child c.in-Ready.step
    (record { of = (is_planned (g.S.NodeStore.table c.args.store.now) (reverse c.args.above.now) c.args.parent c.args.place c.args.child c.in-Ready.step c.in_ok-push.field-0 c.in-Planned.plan c.root-root.result c.next_id-next.result c.root-root.ensures.table c.requires.can c.requires.way c.root-root.ensures.value c.next_id-next.ensures.value (omega arith) c.in-Planned.is c.in-Ready.is c.in_ok-push.ensures); sound = sound; family = c.requires.family known sound; contents = c.requires.contents known sound })

pub returns-clause-flushed : goal.returns-clause-flushed
returns-clause-flushed g c = λ known sound.
    on_planned_flushed (g.S.NodeStore.nodes c.args.store.now) (g.S.NodeStore.table c.args.store.now) (reverse c.args.above.now) c.args.parent c.args.place c.args.child c.in-Ready.step (g.S.NodeStore.nodes c.commit.new.self) (g.S.NodeStore.table c.commit.new.self) c.commit.result
    (record { of = (is_planned (g.S.NodeStore.table c.args.store.now) (reverse c.args.above.now) c.args.parent c.args.place c.args.child c.in-Ready.step c.in_ok-push.field-0 c.in-Planned.plan c.root-root.result c.next_id-next.result c.root-root.ensures.table c.requires.can c.requires.way c.root-root.ensures.value c.next_id-next.ensures.value (omega arith) c.in-Planned.is c.in-Ready.is c.in_ok-push.ensures); sound = sound; family = c.requires.family known sound; contents = c.requires.contents known sound }) c.commit.ensures.table (c.commit.ensures.committed known sound)

pub returns-clause-made : goal.returns-clause-made
returns-clause-made g c = λ known sound.
    on_made (IsSomePush (g.S.NodeStore.table c.args.store.now).root (g.S.NodeStore.table c.args.store.now).next (reverse c.args.above.now) c.args.parent c.args.place c.args.child) (g.S.NodeStore.nodes c.args.store.now) (g.S.NodeStore.table c.args.store.now) c.in-Ready.step (g.S.NodeStore.nodes c.commit.new.self) (g.S.NodeStore.table c.commit.new.self) c.commit.result (some_push (g.S.NodeStore.table c.args.store.now) (reverse c.args.above.now) c.args.parent c.args.place c.args.child c.in-Ready.step (is_planned (g.S.NodeStore.table c.args.store.now) (reverse c.args.above.now) c.args.parent c.args.place c.args.child c.in-Ready.step c.in_ok-push.field-0 c.in-Planned.plan c.root-root.result c.next_id-next.result c.root-root.ensures.table c.requires.can c.requires.way c.root-root.ensures.value c.next_id-next.ensures.value (omega arith) c.in-Planned.is c.in-Ready.is c.in_ok-push.ensures)) c.commit.ensures.table (c.commit.ensures.committed known sound)

pub returns-clause-table : goal.returns-clause-table
returns-clause-table g c =
    on_planned_table (g.S.NodeStore.table c.args.store.now) (reverse c.args.above.now) c.args.parent c.args.place c.args.child c.in-Ready.step (g.S.NodeStore.table c.commit.new.self) c.commit.result
    (is_planned (g.S.NodeStore.table c.args.store.now) (reverse c.args.above.now) c.args.parent c.args.place c.args.child c.in-Ready.step c.in_ok-push.field-0 c.in-Planned.plan c.root-root.result c.next_id-next.result c.root-root.ensures.table c.requires.can c.requires.way c.root-root.ensures.value c.next_id-next.ensures.value (omega arith) c.in-Planned.is c.in-Ready.is c.in_ok-push.ensures) c.commit.ensures.table

pub returns-clause-few_visits : goal.returns-clause-few_visits
returns-clause-few_visits g c =
    on_planned_visits (g.S.NodeStore.table c.args.store.now) (reverse c.args.above.now) c.args.parent c.args.place c.args.child c.in-Ready.step (g.S.NodeStore.visit_count c.args.store.now) (g.S.NodeStore.visit_count c.commit.new.self) c.commit.result
    (is_planned (g.S.NodeStore.table c.args.store.now) (reverse c.args.above.now) c.args.parent c.args.place c.args.child c.in-Ready.step c.in_ok-push.field-0 c.in-Planned.plan c.root-root.result c.next_id-next.result c.root-root.ensures.table c.requires.can c.requires.way c.root-root.ensures.value c.next_id-next.ensures.value (omega arith) c.in-Planned.is c.in-Ready.is c.in_ok-push.ensures) c.commit.ensures.visits c.commit.ensures.err_visits

pub returns-clause-cause : goal.returns-clause-cause
returns-clause-cause g c =
    worn_of (g.S.NodeStore.fault_count c.args.store.now) (g.S.NodeStore.fault_count c.commit.new.self) (g.S.NodeStore.last_failed c.commit.new.self) (g.S.NodeStore.bad c.commit.new.self) (IsSomePush (g.S.NodeStore.table c.args.store.now).root (g.S.NodeStore.table c.args.store.now).next (reverse c.args.above.now) c.args.parent c.args.place c.args.child) (IsHighPush c.args.parent.node.value c.args.place c.args.child.node.value (reverse c.args.above.now)) (g.S.NodeStore.table c.args.store.now) c.in-Ready.step c.commit.result (some_push (g.S.NodeStore.table c.args.store.now) (reverse c.args.above.now) c.args.parent c.args.place c.args.child c.in-Ready.step (is_planned (g.S.NodeStore.table c.args.store.now) (reverse c.args.above.now) c.args.parent c.args.place c.args.child c.in-Ready.step c.in_ok-push.field-0 c.in-Planned.plan c.root-root.result c.next_id-next.result c.root-root.ensures.table c.requires.can c.requires.way c.root-root.ensures.value c.next_id-next.ensures.value (omega arith) c.in-Planned.is c.in-Ready.is c.in_ok-push.ensures)) c.commit.ensures.cause

pub returns-in-NoLevel-clause-cause : goal.returns-in-NoLevel-clause-cause
returns-in-NoLevel-clause-cause g c =
    no_level_cause (g.S.NodeStore.fault_count c.args.store.now) (g.S.NodeStore.last_failed c.args.store.now) (g.S.NodeStore.bad c.args.store.now) (IsSomePush (g.S.NodeStore.table c.args.store.now).root (g.S.NodeStore.table c.args.store.now).next (reverse c.args.above.now) c.args.parent c.args.place c.args.child) (g.S.NodeStore.table c.args.store.now) (reverse c.args.above.now) c.args.parent c.args.place c.args.child c.in_ok-push.field-0 c.in-Planned.plan c.root-root.result c.next_id-next.result c.in-Planned.is c.in-NoLevel.is c.in_ok-push.ensures

pub returns-in-NoId-clause-cause : goal.returns-in-NoId-clause-cause
returns-in-NoId-clause-cause g c =
    no_id_cause (g.S.NodeStore.fault_count c.args.store.now) (g.S.NodeStore.last_failed c.args.store.now) (g.S.NodeStore.bad c.args.store.now) (IsHighPush c.args.parent.node.value c.args.place c.args.child.node.value (reverse c.args.above.now)) (g.S.NodeStore.table c.args.store.now) (reverse c.args.above.now) c.args.parent c.args.place c.args.child c.in_ok-push.field-0 c.in-Planned.plan c.root-root.result c.next_id-next.result c.root-root.ensures.value c.next_id-next.ensures.value c.in-Planned.is c.in-NoId.is c.in_ok-push.ensures

pub push_down-requires-clause-push : goal.push_down-requires-clause-push
push_down-requires-clause-push g c =
    may_push_down (g.S.NodeStore.table c.args.store.now) c.args.parent c.args.place c.args.child c.in-Down.push
    (is_down (g.S.NodeStore.table c.args.store.now) (reverse c.args.above.now) c.args.parent c.args.place c.args.child c.in-Down.push c.in_ok-push.field-0 c.root-root.result c.next_id-next.result c.root-root.ensures.table c.requires.can c.next_id-next.ensures.value (omega arith) c.in-Down.is c.in_ok-push.ensures)

pub push_down-requires-clause-can : goal.push_down-requires-clause-can
push_down-requires-clause-can g c = λ known sound.
    can_push_down (g.S.NodeStore.nodes c.args.store.now) (g.S.NodeStore.table c.args.store.now) c.args.parent c.args.place c.args.child c.in-Down.push
    (is_down (g.S.NodeStore.table c.args.store.now) (reverse c.args.above.now) c.args.parent c.args.place c.args.child c.in-Down.push c.in_ok-push.field-0 c.root-root.result c.next_id-next.result c.root-root.ensures.table c.requires.can c.next_id-next.ensures.value (omega arith) c.in-Down.is c.in_ok-push.ensures) (c.requires.family known sound)

pub returns-in-Down-clause-flushed : goal.returns-in-Down-clause-flushed
returns-in-Down-clause-flushed g c = λ known sound.
    on_down_flushed (g.S.NodeStore.nodes c.args.store.now) (g.S.NodeStore.table c.args.store.now) c.args.parent c.args.place c.args.child c.in-Down.push (g.S.NodeStore.nodes c.push_down.new.self) (g.S.NodeStore.table c.push_down.new.self) c.push_down.result
    (is_down (g.S.NodeStore.table c.args.store.now) (reverse c.args.above.now) c.args.parent c.args.place c.args.child c.in-Down.push c.in_ok-push.field-0 c.root-root.result c.next_id-next.result c.root-root.ensures.table c.requires.can c.next_id-next.ensures.value (omega arith) c.in-Down.is c.in_ok-push.ensures) sound (c.requires.family known sound) (c.push_down.ensures.committed known sound)

pub returns-in-Down-clause-made : goal.returns-in-Down-clause-made
returns-in-Down-clause-made g c = λ known sound.
    on_down_made (g.S.NodeStore.nodes c.args.store.now) (g.S.NodeStore.table c.args.store.now) (reverse c.args.above.now) c.args.parent c.args.place c.args.child c.in-Down.push (g.S.NodeStore.nodes c.push_down.new.self) (g.S.NodeStore.table c.push_down.new.self) c.push_down.result
    (is_down (g.S.NodeStore.table c.args.store.now) (reverse c.args.above.now) c.args.parent c.args.place c.args.child c.in-Down.push c.in_ok-push.field-0 c.root-root.result c.next_id-next.result c.root-root.ensures.table c.requires.can c.next_id-next.ensures.value (omega arith) c.in-Down.is c.in_ok-push.ensures) (c.requires.family known sound) (c.push_down.ensures.committed known sound)

pub returns-in-Down-clause-table : goal.returns-in-Down-clause-table
returns-in-Down-clause-table g c =
    on_down_table (IsLongPush c.args.parent.node.value c.args.place c.args.child.node.value × IsHardlyHigher (g.S.NodeStore.table c.args.store.now) (g.S.NodeStore.table c.push_down.new.self)) (g.S.NodeStore.table c.args.store.now) c.args.parent c.args.place c.args.child c.in-Down.push (g.S.NodeStore.table c.push_down.new.self) c.push_down.result
    (is_down (g.S.NodeStore.table c.args.store.now) (reverse c.args.above.now) c.args.parent c.args.place c.args.child c.in-Down.push c.in_ok-push.field-0 c.root-root.result c.next_id-next.result c.root-root.ensures.table c.requires.can c.next_id-next.ensures.value (omega arith) c.in-Down.is c.in_ok-push.ensures) c.push_down.ensures.table

pub returns-in-Down-clause-cause : goal.returns-in-Down-clause-cause
returns-in-Down-clause-cause g c =
    never_worn (g.S.NodeStore.fault_count c.args.store.now) (g.S.NodeStore.fault_count c.push_down.new.self) (g.S.NodeStore.last_failed c.push_down.new.self) (g.S.NodeStore.bad c.push_down.new.self) (IsSomePush (g.S.NodeStore.table c.args.store.now).root (g.S.NodeStore.table c.args.store.now).next (reverse c.args.above.now) c.args.parent c.args.place c.args.child) (IsHighPush c.args.parent.node.value c.args.place c.args.child.node.value (reverse c.args.above.now)) (g.S.NodeStore.table c.args.store.now) c.push_down.result c.push_down.ensures.cause
