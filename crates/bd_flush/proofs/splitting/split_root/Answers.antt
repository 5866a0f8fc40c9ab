use Rattle.std.proofs.Common.{◌≡◌, ◌+◌, ◌^◌, ◌<◌, arith}
use Rattle.bd_limits.specs.Limits.{level_limit}
use Rattle.bd_node.specs.declared.node.Step.{Step}
use Rattle.bd_flush.specs.Splitting.{over_step, IsRootSplit}
use Rattle.bd_path.proofs.Made.{on_made, worn_of}
use Rattle.bd_flush.proofs.RootSplits.{over_found, over_none, root_step, root_full, is_to_split, is_step, is_in_place, on_flushed, on_raised}
use Rattle.bd_flush.proofs.splitting.split_root.Goals as goal

pub commit-requires-clause-step : goal.commit-requires-clause-step
commit-requires-clause-step g c =
    is_step (g.S.NodeStore.table c.args.store.now) c.args.root.now c.in-Some.step (is_to_split (g.S.NodeStore.table c.args.store.now) c.args.root.now c.in-Some.step c.root-id.ensures.table c.requires.node (omega arith) (omega (arith, (over_found c.root-id.result c.next_id.result c.root-id.result (c.level-level.result + 1) c.in_ok-halves.halves c.new-others.result.items c.in_ok-step.field-0 c.in-Some.step c.in-Some.is c.in_ok-step.ensures).1)) (root_step (g.S.NodeStore.table c.args.store.now) c.args.root.now c.in_ok-halves.halves c.in-Some.step c.root-id.result c.next_id.result c.level-level.result c.new-others.result.items c.level-level.ensures c.root-id.ensures.value c.next_id.ensures.value c.new-others.ensures.items c.in_ok-halves.ensures (over_found c.root-id.result c.next_id.result c.root-id.result (c.level-level.result + 1) c.in_ok-halves.halves c.new-others.result.items c.in_ok-step.field-0 c.in-Some.step c.in-Some.is c.in_ok-step.ensures).0))

pub commit-requires-clause-in_place : goal.commit-requires-clause-in_place
commit-requires-clause-in_place g c = λ known sound.
    is_in_place (g.S.NodeStore.nodes c.args.store.now) (g.S.NodeStore.table c.args.store.now) c.args.root.now c.in-Some.step (is_to_split (g.S.NodeStore.table c.args.store.now) c.args.root.now c.in-Some.step c.root-id.ensures.table c.requires.node (omega arith) (omega (arith, (over_found c.root-id.result c.next_id.result c.root-id.result (c.level-level.result + 1) c.in_ok-halves.halves c.new-others.result.items c.in_ok-step.field-0 c.in-Some.step c.in-Some.is c.in_ok-step.ensures).1)) (root_step (g.S.NodeStore.table c.args.store.now) c.args.root.now c.in_ok-halves.halves c.in-Some.step c.root-id.result c.next_id.result c.level-level.result c.new-others.result.items c.level-level.ensures c.root-id.ensures.value c.next_id.ensures.value c.new-others.ensures.items c.in_ok-halves.ensures (over_found c.root-id.result c.next_id.result c.root-id.result (c.level-level.result + 1) c.in_ok-halves.halves c.new-others.result.items c.in_ok-step.field-0 c.in-Some.step c.in-Some.is c.in_ok-step.ensures).0)) sound (c.requires.there known sound)

pub returns-clause-flushed : goal.returns-clause-flushed
returns-clause-flushed g c = λ known sound.
    on_flushed (g.S.NodeStore.nodes c.args.store.now) (g.S.NodeStore.table c.args.store.now) c.args.root.now c.in-Some.step (g.S.NodeStore.nodes c.commit.new.self) (g.S.NodeStore.table c.commit.new.self) c.commit.result (is_to_split (g.S.NodeStore.table c.args.store.now) c.args.root.now c.in-Some.step c.root-id.ensures.table c.requires.node (omega arith) (omega (arith, (over_found c.root-id.result c.next_id.result c.root-id.result (c.level-level.result + 1) c.in_ok-halves.halves c.new-others.result.items c.in_ok-step.field-0 c.in-Some.step c.in-Some.is c.in_ok-step.ensures).1)) (root_step (g.S.NodeStore.table c.args.store.now) c.args.root.now c.in_ok-halves.halves c.in-Some.step c.root-id.result c.next_id.result c.level-level.result c.new-others.result.items c.level-level.ensures c.root-id.ensures.value c.next_id.ensures.value c.new-others.ensures.items c.in_ok-halves.ensures (over_found c.root-id.result c.next_id.result c.root-id.result (c.level-level.result + 1) c.in_ok-halves.halves c.new-others.result.items c.in_ok-step.field-0 c.in-Some.step c.in-Some.is c.in_ok-step.ensures).0)) sound (c.requires.there known sound) c.commit.ensures.table (c.commit.ensures.committed known sound)

pub returns-clause-made : goal.returns-clause-made
returns-clause-made g c = λ known sound.
    on_made (IsRootSplit (g.S.NodeStore.table c.args.store.now) c.args.root.now) (g.S.NodeStore.nodes c.args.store.now) (g.S.NodeStore.table c.args.store.now) c.in-Some.step (g.S.NodeStore.nodes c.commit.new.self) (g.S.NodeStore.table c.commit.new.self) c.commit.result (root_step (g.S.NodeStore.table c.args.store.now) c.args.root.now c.in_ok-halves.halves c.in-Some.step c.root-id.result c.next_id.result c.level-level.result c.new-others.result.items c.level-level.ensures c.root-id.ensures.value c.next_id.ensures.value c.new-others.ensures.items c.in_ok-halves.ensures (over_found c.root-id.result c.next_id.result c.root-id.result (c.level-level.result + 1) c.in_ok-halves.halves c.new-others.result.items c.in_ok-step.field-0 c.in-Some.step c.in-Some.is c.in_ok-step.ensures).0) c.commit.ensures.table (c.commit.ensures.committed known sound)

pub returns-clause-table : goal.returns-clause-table
returns-clause-table g c =
    on_raised (g.S.NodeStore.table c.args.store.now) c.args.root.now c.in-Some.step (g.S.NodeStore.table c.commit.new.self) c.commit.result (is_to_split (g.S.NodeStore.table c.args.store.now) c.args.root.now c.in-Some.step c.root-id.ensures.table c.requires.node (omega arith) (omega (arith, (over_found c.root-id.result c.next_id.result c.root-id.result (c.level-level.result + 1) c.in_ok-halves.halves c.new-others.result.items c.in_ok-step.field-0 c.in-Some.step c.in-Some.is c.in_ok-step.ensures).1)) (root_step (g.S.NodeStore.table c.args.store.now) c.args.root.now c.in_ok-halves.halves c.in-Some.step c.root-id.result c.next_id.result c.level-level.result c.new-others.result.items c.level-level.ensures c.root-id.ensures.value c.next_id.ensures.value c.new-others.ensures.items c.in_ok-halves.ensures (over_found c.root-id.result c.next_id.result c.root-id.result (c.level-level.result + 1) c.in_ok-halves.halves c.new-others.result.items c.in_ok-step.field-0 c.in-Some.step c.in-Some.is c.in_ok-step.ensures).0)) c.commit.ensures.table

pub returns-clause-cause : goal.returns-clause-cause
returns-clause-cause g c =
    worn_of (g.S.NodeStore.fault_count c.args.store.now) (g.S.NodeStore.fault_count c.commit.new.self) (g.S.NodeStore.last_failed c.commit.new.self) (g.S.NodeStore.bad c.commit.new.self) (IsRootSplit (g.S.NodeStore.table c.args.store.now) c.args.root.now) ((g.S.NodeStore.table c.args.store.now).level (g.S.NodeStore.table c.args.store.now).root ≡ level_limit) (g.S.NodeStore.table c.args.store.now) c.in-Some.step c.commit.result (root_step (g.S.NodeStore.table c.args.store.now) c.args.root.now c.in_ok-halves.halves c.in-Some.step c.root-id.result c.next_id.result c.level-level.result c.new-others.result.items c.level-level.ensures c.root-id.ensures.value c.next_id.ensures.value c.new-others.ensures.items c.in_ok-halves.ensures (over_found c.root-id.result c.next_id.result c.root-id.result (c.level-level.result + 1) c.in_ok-halves.halves c.new-others.result.items c.in_ok-step.field-0 c.in-Some.step c.in-Some.is c.in_ok-step.ensures).0) c.commit.ensures.cause

pub returns-in_default-clause-cause : goal.returns-in_default-clause-cause
returns-in_default-clause-cause g c =
    root_full (g.S.NodeStore.fault_count c.args.store.now) (g.S.NodeStore.last_failed c.args.store.now) (g.S.NodeStore.bad c.args.store.now) (g.S.NodeStore.table c.args.store.now) c.args.root.now c.in_ok-halves.halves c.next_id.result c.next_id.ensures.value c.in_ok-halves.ensures (over_none c.next_id.result (λ (s : Step). (s ≡ over_step c.root-id.result c.next_id.result c.root-id.result (c.level-level.result + 1) c.in_ok-halves.halves c.new-others.result.items) × (c.next_id.result + 1 < 2 ^ 64)) c.in_ok-step.field-0 c.in_default.is c.in_ok-step.ensures)
