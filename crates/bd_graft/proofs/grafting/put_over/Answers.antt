use Rattle.std.proofs.Common.{ap, ◌∙◌, ◌+◌, ℕ, List, Some}
use Rattle.bd_node.specs.Meaning.{Nodes}
use Rattle.bd_node.specs.Tables.{Table}
use Rattle.bd_graft.specs.Packing.{overlay}
use Rattle.bd_graft.specs.Grafting.{graft_messages, step_over}
use Rattle.bd_graft.proofs.Grafts.{IsOverStep, over_ready, over_step, over_place, over_done, ok_sound, worn_step}
use Rattle.bd_graft.proofs.Leaving.{over_left, over_same, over_grown}
use Rattle.bd_graft.proofs.Visits.{step_visits}
use Rattle.bd_graft.proofs.Made.{made_of}
use Rattle.bd_graft.proofs.grafting.put_over.Goals as goal

pub commit-requires-clause-step : goal.commit-requires-clause-step
commit-requires-clause-step g c =
    over_step (g.S.NodeStore.is_known c.args.store.now) (g.S.NodeStore.nodes c.args.store.now) (g.S.NodeStore.table c.args.store.now) c.args.packed c.args.s.now c.args.d.now c.args.keep c.in_ok-step.step
    (over_ready (g.S.NodeStore.is_known c.args.store.now) (g.S.NodeStore.nodes c.args.store.now) (g.S.NodeStore.table c.args.store.now) c.in_ok-top.top c.args.packed c.args.s.now c.args.d.now c.args.keep c.in_ok-step.step c.root-root.result c.next_id-next.result (c.level-level.result + 1) c.in_ok-indexed.field-0
    c.requires.ready c.root-root.ensures.table c.requires.room c.requires.level c.requires.low c.requires.can.source c.requires.can.target c.root-root.ensures.value c.next_id-next.ensures.value
    (ap (λ (n : ℕ). n + 1) (c.level-level.ensures ∙ ap (g.S.NodeStore.table c.args.store.now).level c.root-root.ensures.value)) (c.in_ok-indexed.ensures ∙ c.in_ok-list.ensures)
    (c.in_ok-top.ensures ∙ ap (λ (q : List ℕ). overlay (c.level-level.result + 1) (Some (record { child = c.root-root.result; source = q })) c.in_ok-indexed.field-0) (c.from_vec.ensures ∙ c.new.ensures.items)) c.in_ok-step.ensures)

pub commit-requires-clause-in_place : goal.commit-requires-clause-in_place
commit-requires-clause-in_place g c = λ known sound.
    over_place (g.S.NodeStore.is_known c.args.store.now) (g.S.NodeStore.nodes c.args.store.now) (g.S.NodeStore.table c.args.store.now) c.args.packed c.args.s.now c.args.d.now c.args.keep c.in_ok-step.step
    (over_ready (g.S.NodeStore.is_known c.args.store.now) (g.S.NodeStore.nodes c.args.store.now) (g.S.NodeStore.table c.args.store.now) c.in_ok-top.top c.args.packed c.args.s.now c.args.d.now c.args.keep c.in_ok-step.step c.root-root.result c.next_id-next.result (c.level-level.result + 1) c.in_ok-indexed.field-0
    c.requires.ready c.root-root.ensures.table c.requires.room c.requires.level c.requires.low c.requires.can.source c.requires.can.target c.root-root.ensures.value c.next_id-next.ensures.value
    (ap (λ (n : ℕ). n + 1) (c.level-level.ensures ∙ ap (g.S.NodeStore.table c.args.store.now).level c.root-root.ensures.value)) (c.in_ok-indexed.ensures ∙ c.in_ok-list.ensures)
    (c.in_ok-top.ensures ∙ ap (λ (q : List ℕ). overlay (c.level-level.result + 1) (Some (record { child = c.root-root.result; source = q })) c.in_ok-indexed.field-0) (c.from_vec.ensures ∙ c.new.ensures.items)) c.in_ok-step.ensures) sound

pub returns-clause-call : goal.returns-clause-call
returns-clause-call g c =
    let nodes : Nodes = g.S.NodeStore.nodes c.args.store.now in
    let t : Table = g.S.NodeStore.table c.args.store.now in
    let new : Nodes = g.S.NodeStore.nodes c.commit.new.self in
    let u : Table = g.S.NodeStore.table c.commit.new.self in
    let ready : IsOverStep (g.S.NodeStore.is_known c.args.store.now) nodes t c.args.packed c.args.s.now c.args.d.now c.args.keep c.in_ok-step.step =
    (over_ready (g.S.NodeStore.is_known c.args.store.now) (g.S.NodeStore.nodes c.args.store.now) (g.S.NodeStore.table c.args.store.now) c.in_ok-top.top c.args.packed c.args.s.now c.args.d.now c.args.keep c.in_ok-step.step c.root-root.result c.next_id-next.result (c.level-level.result + 1) c.in_ok-indexed.field-0
    c.requires.ready c.root-root.ensures.table c.requires.room c.requires.level c.requires.low c.requires.can.source c.requires.can.target c.root-root.ensures.value c.next_id-next.ensures.value
    (ap (λ (n : ℕ). n + 1) (c.level-level.ensures ∙ ap (g.S.NodeStore.table c.args.store.now).level c.root-root.ensures.value)) (c.in_ok-indexed.ensures ∙ c.in_ok-list.ensures)
    (c.in_ok-top.ensures ∙ ap (λ (q : List ℕ). overlay (c.level-level.result + 1) (Some (record { child = c.root-root.result; source = q })) c.in_ok-indexed.field-0) (c.from_vec.ensures ∙ c.new.ensures.items)) c.in_ok-step.ensures) in
    record {
      made = made_of g.S.NodeStore c.args.s.now c.args.d.now c.args.keep c.args.store.now c.commit.new.self c.commit.result
          (λ known sound. over_done (g.S.NodeStore.is_known c.args.store.now) nodes t c.args.packed c.args.s.now c.args.d.now c.args.keep c.in_ok-step.step new u c.commit.result ready known sound c.commit.ensures.table (c.commit.ensures.committed known sound))
          (λ known sound. ok_sound nodes t c.in_ok-step.step new u c.commit.result (c.commit.ensures.committed known sound))
          (λ known sound. over_left (g.S.NodeStore.is_known c.args.store.now) nodes t c.args.packed c.args.s.now c.args.d.now c.args.keep c.in_ok-step.step new u c.commit.result ready c.requires.high known sound c.commit.ensures.table (c.commit.ensures.committed known sound))
          (λ known sound. over_same (g.S.NodeStore.is_known c.args.store.now) nodes t c.args.packed c.args.s.now c.args.d.now c.args.keep c.in_ok-step.step new u c.commit.result ready c.requires.high sound c.commit.ensures.table (c.commit.ensures.committed known sound))
          (over_grown (g.S.NodeStore.is_known c.args.store.now) nodes t c.args.packed c.args.s.now c.args.d.now c.args.keep c.in_ok-step.step u c.commit.result ready c.requires.ready.few c.commit.ensures.table);
      visits = step_visits (g.S.NodeStore.visit_count c.args.store.now) (g.S.NodeStore.visit_count c.commit.new.self) t u c.in_ok-step.step c.commit.result c.commit.ensures.table c.commit.ensures.visits;
      stays = c.commit.ensures.stays;
      err = c.commit.ensures.err;
      err_visits = c.commit.ensures.err_visits;
    }

pub returns-clause-cause : goal.returns-clause-cause
returns-clause-cause g c =
    worn_step (g.S.NodeStore.fault_count c.args.store.now) (g.S.NodeStore.fault_count c.commit.new.self) (g.S.NodeStore.last_failed c.commit.new.self) (g.S.NodeStore.bad c.commit.new.self) (g.S.NodeStore.table c.args.store.now) c.in_ok-step.step (step_over (g.S.NodeStore.table c.args.store.now) c.args.packed.made.items (graft_messages c.args.s.now c.args.d.now c.args.keep c.args.packed.target)) c.commit.result
    (over_ready (g.S.NodeStore.is_known c.args.store.now) (g.S.NodeStore.nodes c.args.store.now) (g.S.NodeStore.table c.args.store.now) c.in_ok-top.top c.args.packed c.args.s.now c.args.d.now c.args.keep c.in_ok-step.step c.root-root.result c.next_id-next.result (c.level-level.result + 1) c.in_ok-indexed.field-0
    c.requires.ready c.root-root.ensures.table c.requires.room c.requires.level c.requires.low c.requires.can.source c.requires.can.target c.root-root.ensures.value c.next_id-next.ensures.value
    (ap (λ (n : ℕ). n + 1) (c.level-level.ensures ∙ ap (g.S.NodeStore.table c.args.store.now).level c.root-root.ensures.value)) (c.in_ok-indexed.ensures ∙ c.in_ok-list.ensures)
    (c.in_ok-top.ensures ∙ ap (λ (q : List ℕ). overlay (c.level-level.result + 1) (Some (record { child = c.root-root.result; source = q })) c.in_ok-indexed.field-0) (c.from_vec.ensures ∙ c.new.ensures.items)) c.in_ok-step.ensures).is c.commit.ensures.cause
