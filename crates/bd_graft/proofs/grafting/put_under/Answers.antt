use Rattle.std.proofs.Common.{◌∙◌, subst, List}
use Rattle.bd_message.specs.declared.message.Message.{Message}
use Rattle.bd_message.specs.KeyMaps.{HasMapCause}
use Rattle.bd_node.specs.declared.node.Node.{Node}
use Rattle.bd_node.specs.Meaning.{Nodes}
use Rattle.bd_node.specs.Tables.{Table}
use Rattle.bd_node.specs.Steps.{IsWornByAdding, extend_step}
use Rattle.bd_graft.specs.Grafting.{graft_messages}
use Rattle.bd_graft.proofs.Grafts.{IsUnderStep, under_ready, under_step, under_done, ok_sound}
use Rattle.bd_graft.proofs.Leaving.{under_left, under_same, under_grown}
use Rattle.bd_graft.proofs.Visits.{step_visits}
use Rattle.bd_graft.proofs.Made.{room_is, made_of}
use Rattle.bd_graft.proofs.grafting.put_under.Goals as goal

pub extend-requires : goal.extend-requires
extend-requires g c = λ n root.
    under_step (g.S.NodeStore.is_known c.args.store.now) (g.S.NodeStore.nodes c.args.store.now) (g.S.NodeStore.table c.args.store.now) n c.args.packed c.args.s.now c.args.d.now c.args.keep _
    (under_ready (g.S.NodeStore.is_known c.args.store.now) (g.S.NodeStore.nodes c.args.store.now) (g.S.NodeStore.table c.args.store.now) n c.args.packed c.args.s.now c.args.d.now c.args.keep c.from_vec.result c.from_vec-2.result
    c.requires.ready c.is_table.ensures.table root c.requires.low c.requires.can.source c.requires.can.target (room_is (g.S.NodeStore.table c.args.store.now).size c.requires.can.fits) c.requires.room c.from_vec.ensures (c.from_vec-2.ensures ∙ c.in_ok-list.ensures))

pub returns-clause-call : goal.returns-clause-call
returns-clause-call g c =
    let nodes : Nodes = g.S.NodeStore.nodes c.args.store.now in
    let t : Table = g.S.NodeStore.table c.args.store.now in
    let new : Nodes = g.S.NodeStore.nodes c.extend.new.self in
    let u : Table = g.S.NodeStore.table c.extend.new.self in
    let n : Node = c.requires.root.node in
    let ready : IsUnderStep (g.S.NodeStore.is_known c.args.store.now) nodes t n c.args.packed c.args.s.now c.args.d.now c.args.keep (extend_step t n c.from_vec.result c.from_vec-2.result) =
    under_ready (g.S.NodeStore.is_known c.args.store.now) nodes t n c.args.packed c.args.s.now c.args.d.now c.args.keep c.from_vec.result c.from_vec-2.result
    c.requires.ready c.is_table.ensures.table c.requires.root.is c.requires.low c.requires.can.source c.requires.can.target (room_is t.size c.requires.can.fits) c.requires.room c.from_vec.ensures (c.from_vec-2.ensures ∙ c.in_ok-list.ensures) in
    let table = c.extend.ensures.table n c.requires.root.is in
    record {
      made = made_of g.S.NodeStore c.args.s.now c.args.d.now c.args.keep c.args.store.now c.extend.new.self c.extend.result
          (λ known sound. under_done (g.S.NodeStore.is_known c.args.store.now) nodes t n c.args.packed c.args.s.now c.args.d.now c.args.keep _ new u c.extend.result ready known sound (c.requires.root.there known) table (c.extend.ensures.committed known sound n (c.requires.root.there known)))
          (λ known sound. ok_sound nodes t _ new u c.extend.result (c.extend.ensures.committed known sound n (c.requires.root.there known)))
          (λ known sound. under_left (g.S.NodeStore.is_known c.args.store.now) nodes t n c.args.packed c.args.s.now c.args.d.now c.args.keep _ new u c.extend.result ready known sound (c.requires.root.there known) table (c.extend.ensures.committed known sound n (c.requires.root.there known)))
          (λ known sound. under_same (g.S.NodeStore.is_known c.args.store.now) nodes t n c.args.packed c.args.s.now c.args.d.now c.args.keep _ new u c.extend.result ready sound (c.requires.root.there known) table (c.extend.ensures.committed known sound n (c.requires.root.there known)))
          (under_grown (g.S.NodeStore.is_known c.args.store.now) nodes t n c.args.packed c.args.s.now c.args.d.now c.args.keep _ u c.extend.result ready c.requires.ready.few table);
      visits = step_visits (g.S.NodeStore.visit_count c.args.store.now) (g.S.NodeStore.visit_count c.extend.new.self) t u _ c.extend.result (c.extend.ensures.table c.requires.root.node c.requires.root.is) c.extend.ensures.visits;
      stays = c.extend.ensures.stays;
      err = c.extend.ensures.err;
      err_visits = c.extend.ensures.err_visits;
    }

pub returns-clause-cause : goal.returns-clause-cause
returns-clause-cause g c =
    subst (λ (made : List Node). HasMapCause (g.S.NodeStore.fault_count c.args.store.now) (g.S.NodeStore.fault_count c.extend.new.self) (g.S.NodeStore.last_failed c.extend.new.self) (g.S.NodeStore.bad c.extend.new.self) (IsWornByAdding (g.S.NodeStore.table c.args.store.now) made (graft_messages c.args.s.now c.args.d.now c.args.keep c.args.packed.target)) c.extend.result) c.from_vec.ensures
    (subst (λ (list : List Message). HasMapCause (g.S.NodeStore.fault_count c.args.store.now) (g.S.NodeStore.fault_count c.extend.new.self) (g.S.NodeStore.last_failed c.extend.new.self) (g.S.NodeStore.bad c.extend.new.self) (IsWornByAdding (g.S.NodeStore.table c.args.store.now) c.from_vec.result list) c.extend.result) (c.from_vec-2.ensures ∙ c.in_ok-list.ensures) c.extend.ensures.cause)
