use Rattle.std.proofs.Common.{ap, ◌∙◌, arith, length, List, ℕ}
use Rattle.bd_graft.specs.declared.packing.Packed.{Packed}
use Rattle.bd_graft.specs.Grafting.{graft_messages}
use Rattle.bd_graft.proofs.Counters.{worn_under}
use Rattle.bd_graft.proofs.Wearing.{extend_cause}
use Rattle.bd_graft.proofs.Looks.{again_ready}
use Rattle.bd_node.proofs.Extending.{root_inner}
use Rattle.bd_graft.proofs.grafting.put_again.Goals as goal

pub put_under-requires-clause-room : goal.put_under-requires-clause-room
put_under-requires-clause-room g c = omega (arith, ap (λ (ns : List _). length ns) c.new.ensures.items, c.is_table.ensures.next)

pub put_under-requires-clause-ready : goal.put_under-requires-clause-ready
put_under-requires-clause-ready g c =
    again_ready (g.S.NodeStore.is_known c.args.store.now) (g.S.NodeStore.nodes c.args.store.now) (g.S.NodeStore.table c.args.store.now) c.args.s.now c.args.child (record { made = c.new.result; target = record { child = c.args.child; source = c.from_vec.result }; level = c.level.result })
    c.is_table.ensures.table c.requires.low c.new.ensures.items (ap (λ (q : List ℕ). record { child = c.args.child; source = q }) (c.from_vec.ensures ∙ c.new-2.ensures.items)) c.level.ensures c.requires.value c.requires.sent

pub returns-clause-worn : goal.returns-clause-worn
returns-clause-worn g c = λ known sound.
    let packed : Packed = record { made = c.new.result; target = record { child = c.args.child; source = c.from_vec.result }; level = c.level.result } in
    worn_under (g.S.NodeStore.fault_count c.args.store.now) (g.S.NodeStore.fault_count c.put_under.new.store) (g.S.NodeStore.last_failed c.put_under.new.store) (g.S.NodeStore.bad c.put_under.new.store) (g.S.NodeStore.is_known c.args.store.now) (g.S.NodeStore.nodes c.args.store.now) (g.S.NodeStore.table c.args.store.now) c.requires.root.node packed c.args.s.now c.args.d.now c.args.keep c.put_under.result
    (again_ready (g.S.NodeStore.is_known c.args.store.now) (g.S.NodeStore.nodes c.args.store.now) (g.S.NodeStore.table c.args.store.now) c.args.s.now c.args.child packed
    c.is_table.ensures.table c.requires.low c.new.ensures.items (ap (λ (q : List ℕ). record { child = c.args.child; source = q }) (c.from_vec.ensures ∙ c.new-2.ensures.items)) c.level.ensures c.requires.value c.requires.sent)
    known sound (c.requires.root.there known) (omega (arith, c.requires.low.lower, c.level.ensures))
    (extend_cause (g.S.NodeStore.fault_count c.args.store.now) (g.S.NodeStore.fault_count c.put_under.new.store) (g.S.NodeStore.last_failed c.put_under.new.store) (g.S.NodeStore.bad c.put_under.new.store) (g.S.NodeStore.table c.args.store.now) c.requires.root.node c.new.result.items (graft_messages c.args.s.now c.args.d.now c.args.keep packed.target) c.put_under.result (root_inner (g.S.NodeStore.table c.args.store.now) c.requires.root.node sound.table c.requires.root.is) c.put_under.ensures.cause)
