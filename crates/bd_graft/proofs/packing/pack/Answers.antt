use Rattle.std.proofs.Common.{arith}
use Rattle.std.proofs.lemmas.Result.{IfOk-weaker}
use Rattle.bd_graft.specs.declared.packing.Packed.{Packed}
use Rattle.bd_graft.specs.Walking.{messages_in}
use Rattle.bd_graft.specs.Packing.{packs, newest_of}
use Rattle.bd_graft.proofs.Packs.{packed_of}
use Rattle.bd_graft.proofs.Grouping.{overlaid_length, stack_room, packed_with}
use Rattle.bd_graft.proofs.packing.pack.Goals as goal

pub stacked-requires-clause-room : goal.stacked-requires-clause-room
stacked-requires-clause-room g c = omega (arith, c.requires.room, overlaid_length c.args.end (packs (messages_in c.args.layers.items)))

pub finished-requires-clause-room : goal.finished-requires-clause-room
finished-requires-clause-room g c =
    let room = stack_room (g.S.NodeStore.table c.args.store.now) c.args.end (packs (messages_in c.args.layers.items)) (newest_of (packs (messages_in c.args.layers.items))) c.in_ok-stack.stack _ c.in_ok-stack.ensures.groups (overlaid_length c.args.end (packs (messages_in c.args.layers.items))) c.requires.room in
    omega (arith, room, c.next_id-next.ensures.value)

pub returns-clause-packed : goal.returns-clause-packed
returns-clause-packed g c =
    IfOk-weaker c.finished.result _ _ (λ (p : Packed) finished.
    packed_of (g.S.NodeStore.table c.args.store.now) c.args.end c.next_id-next.result c.args.layers.items c.in_ok-stack.stack p c.next_id-next.ensures.table c.next_id-next.ensures.value
    (stack_room (g.S.NodeStore.table c.args.store.now) c.args.end (packs (messages_in c.args.layers.items)) (newest_of (packs (messages_in c.args.layers.items))) c.in_ok-stack.stack _ c.in_ok-stack.ensures.groups (overlaid_length c.args.end (packs (messages_in c.args.layers.items))) c.requires.room)
    c.requires.layers
    (record { stack = c.in_ok-stack.ensures.stack; low = c.in_ok-stack.ensures.low; few = c.in_ok-stack.ensures.few; begun = c.in_ok-stack.ensures.begun }) finished)
    c.finished.ensures

pub returns-clause-groups : goal.returns-clause-groups
returns-clause-groups g c =
    IfOk-weaker c.finished.result _ _ (λ (p : Packed) finished.
    packed_with (g.S.NodeStore.table c.args.store.now) c.args.end c.next_id-next.result (messages_in c.args.layers.items) c.in_ok-stack.stack p c.next_id-next.ensures.value c.in_ok-stack.ensures.groups finished)
    c.finished.ensures
