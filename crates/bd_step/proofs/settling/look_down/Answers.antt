use Rattle.std.proofs.Common.{sym, ap, ◌∙◌}
use Rattle.bd_node.specs.Parts.{edges_of}
use Rattle.bd_node.proofs.Parts.{edge_here}
use Rattle.bd_step.proofs.Alongs.{unasked_stops, shared_stops, leads_down}
use Rattle.bd_step.proofs.Down.{way_kept}
use Rattle.bd_step.proofs.settling.look_down.Goals as goal

pub returns-in_default : goal.returns-in_default
returns-in_default g c = λ q e own little.
    unasked_stops (g.S.NodeStore.table c.args.store.now) c.args.here.now.node.value c.deref.result.now c.args.place c.asks.result q e c.deref.ensures c.asks.ensures c.in_default.not-Child own little

pub is_private_inner-requires : goal.is_private_inner-requires
is_private_inner-requires g c =
    way_kept (g.S.NodeStore.table c.args.store.now) c.args.here.now c.deref.result.now c.args.place c.in-Child.child c.deref.ensures c.requires.fetched c.in-Child.ensures

pub returns-then-not-is_private_inner : goal.returns-then-not-is_private_inner
returns-then-not-is_private_inner g c = λ q e own little.
    shared_stops (g.S.NodeStore.table c.args.store.now) c.args.here.now.node.value c.deref.result.now c.args.place c.in-Child.child c.is_private_inner.result q e c.deref.ensures c.in-Child.ensures c.if-not-is_private_inner.true c.is_private_inner.ensures own little

pub returns : goal.returns
returns g c = λ q e own little.
    let down = leads_down (g.S.NodeStore.table c.args.store.now) c.args.here.now.node.value c.deref.result.now c.args.place c.in-Child.child c.is_private_inner.result q e c.index-edges-place.result c.deref.ensures c.in-Child.ensures c.if-not-is_private_inner.false c.is_private_inner.ensures
    (edge_here c.edges.result.now c.args.here.now.node.value c.args.place c.index-edges-place.result (c.edges.ensures ∙ ap edges_of c.deref-2.ensures) c.requires.within c.index-edges-place.is) own little in
    (down.0, down.1, down.2, sym (ap (λ x. x.lift) c.index-edges-place.is) ∙ down.3)
