use Rattle.std.proofs.Common.{ℕ, ap, sym, ◌∙◌}
use Rattle.bd_step.proofs.Down.{way_kept, way_fetched}
use Rattle.bd_step.proofs.ways.look_from.Goals as goal

pub count-requires : goal.count-requires
count-requires g c =
    way_kept (g.S.NodeStore.table c.args.store.now) c.args.parent c.deref.result.now c.args.place c.in-Child.id c.deref.ensures c.requires.fetched c.in-Child.ensures

pub returns-in-Nothing-clause-way_at : goal.returns-in-Nothing-clause-way_at
returns-in-Nothing-clause-way_at g c = λ known there all. c.push_or_carve.ensures.way_at (g.S.NodeStore.nodes c.args.store.now) (g.S.NodeStore.table c.args.store.now) all

pub returns-clause-at : goal.returns-clause-at
returns-clause-at g c = λ known own.
    c.in_ok-look_below.ensures.at (g.S.NodeStore.nodes c.args.store.now) (g.S.NodeStore.table c.args.store.now) own c.in-Child.ensures.0
    (way_fetched c.args.parent.node.value c.deref.result.now c.args.place c.in-Child.id c.in_ok-child.child.id c.deref.ensures c.in_ok-child.ensures.id c.in-Child.ensures)
    (ap (λ (i : ℕ). (g.S.NodeStore.table c.args.store.now).count i) c.in_ok-child.ensures.id ∙ sym c.count.ensures ∙ c.if-count-ne1.false)
    (ap (λ (i : ℕ). g.S.NodeStore.nodes c.args.store.now i) c.in_ok-child.ensures.id ∙ c.in_ok-child.ensures.contents known)
