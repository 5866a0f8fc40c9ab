use Rattle.std.proofs.Common.{arith, ap, sym, subst, ◌∙◌, ◌<◌, ◌≤◌, length, List}
use Rattle.bd_node.specs.declared.node.Edge.{Edge}
use Rattle.bd_limits.specs.Limits.{soft_limit}
use Rattle.bd_node.specs.Nodes.{buffer_size}
use Rattle.bd_node.specs.Parts.{edges_of}
use Rattle.bd_step.specs.declared.ways.FlushStep.{FlushStep}
use Rattle.bd_step.specs.Ways.{IsStanding}
use Rattle.bd_step.proofs.Down.{is_next, child_own, way_more}
use Rattle.bd_step.proofs.ways.look_below.Goals as goal

pub returns-then-buffer_size-le-SOFT_BUFFER-clause-seen : goal.returns-then-buffer_size-le-SOFT_BUFFER-clause-seen
returns-then-buffer_size-le-SOFT_BUFFER-clause-seen g c = λ room e way once under.
    let few : buffer_size c.args.child.node.value ≤ soft_limit = omega (arith, c.buffer_size.ensures, ap buffer_size c.deref.ensures) in
    (c.push_or_carve.ensures.due room e (way, c.requires.child, once, few) under, c.push_or_carve.ensures.here, c.push_or_carve.ensures.full)

pub returns-then-edges-lt-FULL_EDGES-clause-seen : goal.returns-then-edges-lt-FULL_EDGES-clause-seen
returns-then-edges-lt-FULL_EDGES-clause-seen g c = λ room e way once under.
    let waits : soft_limit < buffer_size c.args.child.node.value = omega (arith, c.buffer_size.ensures, ap buffer_size c.deref.ensures) in
    is_next (g.S.NodeStore.table c.args.store.now) c.args.parent c.args.place c.args.child e c.requires.fetched way once c.requires.child waits
    (omega (arith, ap (λ (l : List Edge). length l) (c.edges.ensures ∙ ap edges_of c.deref-2.ensures)))

pub returns-then-edges-lt-FULL_EDGES-clause-at : goal.returns-then-edges-lt-FULL_EDGES-clause-at
returns-then-edges-lt-FULL_EDGES-clause-at g c = λ nodes t own e way once contents.
    child_own nodes t c.args.parent c.args.place c.args.child e own c.requires.fetched.own.shape way once contents

pub returns-clause-at : goal.returns-clause-at
returns-clause-at g c = λ nodes t own e way once contents.
    subst (λ (s : FlushStep). IsStanding nodes t s) (sym c.at_edge.ensures)
    (own, child_own nodes t c.args.parent c.args.place c.args.child e own c.requires.fetched.own.shape way once contents)

pub returns-then-buffer_size-le-SOFT_BUFFER-clause-way_at : goal.returns-then-buffer_size-le-SOFT_BUFFER-clause-way_at
returns-then-buffer_size-le-SOFT_BUFFER-clause-way_at g c = λ nodes t there all. c.push_or_carve.ensures.way_at nodes t all

pub returns-then-edges-lt-FULL_EDGES-clause-way : goal.returns-then-edges-lt-FULL_EDGES-clause-way
returns-then-edges-lt-FULL_EDGES-clause-way g c = λ t e fetched way once up.
    way_more t c.args.above.items c.push.new.self.items c.args.parent c.args.place c.args.child.id e c.in_ok-push.ensures.items fetched way once up
