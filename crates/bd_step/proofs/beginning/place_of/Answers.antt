use Rattle.std.proofs.Common.{sym, ◌∙◌, arith}
use Rattle.bd_node.proofs.Parts.{edge_here}
use Rattle.bd_step.proofs.Begins.{place_low, past_all, found_it, none_asks_more, some_asks}
use Rattle.bd_step.proofs.beginning.place_of.Goals as goal

pub loop-place-init : goal.loop-place-init
loop-place-init c = λ i e low here is. absurd (omega arith)

pub returns-then-eq-clause-edge : goal.returns-then-eq-clause-edge
returns-then-eq-clause-edge c =
    found_it c.args.node.now c.loop-place.place c.args.child c.index-edges-place.result
    (edge_here c.edges-edges.result.now c.args.node.now c.loop-place.place c.index-edges-place.result c.edges-edges.ensures (place_low c.args.node.now c.edges-edges.result.now c.loop-place.place c.edges-edges.ensures c.loop-place-test.true) c.index-edges-place.is)
    (sym c.eq.ensures ∙ c.if-eq.true)

pub loop-place-preserved : goal.loop-place-preserved
loop-place-preserved c =
    none_asks_more c.args.node.now c.loop-place.place c.args.child c.index-edges-place.result
    (edge_here c.edges-edges.result.now c.args.node.now c.loop-place.place c.index-edges-place.result c.edges-edges.ensures (place_low c.args.node.now c.edges-edges.result.now c.loop-place.place c.edges-edges.ensures c.loop-place-test.true) c.index-edges-place.is)
    (sym c.eq.ensures ∙ c.if-eq.false) c.loop-place.invariant

pub returns-clause-edge : goal.returns-clause-edge
returns-clause-edge c = absurd (some_asks c.args.node.now c.loop-place.place c.args.child c.loop-place.invariant (past_all c.args.node.now c.edges-edges.result.now c.loop-place.place c.edges-edges.ensures c.loop-place-test.false) c.requires)

pub returns-clause-within : goal.returns-clause-within
returns-clause-within c = absurd (some_asks c.args.node.now c.loop-place.place c.args.child c.loop-place.invariant (past_all c.args.node.now c.edges-edges.result.now c.loop-place.place c.edges-edges.ensures c.loop-place-test.false) c.requires)
