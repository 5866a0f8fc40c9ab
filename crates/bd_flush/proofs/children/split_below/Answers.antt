use Rattle.std.proofs.Common.{◌≡◌, subst, sym, rules}
use Rattle.bd_node.specs.declared.node.Edge.{Edge}
use Rattle.bd_node.specs.Parts.{IsEdgeAt}
use Rattle.bd_flush.specs.Children.{IsOver}
use Rattle.bd_flush.specs.declared.children.Halving.{Halving}
use Rattle.bd_node.proofs.Parts.{edge_here}
use Rattle.bd_flush.proofs.ChildSplits.{own_fits, short_is, long_is}
use Rattle.bd_flush.proofs.children.split_below.Goals as goal

pub over_halves-requires-clause-fits : goal.over_halves-requires-clause-fits
over_halves-requires-clause-fits c =
    let same : c.in_ok-edge.edge ≡ c.index-edges-place.result = search rules in
    own_fits c.args.node.now c.args.place c.in_ok-edge.edge c.requires.shape
    (subst (λ (e : Edge). IsEdgeAt c.args.node.now c.args.place e) (sym same)
    (edge_here c.edges.result.now c.args.node.now c.args.place c.index-edges-place.result c.edges.ensures c.requires.within c.index-edges-place.is))

pub returns-in-Short : goal.returns-in-Short
returns-in-Short c =
    let same : c.in_ok-edge.edge ≡ c.index-edges-place.result = search rules in
    short_is c.args.node.now c.args.place c.in_ok-edge.edge c.args.child.now c.args.next c.in_ok-halves.halves c.in-Short.parts
    (subst (λ (e : Edge). IsEdgeAt c.args.node.now c.args.place e) (sym same)
    (edge_here c.edges.result.now c.args.node.now c.args.place c.index-edges-place.result c.edges.ensures c.requires.within c.index-edges-place.is))
    c.in_ok-halves.ensures
    (subst (λ (h : Halving). IsOver c.args.node.now c.args.place c.in_ok-edge.edge c.in_ok-halves.halves c.args.next h) c.in-Short.is c.in_ok-parts.ensures)

pub returns : goal.returns
returns c =
    let same : c.in_ok-edge.edge ≡ c.index-edges-place.result = search rules in
    long_is c.args.node.now c.args.place c.in_ok-edge.edge c.args.child.now c.args.next c.in_ok-halves.halves c.in-Long.edge c.in-Long.halves
    (subst (λ (e : Edge). IsEdgeAt c.args.node.now c.args.place e) (sym same)
    (edge_here c.edges.result.now c.args.node.now c.args.place c.index-edges-place.result c.edges.ensures c.requires.within c.index-edges-place.is))
    c.in_ok-halves.ensures
    (subst (λ (h : Halving). IsOver c.args.node.now c.args.place c.in_ok-edge.edge c.in_ok-halves.halves c.args.next h) c.in-Long.is c.in_ok-parts.ensures)
