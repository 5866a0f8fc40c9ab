use Rattle.std.proofs.Common.{List, ◌∷◌, [], ◌++◌, ap, ◌∙◌, arith}
use Rattle.bd_node.specs.declared.node.Edge.{Edge}
use Rattle.bd_copy.proofs.Copies.{redirected_fits, on_redirected}
use Rattle.bd_copy.proofs.copying.redirected.Goals as goal

pub exchange-requires-clause-fits : goal.exchange-requires-clause-fits
exchange-requires-clause-fits c =
    redirected_fits c.args.node.now c.args.place c.args.child c.edges.result.now c.from_vec.result c.index-edges-place.result c.in_ok-edge.edge c.requires.shape c.edges.ensures c.requires.within c.index-edges-place.is c.requires.child (omega (arith, c.ranges.child.fits))
    (c.from_vec.ensures ∙ c.in_ok-push.ensures.items ∙ ap (λ (l : List Edge). l ++ c.in_ok-edge.edge ∷ []) c.new-list.ensures.items) c.in_ok-edge.ensures

pub returns : goal.returns
returns c =
    on_redirected c.args.node.now c.args.place c.args.child c.edges.result.now c.from_vec.result c.index-edges-place.result c.in_ok-edge.edge c.exchange.result c.edges.ensures c.requires.within c.index-edges-place.is
    (c.from_vec.ensures ∙ c.in_ok-push.ensures.items ∙ ap (λ (l : List Edge). l ++ c.in_ok-edge.edge ∷ []) c.new-list.ensures.items) c.in_ok-edge.ensures c.exchange.ensures.node
