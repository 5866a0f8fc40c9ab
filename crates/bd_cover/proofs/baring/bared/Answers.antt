use Rattle.std.proofs.Common.{List, ◌∷◌, [], ◌++◌, ap, ◌∙◌}
use Rattle.bd_node.specs.declared.node.Edge.{Edge}
use Rattle.bd_node.proofs.Parts.{edge_within}
use Rattle.bd_cover.proofs.Barings.{read_fits, on_bared}
use Rattle.bd_cover.proofs.baring.bared.Goals as goal

pub exchange-requires-clause-within : goal.exchange-requires-clause-within
exchange-requires-clause-within c = edge_within c.args.node.now c.args.place c.requires.child.edge c.requires.child.asks.here

pub exchange-requires-clause-fits : goal.exchange-requires-clause-fits
exchange-requires-clause-fits c = read_fits c.args.node.now c.edges-edges.result.now c.args.place c.index-edges-place.result c.in_ok-edge.edge c.from_vec.result c.requires.shape c.requires.child c.edges-edges.ensures c.index-edges-place.is c.in_ok-edge.ensures (c.from_vec.ensures ∙ c.in_ok-push.ensures.items ∙ ap (λ (l : List Edge). l ++ c.in_ok-edge.edge ∷ []) c.new-list.ensures.items)

pub returns : goal.returns
returns c = on_bared c.args.node.now c.edges-edges.result.now c.args.place c.index-edges-place.result c.in_ok-edge.edge c.from_vec.result c.exchange.result c.requires.child c.edges-edges.ensures c.index-edges-place.is c.in_ok-edge.ensures (c.from_vec.ensures ∙ c.in_ok-push.ensures.items ∙ ap (λ (l : List Edge). l ++ c.in_ok-edge.edge ∷ []) c.new-list.ensures.items) c.exchange.ensures.node
