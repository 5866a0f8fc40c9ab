use Rattle.std.proofs.Common.{◌≡◌, ℕ, ◌+◌, sym, ap, subst, ◌∙◌, arith, List, Option, drop}
use Rattle.std.proofs.lemmas.Result.{IfOk-weaker}
use Rattle.bd_message.specs.Effect.{NodesAt}
use Rattle.bd_node.specs.declared.node.Edge.{Edge}
use Rattle.bd_node.specs.declared.node.Entry.{Entry}
use Rattle.bd_node.specs.declared.node.Node.{Node}
use Rattle.bd_node.specs.Nodes.{node_at, names, entry_at}
use Rattle.bd_node.specs.Shape.{end_before}
use Rattle.bd_query.specs.declared.stretch.Stretch.{Stretch}
use Rattle.bd_query.specs.Stretches.{IsEnd, IsWay, IsStretch, EndsBy, AsksOneOf, end_limit}
use Rattle.bd_query.proofs.StretchLemmas.{if_both, IsPlaced, placed, placed_way, placed_seen, placed_end, placed_stretch, asks_of_node}
use Rattle.bd_query.proofs.stretch.stretch_of.Goals as goal

pub through-requires-clause-edge : goal.through-requires-clause-edge
through-requires-clause-edge c =
    let at_place : IsPlaced c.in-Inner.level c.in-Inner.edges c.in-Inner.buffer c.args.key.now c.edge_place-place.result c.index-edges-place.result =
    placed c.args.node.now c.in-Inner.level c.in-Inner.edges c.as_slice-edges.result.now c.in-Inner.buffer c.args.key.now c.edge_place-place.result c.index-edges-place.result c.requires.shape c.in-Inner.is c.as_slice-edges.ensures c.edge_place-place.ensures.edge c.edge_place-place.ensures.within c.index-edges-place.is in
    let end : end_before (drop (c.edge_place-place.result + 1) c.in-Inner.edges) ≡ c.in_ok-end-in-Inner.end =
    ap (λ (es : List Edge). end_before (drop (c.edge_place-place.result + 1) es)) (sym c.as_slice-edges.ensures) ∙ sym c.end_of.ensures ∙ sym c.in_ok-end-in-Inner.ensures in
    subst (λ (e : Option (List ℕ)). IsWay c.index-edges-place.result c.args.key.now e) end
    (placed_way c.in-Inner.level c.in-Inner.edges c.in-Inner.buffer c.args.key.now c.edge_place-place.result c.index-edges-place.result at_place (λ i. omega (arith, c.type_inv.key i)))

pub through-requires-clause-seen : goal.through-requires-clause-seen
through-requires-clause-seen c =
    let at_place : IsPlaced c.in-Inner.level c.in-Inner.edges c.in-Inner.buffer c.args.key.now c.edge_place-place.result c.index-edges-place.result =
    placed c.args.node.now c.in-Inner.level c.in-Inner.edges c.as_slice-edges.result.now c.in-Inner.buffer c.args.key.now c.edge_place-place.result c.index-edges-place.result c.requires.shape c.in-Inner.is c.as_slice-edges.ensures c.edge_place-place.ensures.edge c.edge_place-place.ensures.within c.index-edges-place.is in
    placed_seen c.in-Inner.level c.in-Inner.edges c.in-Inner.buffer c.args.key.now c.edge_place-place.result c.index-edges-place.result at_place

pub through-requires-clause-end : goal.through-requires-clause-end
through-requires-clause-end c =
    let at_place : IsPlaced c.in-Inner.level c.in-Inner.edges c.in-Inner.buffer c.args.key.now c.edge_place-place.result c.index-edges-place.result =
    placed c.args.node.now c.in-Inner.level c.in-Inner.edges c.as_slice-edges.result.now c.in-Inner.buffer c.args.key.now c.edge_place-place.result c.index-edges-place.result c.requires.shape c.in-Inner.is c.as_slice-edges.ensures c.edge_place-place.ensures.edge c.edge_place-place.ensures.within c.index-edges-place.is in
    let end : end_before (drop (c.edge_place-place.result + 1) c.in-Inner.edges) ≡ c.in_ok-end-in-Inner.end =
    ap (λ (es : List Edge). end_before (drop (c.edge_place-place.result + 1) es)) (sym c.as_slice-edges.ensures) ∙ sym c.end_of.ensures ∙ sym c.in_ok-end-in-Inner.ensures in
    subst (λ (e : Option (List ℕ)). IsEnd c.args.key.now end_limit e) end
    (placed_end c.in-Inner.level c.in-Inner.edges c.in-Inner.buffer c.args.key.now c.edge_place-place.result c.index-edges-place.result at_place)

pub returns-in-Leaf-clause-stretch : goal.returns-in-Leaf-clause-stretch
returns-in-Leaf-clause-stretch c =
    IfOk-weaker c.among.result _ _ (λ (s : Stretch) said below.
    subst (λ (n : Node). IsStretch below (node_at below n) c.args.key.now s) (sym c.in-Leaf.is)
    (subst (λ (es : List Entry). IsStretch below (entry_at es) c.args.key.now s) c.as_slice.ensures (said below))) c.among.ensures.stretch

pub returns-in_ok-end-in-Inner-clause-stretch : goal.returns-in_ok-end-in-Inner-clause-stretch
returns-in_ok-end-in-Inner-clause-stretch c =
    let at_place : IsPlaced c.in-Inner.level c.in-Inner.edges c.in-Inner.buffer c.args.key.now c.edge_place-place.result c.index-edges-place.result =
    placed c.args.node.now c.in-Inner.level c.in-Inner.edges c.as_slice-edges.result.now c.in-Inner.buffer c.args.key.now c.edge_place-place.result c.index-edges-place.result c.requires.shape c.in-Inner.is c.as_slice-edges.ensures c.edge_place-place.ensures.edge c.edge_place-place.ensures.within c.index-edges-place.is in
    let end : end_before (drop (c.edge_place-place.result + 1) c.in-Inner.edges) ≡ c.in_ok-end-in-Inner.end =
    ap (λ (es : List Edge). end_before (drop (c.edge_place-place.result + 1) es)) (sym c.as_slice-edges.ensures) ∙ sym c.end_of.ensures ∙ sym c.in_ok-end-in-Inner.ensures in
    if_both _ _ (λ (s : Stretch). (below : NodesAt) → IsStretch below (node_at below c.args.node.now) c.args.key.now s) c.through.result c.through.ensures.stretch c.through.ensures.within
    (λ s said by below.
    subst (λ (n : Node). IsStretch below (node_at below n) c.args.key.now s) (sym c.in-Inner.is)
    (placed_stretch below c.in-Inner.level c.in-Inner.edges c.in-Inner.buffer c.args.key.now c.edge_place-place.result c.index-edges-place.result s at_place (λ i. omega (arith, c.type_inv.key i))
    (subst (λ (e : Option (List ℕ)). EndsBy e s) (sym end) by)
    (said below)))

pub returns-in_ok-end-in-Inner-clause-named : goal.returns-in_ok-end-in-Inner-clause-named
returns-in_ok-end-in-Inner-clause-named c =
    let at_place : IsPlaced c.in-Inner.level c.in-Inner.edges c.in-Inner.buffer c.args.key.now c.edge_place-place.result c.index-edges-place.result =
    placed c.args.node.now c.in-Inner.level c.in-Inner.edges c.as_slice-edges.result.now c.in-Inner.buffer c.args.key.now c.edge_place-place.result c.index-edges-place.result c.requires.shape c.in-Inner.is c.as_slice-edges.ensures c.edge_place-place.ensures.edge c.edge_place-place.ensures.within c.index-edges-place.is in
    IfOk-weaker c.through.result _ _ (λ (s : Stretch) h.
    subst (λ (n : Node). AsksOneOf (names n) s) (sym c.in-Inner.is)
    (asks_of_node c.in-Inner.edges c.in-Inner.buffer c.args.key.now c.index-edges-place.result s (sym at_place.edge ∙ at_place.there)
    h)) c.through.ensures.named
