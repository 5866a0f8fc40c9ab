use Rattle.std.proofs.Common.{◌≡◌, ℕ, List, get_or, sym, subst, ◌∙◌, arith, Option}
use Rattle.std.proofs.lemmas.Result.{IfOk-weaker}
use Rattle.bd_message.specs.declared.message.Message.{Message}
use Rattle.bd_message.specs.Effect.{NodesAt}
use Rattle.bd_node.specs.Nodes.{edge_at, edge_names}
use Rattle.bd_query.specs.declared.stretch.Stretch.{Stretch}
use Rattle.bd_query.specs.Stretches.{IsNewest, IsStretch}
use Rattle.bd_query.specs.Asks.{asked_first, asked_in}
use Rattle.bd_query.proofs.AskLemmas.{newest_asks, none_asks}
use Rattle.bd_query.proofs.StretchLemmas.{if_both, newest_there, through_given, through_message, through_edge, ends_within, way_within, asks_of_message, asks_of_edge}
use Rattle.bd_query.proofs.stretch.through.Goals as goal

pub of_edge-requires-clause-edge : goal.of_edge-requires-clause-edge
of_edge-requires-clause-edge c = way_within c.args.edge.now c.args.key.now c.in_ok-place.field-0.end c.args.end c.in_ok-place.ensures.within c.requires.edge

pub returns-in-Some-2-clause-stretch : goal.returns-in-Some-2-clause-stretch
returns-in-Some-2-clause-stretch c =
    let newest = subst (λ (p : Option ℕ). IsNewest c.args.buffer.now c.args.edge.now.seen c.args.key.now p c.in_ok-place.field-0.end) c.in-Some-2.is c.in_ok-place.ensures.newest in
    if_both _ _ (λ (s : Stretch). (below : NodesAt) → IsStretch below (edge_at below c.args.edge.now c.args.buffer.now) c.args.key.now s) c.of_message.result c.of_message.ensures.stretch c.of_message.ensures.within
    (λ s said by below.
    through_message below c.args.edge.now c.args.buffer.now c.args.key.now c.in_ok-place.field-0.end c.in-Some-2.place c.index-list-place-in-Some-2.result s newest
    (newest_there c.args.buffer.now c.args.edge.now.seen c.args.key.now c.in_ok-place.field-0.end c.in-Some-2.place c.index-list-place-in-Some-2.result newest (subst (λ (list : List Message). c.index-list-place-in-Some-2.result ≡ get_or list c.in-Some-2.place c.index-list-place-in-Some-2.result) c.as_slice-list.ensures c.index-list-place-in-Some-2.is))
    by (λ i. omega (arith, c.type_inv.key i)) c.in_ok-place.ensures.end.above (said below))

pub returns-in-Some-2-clause-within : goal.returns-in-Some-2-clause-within
returns-in-Some-2-clause-within c =
    IfOk-weaker c.of_message.result _ _ (λ (s : Stretch) by. ends_within c.in_ok-place.field-0.end c.args.end s c.in_ok-place.ensures.within by) c.of_message.ensures.within

pub returns-in-Some-2-clause-named : goal.returns-in-Some-2-clause-named
returns-in-Some-2-clause-named c =
    let newest = subst (λ (p : Option ℕ). IsNewest c.args.buffer.now c.args.edge.now.seen c.args.key.now p c.in_ok-place.field-0.end) c.in-Some-2.is c.in_ok-place.ensures.newest in
    IfOk-weaker c.of_message.result _ _ (λ (s : Stretch) h.
    asks_of_message (edge_names c.args.edge.now) c.args.buffer.now c.in-Some-2.place c.index-list-place-in-Some-2.result s
    (newest_there c.args.buffer.now c.args.edge.now.seen c.args.key.now c.in_ok-place.field-0.end c.in-Some-2.place c.index-list-place-in-Some-2.result newest (subst (λ (list : List Message). c.index-list-place-in-Some-2.result ≡ get_or list c.in-Some-2.place c.index-list-place-in-Some-2.result) c.as_slice-list.ensures c.index-list-place-in-Some-2.is)) h) c.of_message.ensures.named

pub returns-in-None-clause-stretch : goal.returns-in-None-clause-stretch
returns-in-None-clause-stretch c =
    let newest = subst (λ (p : Option ℕ). IsNewest c.args.buffer.now c.args.edge.now.seen c.args.key.now p c.in_ok-place.field-0.end) c.in-None.is c.in_ok-place.ensures.newest in
    if_both _ _ (λ (s : Stretch). (below : NodesAt) → IsStretch below (edge_at below c.args.edge.now c.args.buffer.now) c.args.key.now s) c.of_edge.result c.of_edge.ensures.stretch c.of_edge.ensures.within
    (λ s said by below.
    through_edge below c.args.edge.now c.args.buffer.now c.args.key.now c.in_ok-place.field-0.end s newest c.requires.seen
    by (λ i. omega (arith, c.type_inv.key i)) c.in_ok-place.ensures.end.above (said below))

pub returns-in-None-clause-within : goal.returns-in-None-clause-within
returns-in-None-clause-within c =
    IfOk-weaker c.of_edge.result _ _ (λ (s : Stretch) by. ends_within c.in_ok-place.field-0.end c.args.end s c.in_ok-place.ensures.within by) c.of_edge.ensures.within

pub returns-in-None-clause-named : goal.returns-in-None-clause-named
returns-in-None-clause-named c =
    IfOk-weaker c.of_edge.result _ _ (λ (s : Stretch) h. asks_of_edge (edge_names c.args.edge.now) _ s h) c.of_edge.ensures.named

pub returns-in-Some-2-clause-asks : goal.returns-in-Some-2-clause-asks
returns-in-Some-2-clause-asks c =
    let newest = subst (λ (p : Option ℕ). IsNewest c.args.buffer.now c.args.edge.now.seen c.args.key.now p c.in_ok-place.field-0.end) c.in-Some-2.is c.in_ok-place.ensures.newest in
    IfOk-weaker c.of_message.result _ _ (λ (s : Stretch) h.
    newest_asks c.args.buffer.now c.args.edge.now.seen c.args.key.now c.in_ok-place.field-0.end c.in-Some-2.place c.index-list-place-in-Some-2.result (asked_first c.args.edge.now c.args.key.now) (asked_in s c.args.key.now) h newest c.in_ok-place.ensures.end.above (subst (λ (list : List Message). c.index-list-place-in-Some-2.result ≡ get_or list c.in-Some-2.place c.index-list-place-in-Some-2.result) c.as_slice-list.ensures c.index-list-place-in-Some-2.is)) c.of_message.ensures.asks

pub returns-in-None-clause-asks : goal.returns-in-None-clause-asks
returns-in-None-clause-asks c =
    let newest = subst (λ (p : Option ℕ). IsNewest c.args.buffer.now c.args.edge.now.seen c.args.key.now p c.in_ok-place.field-0.end) c.in-None.is c.in_ok-place.ensures.newest in
    IfOk-weaker c.of_edge.result _ _ (λ (s : Stretch) h.
    none_asks c.args.buffer.now c.args.edge.now.seen c.args.key.now c.in_ok-place.field-0.end (asked_first c.args.edge.now c.args.key.now) newest c.in_ok-place.ensures.end.above ∙ h) c.of_edge.ensures.asks

pub returns-in_ok-part_through-in-Some-clause-stretch : goal.returns-in_ok-part_through-in-Some-clause-stretch
returns-in_ok-part_through-in-Some-clause-stretch c below =
    let newest = subst (λ (p : Option ℕ). IsNewest c.args.buffer.now c.args.edge.now.seen c.args.key.now p c.in_ok-place.field-0.end) c.in-Some.is c.in_ok-place.ensures.newest in (
      through_given below c.args.edge.now c.args.buffer.now c.args.key.now c.in_ok-place.field-0.end c.in-Some.place c.index-list-place.result newest
          (newest_there c.args.buffer.now c.args.edge.now.seen c.args.key.now c.in_ok-place.field-0.end c.in-Some.place c.index-list-place.result newest (subst (λ (list : List Message). c.index-list-place.result ≡ get_or list c.in-Some.place c.index-list-place.result) c.as_slice-list.ensures c.index-list-place.is))
          c.in_ok-place.ensures.end.above (sym c.gives_value.ensures ∙ c.if-gives_value.true),
      c.in_ok-part_through-in-Some.ensures.part below,
    )
