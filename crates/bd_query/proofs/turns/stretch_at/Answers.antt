use Rattle.std.proofs.Common.{subst, sym, ◌∙◌, ◌≡◌}
use Rattle.std.proofs.lemmas.Option.{same_Some}
use Rattle.bd_node.specs.declared.node.Node.{Node}
use Rattle.bd_node.specs.Nodes.{names, node_at}
use Rattle.bd_query.specs.Stretches.{AsksOneOf, IsStretch}
use Rattle.bd_query.specs.Asks.{asked_at, asked_in}
use Rattle.bd_query.proofs.TurnLemmas.{asks_lower}
use Rattle.bd_query.proofs.turns.stretch_at.Goals as goal

pub returns-clause-lower : goal.returns-clause-lower
returns-clause-lower g c =
    asks_lower (g.S.NodeStore.table c.args.store.now) ((g.S.NodeStore.table c.args.store.now).level c.args.id) c.in_ok-node.node.value c.in_ok-stretch_of.field-0 c.in_ok-node.ensures.shape
    (subst (λ (n : Node). AsksOneOf (names n) c.in_ok-stretch_of.field-0) c.deref.ensures c.in_ok-stretch_of.ensures.named)

pub returns-clause-stretch : goal.returns-clause-stretch
returns-clause-stretch g c known n there below =
    let same : c.in_ok-node.node.value ≡ n = same_Some c.in_ok-node.node.value n (sym (c.in_ok-node.ensures.contents known) ∙ there) in
    subst (λ (m : Node). IsStretch below (node_at below m) c.args.key.now c.in_ok-stretch_of.field-0) (c.deref.ensures ∙ same) (c.in_ok-stretch_of.ensures.stretch below)

pub returns-clause-asks : goal.returns-clause-asks
returns-clause-asks g c known n there =
    let same : c.in_ok-node.node.value ≡ n = same_Some c.in_ok-node.node.value n (sym (c.in_ok-node.ensures.contents known) ∙ there) in
    subst (λ (m : Node). asked_at m c.args.key.now ≡ asked_in c.in_ok-stretch_of.field-0 c.args.key.now) (c.deref.ensures ∙ same) c.in_ok-stretch_of.ensures.asks
