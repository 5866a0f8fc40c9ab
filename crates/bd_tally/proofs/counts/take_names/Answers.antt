use Rattle.std.proofs.Common.{◌≡◌, ◌∙◌, ◌++◌, List, flat_map, ap, ap₂, sym, subst}
use Rattle.bd_message.specs.declared.message.Message.{Message}
use Rattle.bd_node.specs.declared.node.Edge.{Edge}
use Rattle.bd_node.specs.declared.node.Node.{Node}
use Rattle.bd_node.specs.Nodes.{names, edge_names, message_names}
use Rattle.bd_tally.specs.Counts.{counts_after}
use Rattle.bd_tally.proofs.CountLemmas.{counts_after-none, counts_after-counts_after, rising_now}
use Rattle.bd_tally.proofs.counts.take_names.Goals as goal

pub take_messages-requires : goal.take_messages-requires
take_messages-requires c = rising_now (flat_map edge_names c.as_slice.result.now) c.args.counts.now c.take_edges.new.counts c.requires c.take_edges.ensures

pub returns-in-Leaf : goal.returns-in-Leaf
returns-in-Leaf c =
    subst (λ (n : Node). c.args.counts.now ≡ counts_after (names n) c.args.counts.now) (sym c.in-Leaf.is) (sym (counts_after-none c.args.counts.now))

pub returns-in-Inner : goal.returns-in-Inner
returns-in-Inner c =
    let edges : List Edge = c.as_slice.result.now in
    let messages : List Message = c.as_slice-in-Inner.result.now in
    c.take_messages.ensures
    ∙ ap (counts_after (flat_map message_names messages)) c.take_edges.ensures
    ∙ counts_after-counts_after (flat_map edge_names edges) (flat_map message_names messages) c.args.counts.now
    ∙ ap₂ (λ (es : List Edge) (ms : List Message). counts_after (flat_map edge_names es ++ flat_map message_names ms) c.args.counts.now) c.as_slice.ensures c.as_slice-in-Inner.ensures
    ∙ sym (ap (λ (n : Node). counts_after (names n) c.args.counts.now) c.in-Inner.is)
